-- What a store holds between the calls of a write: whole items, if it held them before.
use Rattle.std.proofs.Common.{◌≡◌, ℕ, ◌+◌, ◌*◌, ◌≤◌, List, ◌++◌, length, take, drop, map, sum, replicate, Bool, true, false, ◌||◌, nat_lt}
use Rattle.std.proofs.Common.{inl, inr, ap, sym, ◌∙◌, arith, eq-eqb}
use Rattle.std.proofs.lemmas.Bool.{eqb-true, ltb-false}
use Rattle.std.proofs.lemmas.List.{map-append, take_all, drop_at, drop-append-le, take-append-drop, length-append, length-drop, length-take-le, length-replicate}
use Rattle.std.proofs.lemmas.List.Sums.{sum_by-take-le}
use Rattle.media_tape.specs.Items.{Item, Filemark, size, size_of, items_of, torn_at, is_tape}
use Rattle.media_tape.specs.Tape.{AreIn}
use Rattle.media_tape.specs.Writing.{StandsBetween}
use Rattle.tape_index.proofs.Alike.{sum-append, sum-replicate}
use Rattle.media_tape.proofs.Indexed.{parsed, many_parsed, placed_parsed, or_false}
use Rattle.media_tape.proofs.Items.{drop-items_of, items_of-replaced}
use Rattle.media_tape.proofs.Sizes.{sum-sizes}
use Rattle.media_tape.proofs.Spelled.{items_of-zeros, sizes-filemarks}

size_of-append : (xs ys : List Item) → size_of (xs ++ ys) ≡ size_of xs + size_of ys
size_of-append xs ys =
    sym (sum-sizes (xs ++ ys)) ∙ ap sum (map-append size xs ys) ∙ sum-append (map size xs) (map size ys) ∙ omega (arith, sum-sizes xs, sum-sizes ys)

-- whole items, and others after them
whole-append : (xs ys : List ℕ) → torn_at xs ≡ length xs → torn_at ys ≡ length ys → torn_at (xs ++ ys) ≡ length (xs ++ ys)
whole-append xs ys first second =
    let items = items_of xs in
    let all = take_all (length items) items (omega arith) in
    let front : take (size_of (take (length items) items)) xs ≡ xs =
    ap (λ (n : ℕ). take n xs) (ap size_of all ∙ first) ∙ take_all (length xs) xs (omega arith) in
    let is : items_of (xs ++ ys) ≡ items ++ items_of ys =
    ap (λ (bytes : List ℕ). items_of (bytes ++ ys)) (sym front) ∙ items_of-replaced (length items) xs ys
    ∙ ap (λ (some : List Item). some ++ items_of ys) all in
    ap size_of is ∙ size_of-append items (items_of ys) ∙ omega (arith, first, second, length-append xs ys)

-- what stands after a position is whole items if what stands after all items is
whole_after : (content sizes : List ℕ) (is_torn : Bool) (position : ℕ) → AreIn content sizes is_torn → position ≤ length sizes
    → is_tape (drop (sum sizes) content) ≡ true → is_tape (drop (sum (take position sizes)) content) ≡ true
whole_after content sizes is_torn position are within whole =
    let end = sum sizes in
    let place = sum (take position sizes) in
    let bytes = take end content in
    let tail = drop end content in
    let items = parsed content sizes in
    let below : place ≤ end = sum_by-take-le (λ n. n) sizes position in
    let long : length bytes ≡ end = length-take-le end content are.long in
    let before = placed_parsed content sizes is_torn position are in
    let here : drop position items ≡ items_of (drop place bytes) =
    rw before at (drop-items_of position bytes (omega (arith, within, many_parsed content sizes is_torn are))) in
    let all : size_of items ≡ end = sym (sum-sizes items) ∙ ap sum are.sized in
    let parts = ap size_of (take-append-drop position items) in
    let split = size_of-append (take position items) (drop position items) in
    let first : torn_at (drop place bytes) ≡ length (drop place bytes) =
    sym (ap size_of here) ∙ omega (arith, all, parts, split, before, length-drop place bytes, long, below) in
    let is : drop place content ≡ drop place bytes ++ tail =
    ap (drop place) (sym (take-append-drop end content)) ∙ drop-append-le place bytes tail (omega (arith, long, below)) in
    let both = whole-append (drop place bytes) tail first (eqb-true (torn_at tail) (length tail) whole) in
    rw is (eq-eqb (torn_at (drop place bytes ++ tail)) (length (drop place bytes ++ tail)) both)

whole-filemarks : (many : ℕ) → is_tape (replicate (8 * many) 0) ≡ true
whole-filemarks many =
    let bytes = replicate (8 * many) 0 in
    let end : torn_at bytes ≡ many * 8 = ap size_of (items_of-zeros many) ∙ sym (sum-sizes (replicate many Filemark)) ∙ ap sum (sizes-filemarks many)
    ∙ sum-replicate many 8 in
    eq-eqb (torn_at bytes) (length bytes) (omega (arith, end, length-replicate {A = ℕ} (8 * many) 0))

pub between : (content sizes new : List ℕ) (was_torn : Bool) (position : ℕ) → AreIn content sizes was_torn → position ≤ length sizes
    → is_tape (drop (sum sizes) content) ≡ true
    → (sum (take position sizes) ≤ length content → (was_torn || nat_lt position (length sizes) ≡ false → length content ≡ sum (take position sizes))
    → StandsBetween (sum (take position sizes)) content new)
    → is_tape (drop (sum (take position sizes)) new) ≡ true
between content sizes new was_torn position are within whole stands =
    let place = sum (take position sizes) in
    let below : place ≤ length content = omega (arith, sum_by-take-le (λ n. n) sizes position, are.long) in
    let ends : was_torn || nat_lt position (length sizes) ≡ false → length content ≡ place = λ none.
    let parts = or_false was_torn (nat_lt position (length sizes)) none in
    are.whole parts.0 ∙ ap sum (sym (take_all position sizes (ltb-false position (length sizes) parts.1))) in
    elim (stands below ends) [
      | inl same ↦ rw same (whole_after content sizes was_torn position are within whole)
      | inr marks ↦
          let zeros : List ℕ = replicate {A = ℕ} (8 * marks.0) 0 in
          let is : drop place new ≡ zeros =
          ap (drop place) marks.1 ∙ drop_at (take place content) zeros place (length-take-le place content below) in
          rw is (whole-filemarks marks.0)
    ]
