-- What a tape knows by the sizes of its items: where others were written, where a write or a cut failed, and of the next item.
use Rattle.std.proofs.Common.{◌≡◌, ℕ, suc, ◌+◌, ◌-◌, ◌≤◌, ◌<◌, List, [], ◌∷◌, ◌++◌, length, take, drop, slice_range, map, sum, get_or, drop-cons}
use Rattle.std.proofs.Common.{Bool, false, ◌||◌, nat_lt, IsTrue, All, inl, inr, refl, ap, sym, subst, ◌∙◌, arith, add-one}
use Rattle.std.proofs.Math.Seq.{take-add}
use Rattle.std.proofs.lemmas.Bool.{ltb-false}
use Rattle.std.proofs.lemmas.List.{take-map, drop-map, length-map, map-append, take_all, drop_all, drop_at, take-take, drop-take, drop-drop}
use Rattle.std.proofs.lemmas.List.{length-drop, length-take-le, length-append, take-append-drop, append-nil, take_more}
use Rattle.std.proofs.lemmas.List.Elements.{All-append, All-take}
use Rattle.std.proofs.lemmas.List.Sums.{sum_by-take-le, sum_by-cons}
use Rattle.media_tape.specs.Items.{Item, item_of, size, size_of, IsSize, items_sized, items_in, items_of}
use Rattle.media_tape.specs.Tape.{AreIn, IsIndexed, length_told, first_told, first_data}
use Rattle.media_tape.specs.Writing.{KeepsBefore}
use Rattle.media_tape.proofs.Items.{front-cases, front-is, length-front, items_of-next, items_of-none, drop-items_of, items_of-replaced}
use Rattle.media_tape.proofs.Commands.{first_told-item, first_data-item}
use Rattle.media_tape.proofs.Sizes.{sum-sizes}
use Rattle.media_tape.proofs.Sized.{sizes-sized, items_sized-is}
use Rattle.tape_index.proofs.Alike.{sum-append}

-- the items that a tape has by their sizes, and those that its content parses to
abbrev pub shown : List ℕ → List ℕ → List Item
shown content sizes = items_sized sizes content

abbrev pub parsed : List ℕ → List ℕ → List Item
parsed content sizes = items_of (take (sum sizes) content)

pub shown_is : (content sizes : List ℕ) (is_torn : Bool) → AreIn content sizes is_torn → shown content sizes ≡ parsed content sizes
shown_is content sizes is_torn are = items_sized-is sizes content are.long are.sized

pub many_parsed : (content sizes : List ℕ) (is_torn : Bool) → AreIn content sizes is_torn → length (parsed content sizes) ≡ length sizes
many_parsed content sizes is_torn are = sym (length-map (parsed content sizes) size) ∙ ap length are.sized

before_parsed : (content sizes : List ℕ) (is_torn : Bool) (position : ℕ) → AreIn content sizes is_torn
    → map size (take position (parsed content sizes)) ≡ take position sizes
before_parsed content sizes is_torn position are = sym (take-map size position (parsed content sizes)) ∙ ap (take position) are.sized

-- the place of a position
pub placed_parsed : (content sizes : List ℕ) (is_torn : Bool) (position : ℕ) → AreIn content sizes is_torn
    → size_of (take position (parsed content sizes)) ≡ sum (take position sizes)
placed_parsed content sizes is_torn position are =
    sym (sum-sizes (take position (parsed content sizes))) ∙ ap sum (before_parsed content sizes is_torn position are)

pub before_sized : (content sizes : List ℕ) (position : ℕ) → All IsSize sizes → map size (take position (shown content sizes)) ≡ take position sizes
before_sized content sizes position are = sym (take-map size position (shown content sizes)) ∙ ap (take position) (sizes-sized sizes content are)

pub after_sized : (content sizes : List ℕ) (position : ℕ) → All IsSize sizes → map size (drop position (shown content sizes)) ≡ drop position sizes
after_sized content sizes position are = sym (drop-map size position (shown content sizes)) ∙ ap (drop position) (sizes-sized sizes content are)

pub placed : (content sizes : List ℕ) (position : ℕ) → All IsSize sizes → size_of (take position (shown content sizes)) ≡ sum (take position sizes)
placed content sizes position are =
    sym (sum-sizes (take position (shown content sizes))) ∙ ap sum (before_sized content sizes position are)

-- ---- others after a position

-- a content goes on with these items from a place on, and where it is not torn it ends with them
pub record HasEnd (place : ℕ) (new : List ℕ) (more : List Item) (is_torn : Bool) : Type 0 where
  pub long : place + size_of more ≤ length new
  pub is : items_of (take (size_of more) (drop place new)) ≡ more
  pub whole : is_torn ≡ false → length new ≡ place + size_of more

pub nothing_behind : (place : ℕ) (new : List ℕ) (is_torn : Bool) → place ≤ length new → (is_torn ≡ false → length new ≡ place)
    → HasEnd place new [] is_torn
unfolding items_in
nothing_behind place new is_torn within whole = record { long = omega arith; is = refl; whole = λ none. whole none ∙ omega arith }

pub or_false : (a b : Bool) → a || b ≡ false → (a ≡ false) × (b ≡ false)
or_false a b none = grind arith

pub written_there : (content sizes new others : List ℕ) (was_torn : Bool) (position : ℕ) (more : List Item) → AreIn content sizes was_torn
    → items_of others ≡ more → length others ≡ size_of more
    → (sum (take position sizes) ≤ length content → (was_torn || nat_lt position (length sizes) ≡ false → length content ≡ sum (take position sizes))
    → new ≡ take (sum (take position sizes)) content ++ others)
    → HasEnd (sum (take position sizes)) new more false
written_there content sizes new others was_torn position more are items long is =
    let place = sum (take position sizes) in
    let below : place ≤ length content = omega (arith, sum_by-take-le (λ n. n) sizes position, are.long) in
    let ends : was_torn || nat_lt position (length sizes) ≡ false → length content ≡ place = λ none.
    let parts = or_false was_torn (nat_lt position (length sizes)) none in
    are.whole parts.0 ∙ ap sum (sym (take_all position sizes (ltb-false position (length sizes) parts.1))) in
    let new_is = is below ends in
    let front = length-take-le place content below in
    let behind : drop place new ≡ others = ap (drop place) new_is ∙ drop_at (take place content) others place front in
    let all : length new ≡ place + size_of more = ap length new_is ∙ length-append (take place content) others ∙ omega (arith, front, long) in
    record {
      long = omega (arith, all);
      is = ap (λ (xs : List ℕ). items_of (take (size_of more) xs)) behind ∙ ap items_of (take_all (size_of more) others (omega (arith, long))) ∙ items;
      whole = λ none. all;
    }

-- the items before a position are left, and these stand after them
pub record IsLeft (content sizes new now : List ℕ) (position at : ℕ) (more : List Item) (is_torn : Bool) : Type 0 where
  pub are : AreIn new now is_torn
  pub before : take at (shown new now) ≡ take position (shown content sizes) ++ more
  pub after : drop at (shown new now) ≡ []
  pub tail : is_torn ≡ false → drop (sum now) new ≡ []

pub left : (content sizes new now : List ℕ) (was_torn is_torn : Bool) (position at : ℕ) (more : List Item) → AreIn content sizes was_torn
    → position ≤ length sizes → KeepsBefore (sum (take position sizes)) content new → HasEnd (sum (take position sizes)) new more is_torn
    → now ≡ take position sizes ++ map size more → at ≡ position + length more → IsLeft content sizes new now position at more is_torn
left content sizes new now was_torn is_torn position at more are few keeps ends now_is at_is =
    let place = sum (take position sizes) in
    let items = parsed content sizes in
    let all = take position items ++ more in
    let others = take (size_of more) (drop place new) in
    let below = sum_by-take-le (λ n. n) sizes position in
    let kept = keeps (omega (arith, below, are.long)) in
    let end : sum now ≡ place + size_of more =
    ap sum now_is ∙ sum-append (take position sizes) (map size more) ∙ ap (λ n. place + n) (sum-sizes more) in
    let is : parsed new now ≡ all =
    ap (λ (n : ℕ). items_of (take n new)) end ∙ ap items_of (take-add place (size_of more) new)
    ∙ ap (λ (xs : List ℕ). items_of (xs ++ others)) (kept.1 ∙ sym (take-take place (sum sizes) content below))
    ∙ rw (placed_parsed content sizes was_torn position are) at (items_of-replaced position (take (sum sizes) content) others)
    ∙ ap (λ (xs : List Item). take position items ++ xs) ends.is in
    let front : length (take position items) ≡ position = length-take-le position items (omega (arith, many_parsed content sizes was_torn are)) in
    let long : length all ≡ at = length-append (take position items) more ∙ omega (arith, front, at_is) in
    let are_now : AreIn new now is_torn = record {
      long = omega (arith, end, ends.long);
      sized = ap (map size) is ∙ map-append size (take position items) more
          ∙ ap (λ (xs : List ℕ). xs ++ map size more) (before_parsed content sizes was_torn position are) ∙ sym now_is;
      whole = λ none. ends.whole none ∙ sym end;
    } in
    let there : shown new now ≡ all = shown_is new now is_torn are_now ∙ is in
    record {
      are = are_now;
      before = ap (take at) there ∙ take_all at all (omega (arith, long))
          ∙ ap (λ (xs : List Item). take position xs ++ more) (sym (shown_is content sizes was_torn are));
      after = ap (drop at) there ∙ drop_all at all (omega (arith, long));
      tail = λ none. drop_all (sum now) new (omega (arith, end, ends.whole none));
    }

pub cut_left : (content sizes new : List ℕ) (was_torn is_torn : Bool) (position : ℕ) → AreIn content sizes was_torn → position ≤ length sizes
    → KeepsBefore (sum (take position sizes)) content new → (is_torn ≡ false → length new ≡ sum (take position sizes))
    → IsLeft content sizes new (take position sizes) position position [] is_torn
cut_left content sizes new was_torn is_torn position are few keeps whole =
    let within = (keeps (omega (arith, sum_by-take-le (λ n. n) sizes position, are.long))).0 in
    left content sizes new (take position sizes) was_torn is_torn position position [] are few keeps
    (nothing_behind (sum (take position sizes)) new is_torn within whole) (sym (append-nil (take position sizes))) (omega arith)

-- they are of these sizes, whatever the store holds
pub record AreLeft (content sizes new now : List ℕ) (position at : ℕ) (more : List Item) : Type 0 where
  pub before : map size (take at (shown new now)) ≡ map size (take position (shown content sizes) ++ more)
  pub after : map size (drop at (shown new now)) ≡ []

pub are_left : (content sizes new now : List ℕ) (position at : ℕ) (more : List Item) → All IsSize sizes → All IsSize now
    → now ≡ take position sizes ++ map size more → at ≡ length now → AreLeft content sizes new now position at more
are_left content sizes new now position at more are are_now now_is at_is = record {
  before = before_sized new now at are_now ∙ take_all at now (omega (arith, at_is)) ∙ now_is
      ∙ ap (λ (xs : List ℕ). xs ++ map size more) (sym (before_sized content sizes position are))
      ∙ sym (map-append size (take position (shown content sizes)) more);
  after = after_sized new now at are_now ∙ drop_all at now (omega (arith, at_is));
}

pub are_cut : (content sizes new : List ℕ) (position : ℕ) → All IsSize sizes → position ≤ length sizes
    → AreLeft content sizes new (take position sizes) position position []
are_cut content sizes new position are few =
    are_left content sizes new (take position sizes) position position [] are (All-take IsSize position sizes are)
    (sym (append-nil (take position sizes))) (sym (length-take-le position sizes few))

-- and the tape knows them
pub left_indexed : (honest was_torn is_torn : Bool) (content sizes new now : List ℕ) (position at capacity : ℕ) (more : List Item)
    → IsIndexed honest content sizes was_torn position capacity → KeepsBefore (sum (take position sizes)) content new
    → (IsTrue honest → HasEnd (sum (take position sizes)) new more is_torn) → now ≡ take position sizes ++ map size more → at ≡ position + length more
    → sum (take position sizes) + size_of more ≤ capacity → All IsSize (map size more) → IsIndexed honest new now is_torn at capacity
left_indexed honest was_torn is_torn content sizes new now position at capacity more was keeps ends now_is at_is room are_more = record {
  within = omega (arith, ap length now_is, length-append (take position sizes) (map size more), length-take-le position sizes was.within, length-map more size, at_is);
  fits = omega (arith, ap sum now_is, sum-append (take position sizes) (map size more), sum-sizes more, room);
  sized = rw now_is (All-append IsSize (take position sizes) (map size more) (All-take IsSize position sizes was.sized) are_more);
  are_in = λ is. (left content sizes new now was_torn is_torn position at more (was.are_in is) was.within keeps (ends is) now_is at_is).are;
}

pub cut_indexed : (honest was_torn is_torn : Bool) (content sizes new : List ℕ) (position capacity : ℕ)
    → IsIndexed honest content sizes was_torn position capacity → KeepsBefore (sum (take position sizes)) content new
    → (is_torn ≡ false → IsTrue honest → length new ≡ sum (take position sizes)) → IsIndexed honest new (take position sizes) is_torn position capacity
cut_indexed honest was_torn is_torn content sizes new position capacity was keeps whole = record {
  within = omega (arith, length-take-le position sizes was.within);
  fits = omega (arith, sum_by-take-le (λ n. n) sizes position, was.fits);
  sized = All-take IsSize position sizes was.sized;
  are_in = λ is. (cut_left content sizes new was_torn is_torn position (was.are_in is) was.within keeps (λ none. whole none is)).are;
}

-- ---- the item after a position

-- of this length
pub record IsNext (content sizes : List ℕ) (items : List Item) (position n : ℕ) : Type 0 where
  pub size : get_or sizes position 0 ≡ n + 8
  pub is : drop position items
      ≡ item_of (slice_range content (sum (take position sizes) + 4) (sum (take position sizes) + 4 + n)) ∷ drop (suc position) items
  pub long : length (slice_range content (sum (take position sizes) + 4) (sum (take position sizes) + 4 + n)) ≡ n
  pub told : length_told n ≡ first_told (drop position items)
  pub given : slice_range content (sum (take position sizes) + 4) (sum (take position sizes) + 4 + n) ≡ first_data (drop position items)
  pub within : sum (take position sizes) + n + 8 ≤ length content

next_parsed : (content sizes : List ℕ) (is_torn : Bool) (position size_at : ℕ) → AreIn content sizes is_torn → position < length sizes
    → get_or sizes position 0 ≡ size_at → IsNext content sizes (parsed content sizes) position (size_at - 8)
next_parsed content sizes is_torn position size_at are less is =
    let place = sum (take position sizes) in
    let end = sum sizes in
    let items = parsed content sizes in
    let bytes = drop place (take end content) in
    let many = many_parsed content sizes is_torn are in
    let here : drop position items ≡ items_of bytes =
    rw (placed_parsed content sizes is_torn position are) at (drop-items_of position (take end content) (omega (arith, many))) in
    elim (front-cases bytes) [
      | inl none ↦ absurd (omega (arith, ap length (here ∙ items_of-none bytes none), length-drop position items, many))
      | inr found ↦
          let n = found.0 in
          let own = take n (drop 4 bytes) in
          let others = items_of (drop (n + 8) bytes) in
          let behind : drop position items ≡ item_of own ∷ others = here ∙ items_of-next bytes n found.1 in
          let sized = ap (λ (xs : List ℕ). get_or xs 0 0)
          (sym (drop-cons sizes position 0 less) ∙ ap (drop position) (sym are.sized) ∙ drop-map size position items ∙ ap (map size) behind) in
          let length_is : size_at - 8 ≡ n = omega (arith, is, sized, length-front bytes n found.1) in
          let within = (front-is bytes n found.1).within in
          let as_long : length own ≡ n = length-take-le n (drop 4 bytes) (omega (arith, within, length-drop 4 bytes)) in
          let below : place + n + 8 ≤ end = omega (arith, within, length-drop place (take end content), length-take-le end content are.long) in
          let rest = drop (place + 4) content in
          let all : place + 4 + (end - (place + 4)) ≡ end = omega arith in
          let many_bytes : place + 4 + n - (place + 4) ≡ n = omega arith in
          let behind_four : drop 4 bytes ≡ take (end - (place + 4)) rest =
          drop-drop 4 place (take end content) ∙ ap (λ (m : ℕ). drop (place + 4) (take m content)) (sym all)
          ∙ drop-take (place + 4) (end - (place + 4)) content in
          let data_is : slice_range content (place + 4) (place + 4 + n) ≡ own =
          ap (λ (m : ℕ). take m rest) many_bytes ∙ sym (ap (take n) behind_four ∙ take-take n (end - (place + 4)) rest (omega arith)) in
          let next : suc position ≡ position + 1 = omega arith in
          let behind_it : drop (suc position) items ≡ others =
          ap (λ (m : ℕ). drop m items) next ∙ sym (drop-drop 1 position items) ∙ ap (drop 1) behind in
          rw length_is (record {
            size = sized ∙ length-front bytes n found.1;
            is = rw (data_is, behind_it) behind;
            long = ap length data_is ∙ as_long;
            told = ap length_told (sym as_long) ∙ first_told-item own others ∙ sym (ap first_told behind);
            given = data_is ∙ sym (ap first_data behind ∙ first_data-item own others);
            within = omega (arith, below, are.long);
          })
    ]

pub is_next : (content sizes : List ℕ) (is_torn : Bool) (position size_at : ℕ) → AreIn content sizes is_torn → position < length sizes
    → get_or sizes position 0 ≡ size_at → IsNext content sizes (shown content sizes) position (size_at - 8)
is_next content sizes is_torn position size_at are less is =
    subst (λ (items : List Item). IsNext content sizes items position (size_at - 8)) (sym (shown_is content sizes is_torn are))
    (next_parsed content sizes is_torn position size_at are less is)

-- the size of an item is within those of all
pub next-within : (sizes : List ℕ) (k : ℕ) → k < length sizes → sum (take k sizes) + get_or sizes k 0 ≤ sum sizes
next-within sizes k less =
    let behind = ap sum (drop-cons sizes k 0 less) ∙ sum_by-cons (λ n. n) (get_or sizes k 0) (drop (suc k) sizes) in
    let all = ap sum (take-append-drop k sizes) in
    omega (arith, behind, all, sum-append (take k sizes) (drop k sizes))

pub sum-next : (sizes : List ℕ) (k : ℕ) → k < length sizes → sum (take (suc k) sizes) ≡ sum (take k sizes) + get_or sizes k 0
sum-next sizes k less =
    ap (λ (n : ℕ). sum (take n sizes)) (sym (add-one k)) ∙ ap sum (take_more sizes k 0 less) ∙ sum-append (take k sizes) (get_or sizes k 0 ∷ [])
    ∙ ap (λ n. sum (take k sizes) + n) (sum_by-cons (λ n. n) (get_or sizes k 0) [] ∙ omega arith)
