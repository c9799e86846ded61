-- Blocks among the items after a position: what a read gives of them.
use Rattle.std.proofs.Common.{◌≡◌, ℕ, zero, suc, ◌+◌, ◌-◌, ◌*◌, ◌≤◌, ◌<◌, List, [], ◌∷◌, length, take, drop, sum, slice_range, get_or, drop-cons, ◌++◌, map, All}
use Rattle.std.proofs.Common.{Bool, true, false, ◌==◌, ◌⊎◌, inl, inr, refl, ap, sym, ◌∙◌, arith, eq-eqb}
use Rattle.std.proofs.Math.Nat.{eq-or-lt_of_le}
use Rattle.std.proofs.lemmas.Bool.{ne_eqb, eqb-true}
use Rattle.std.proofs.lemmas.List.{drop-drop, drop_all, length-drop, length-take-le, take-append-drop}
use Rattle.std.proofs.lemmas.List.Elements.{All-head, All-tail, All-drop}
use Rattle.std.proofs.lemmas.List.Sums.{sum_by-take-le}
use Rattle.media_tape.specs.Items.{Item, Record, Filemark, IsSize, item_of, size}
use Rattle.media_tape.specs.Tape.{AreIn}
use Rattle.media_tape.specs.Fixed.{Fixed, ending, giving, fixed, Gives}
use Rattle.tape_index.specs.SizeFixed.{behind, size_fixed}
use Rattle.media_tape.specs.BlockData.{data_in}
use Rattle.tape_index.specs.declared.outcome.FixedEnd.{FixedEnd}
use Rattle.tape_index.specs.declared.outcome.FixedEnd.TheVariants as end
use Rattle.tape_index.specs.declared.outcome.FixedRead.{FixedRead}
use Rattle.media_tape.proofs.Indexed.{shown, after_sized, is_next, sum-next}
use Rattle.media_tape.proofs.Items.{HasBytes}
use Rattle.media_tape.proofs.Sized.{length-sized, items_sized-have}

-- what is given by the items is told by their sizes, and its bytes stand from a place on
pub record IsRead (content : List ℕ) (place block_length : ℕ) (of_items : Fixed) (by_sizes : FixedRead) : Type 0 where
  pub told : by_sizes ≡ record { given = of_items.given; ended = of_items.ended }
  pub bytes : data_in of_items.given block_length (drop place content) ≡ of_items.bytes
  pub within : place + by_sizes.given * (block_length + 8) ≤ length content

same_by : (test : Bool) (a b : ℕ) → (a == b) ≡ test → (a ≡ b) ⊎ (a ≡ b → ⊥)
same_by true a b is = inl (eqb-true a b is)
same_by false a b is = inr (λ e. let yes = eq-eqb a b e in cc)

same_or_other : (a b : ℕ) → (a ≡ b) ⊎ (a ≡ b → ⊥)
same_or_other a b = same_by (a == b) a b refl

-- an item of these bytes is next
one_read : (content : List ℕ) (place block_length count : ℕ) (own : List ℕ) (items : List Item) (sizes : List ℕ)
    → take (length own) (drop 4 (drop place content)) ≡ own → place + length own + 8 ≤ length content
    → IsRead content (place + (length own + 8)) block_length (fixed count block_length items) (size_fixed count block_length sizes)
    → IsRead content place block_length (fixed (suc count) block_length (item_of own ∷ items)) (size_fixed (suc count) block_length ((length own + 8) ∷ sizes))
one_read content place block_length count [] items sizes here within rest =
    record { told = refl; bytes = refl; within = omega arith }
one_read content place block_length count (byte ∷ bytes) items sizes here within rest =
    let own : List ℕ = byte ∷ bytes in
    let n = length own in
    let no_mark : (n + 8 == 8) ≡ false = ne_eqb (n + 8) 8 (λ e. omega arith) in
    elim (same_or_other n block_length) [
      | inl same ↦
          let of_items = fixed count block_length items in
          let many = (size_fixed count block_length sizes).given in
          let more : (1 + many) * (block_length + 8) ≡ (block_length + 8) + many * (block_length + 8) = grind arith in
          let one : 1 + of_items.given ≡ suc of_items.given = omega arith in
          let size : block_length + 8 ≡ n + 8 = omega arith in
          rw (no_mark, eq-eqb n block_length same, eq-eqb (n + 8) (block_length + 8) (omega arith)) (record {
            told = ap (behind 1) rest.told ∙ ap (λ (g : ℕ). record { given = g; ended = of_items.ended }) one;
            bytes = ap (λ (k : ℕ). take k (drop 4 (drop place content)) ++ data_in of_items.given block_length (drop (block_length + 8) (drop place content)))
                (sym same)
                ∙ ap (λ (xs : List ℕ). xs ++ data_in of_items.given block_length (drop (block_length + 8) (drop place content))) here
                ∙ ap (λ (xs : List ℕ). own ++ data_in of_items.given block_length xs)
                (drop-drop (block_length + 8) place content ∙ ap (λ (k : ℕ). drop (place + k) content) size)
                ∙ ap (λ (xs : List ℕ). own ++ xs) rest.bytes;
            within = omega (arith, more, size, rest.within);
          })
      | inr other ↦
          let length_is : n + 8 - 8 ≡ n = omega arith in
          rw (no_mark, ne_eqb n block_length other, ne_eqb (n + 8) (block_length + 8) (λ e. other (omega arith)), length_is)
          (record { told = refl; bytes = refl; within = omega arith })
    ]

read_there : (content sizes : List ℕ) (is_torn : Bool) (count block_length position : ℕ) → AreIn content sizes is_torn → position ≤ length sizes
    → IsRead content (sum (take position sizes)) block_length
    (fixed count block_length (drop position (shown content sizes))) (size_fixed count block_length (drop position sizes))
read_there content sizes is_torn zero block_length position are few =
    record { told = refl; bytes = refl; within = omega (arith, sum_by-take-le (λ n. n) sizes position, are.long) }
read_there content sizes is_torn (suc count) block_length position are few =
    let items = shown content sizes in
    let place = sum (take position sizes) in
    elim (eq-or-lt_of_le few) [
      | inl last ↦
          rw (drop_all position items (omega (arith, length-sized sizes content)), drop_all position sizes (omega arith))
          (record { told = refl; bytes = refl; within = omega (arith, sum_by-take-le (λ n. n) sizes position, are.long) })
      | inr less ↦
          let own = slice_range content (place + 4) (place + 4 + (get_or sizes position 0 - 8)) in
          let that = is_next content sizes is_torn position (get_or sizes position 0) are less refl in
          let rest = read_there content sizes is_torn count block_length (suc position) are (omega arith) in
          let size : get_or sizes position 0 ≡ length own + 8 = omega (arith, that.size, that.long) in
          let there : sum (take (suc position) sizes) ≡ place + (length own + 8) = sum-next sizes position less ∙ ap (λ (k : ℕ). place + k) size in
          let sizes_are : drop position sizes ≡ (length own + 8) ∷ drop (suc position) sizes =
          drop-cons sizes position 0 less ∙ ap (λ (k : ℕ). k ∷ drop (suc position) sizes) size in
          let count_own : place + 4 + (get_or sizes position 0 - 8) - (place + 4) ≡ length own = omega (arith, that.long) in
          let here : take (length own) (drop 4 (drop place content)) ≡ own =
          ap (take (length own)) (drop-drop 4 place content) ∙ ap (λ (k : ℕ). take k (drop (place + 4) content)) (sym count_own) in
          rw (that.is, sizes_are)
          (one_read content place block_length count own (drop (suc position) items) (drop (suc position) sizes) here
          (omega (arith, that.within, that.long)) (rw there at rest))
    ]

pub is_read : (content sizes : List ℕ) (is_torn : Bool) (count block_length position place : ℕ) (read : FixedRead) → AreIn content sizes is_torn
    → position ≤ length sizes → place ≡ sum (take position sizes) → read ≡ size_fixed count block_length (drop position sizes)
    → IsRead content place block_length (fixed count block_length (drop position (shown content sizes))) read
is_read content sizes is_torn count block_length position place read are few place_is read_is =
    rw (read_is, place_is) (read_there content sizes is_torn count block_length position are few)

-- ---- by the sizes alone, whatever their bytes

-- its number of blocks, and what ended them
abbrev pub told_of : Fixed → FixedRead
told_of of_items = record { given = of_items.given; ended = of_items.ended }

one_told : (block_length count : ℕ) (bytes : List ℕ) (items : List Item) (sizes : List ℕ) → 0 < length bytes
    → size_fixed count block_length sizes ≡ told_of (fixed count block_length items)
    → size_fixed (suc count) block_length ((length bytes + 8) ∷ sizes) ≡ told_of (fixed (suc count) block_length (Record bytes ∷ items))
one_told block_length count bytes items sizes some rest =
    let n = length bytes in
    let of_items = fixed count block_length items in
    let no_mark : (n + 8 == 8) ≡ false = ne_eqb (n + 8) 8 (λ e. omega arith) in
    elim (same_or_other n block_length) [
      | inl same ↦
          let one : 1 + of_items.given ≡ suc of_items.given = omega arith in
          rw (no_mark, eq-eqb n block_length same, eq-eqb (n + 8) (block_length + 8) (omega arith))
          (ap (behind 1) rest ∙ ap (λ (g : ℕ). record { given = g; ended = of_items.ended }) one)
      | inr other ↦
          let length_is : n + 8 - 8 ≡ n = omega arith in
          rw (no_mark, ne_eqb n block_length other, ne_eqb (n + 8) (block_length + 8) (λ e. other (omega arith)), length_is) refl
    ]

fixed-sized : (count block_length : ℕ) (items : List Item) → All HasBytes items
    → size_fixed count block_length (map size items) ≡ told_of (fixed count block_length items)
fixed-sized zero block_length items have = refl
fixed-sized (suc count) block_length [] have = refl
fixed-sized (suc count) block_length (Filemark ∷ items) have = refl
fixed-sized (suc count) block_length (Record bytes ∷ items) have =
    one_told block_length count bytes items (map size items) (All-head HasBytes (Record bytes) items have)
    (fixed-sized count block_length items (All-tail HasBytes (Record bytes) items have))

pub read-sized : (content sizes : List ℕ) (count block_length position : ℕ) (read : FixedRead) → All IsSize sizes
    → read ≡ size_fixed count block_length (drop position sizes)
    → read ≡ told_of (fixed count block_length (drop position (shown content sizes)))
read-sized content sizes count block_length position read are is =
    is ∙ ap (size_fixed count block_length) (sym (after_sized content sizes position are))
    ∙ fixed-sized count block_length (drop position (shown content sizes))
    (All-drop HasBytes position (shown content sizes) (items_sized-have sizes content))

-- ---- a read of blocks, whatever their bytes

none_given : (ended : FixedEnd) (block_length : ℕ) (bytes : List ℕ) → length bytes ≡ 0 * block_length
    → ending ended ≡ record { given = 0; bytes = bytes; ended = ended }
none_given ended block_length [] none = refl
none_given ended block_length (byte ∷ bytes) none = absurd (omega arith)

-- a read that came out so gives these bytes on some items
pub gives : (count block_length : ℕ) (items : List Item) (bytes : List ℕ)
    → length bytes ≡ (fixed count block_length items).given * block_length
    → Gives count block_length (told_of (fixed count block_length items)) bytes
gives zero block_length items bytes = λ long. ([], none_given end.Whole block_length bytes long)
gives (suc count) block_length [] bytes = λ long. ([], none_given end.EndOfData block_length bytes long)
gives (suc count) block_length (Filemark ∷ items) bytes = λ long. (Filemark ∷ [], none_given end.Filemark block_length bytes long)
gives (suc count) block_length (Record own ∷ items) bytes =
    let n = length own in
    let rest = fixed count block_length items in
    elim (same_or_other n block_length) [
      | inl same ↦
          rw (eq-eqb n block_length same) (λ long.
          let more : suc rest.given * block_length ≡ block_length + rest.given * block_length = grind arith in
          let whole : length (take block_length bytes) ≡ block_length = length-take-le block_length bytes (omega (arith, long, more)) in
          let others = gives count block_length items (drop block_length bytes) (omega (arith, long, more, length-drop block_length bytes)) in (
            Record (take block_length bytes) ∷ others.0,
            rw (eq-eqb (length (take block_length bytes)) block_length whole) (ap (giving (take block_length bytes)) others.1
                ∙ ap (λ (xs : List ℕ). record { given = suc rest.given; bytes = xs; ended = rest.ended }) (take-append-drop block_length bytes)),
          ))
      | inr other ↦
          rw (ne_eqb n block_length other) (λ long.
          (Record own ∷ [], rw (ne_eqb n block_length other) (none_given (end.Length n) block_length bytes long)))
    ]
