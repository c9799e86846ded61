-- The items of what is written: records of one length, and filemarks.
use Rattle.std.proofs.Common.{◌≡◌, ℕ, ◌+◌, ◌*◌, zero, suc, ◌^◌, ◌≤◌, ◌<◌, List, [], ◌∷◌, ◌++◌, length, take, drop, map, replicate, slice_range, append_assoc}
use Rattle.std.proofs.Common.{Some, refl, ap, sym, ◌∙◌, arith}
use Rattle.std.proofs.Math.Nat.{add-sub_cancel_left}
use Rattle.std.proofs.lemmas.List.{append-nil, take_all, drop-drop, take_at, drop_at, length-append, length-drop, length-take-le}
use Rattle.std.proofs.lemmas.List.Concat.{flat_map-cons}
use Rattle.byteorder.specs.Endian.{big_bytes, big_number}
use Rattle.byteorder.specs.Numbers.{big_number-reads_back, length-bytes_high_first}
use Rattle.media_tape.specs.Items.{most_bytes, Item, Record, Filemark, size, spelled, spelling, front, items_in, items_of}
use Rattle.media_tape.specs.Fixed.{blocks_of}
use Rattle.media_tape.proofs.Items.{is-front, items_of-next, items_of-front, item_of-data_of}

pub slice-is : (at n : ℕ) (xs : List ℕ) → slice_range xs at (at + n) ≡ take n (drop at xs)
slice-is at n xs = ap (λ k. take k (drop at xs)) (add-sub_cancel_left at n)

pub slice-behind : (front at n : ℕ) (xs : List ℕ) → slice_range xs (front + at) (front + at + n) ≡ slice_range (drop front xs) at (at + n)
slice-behind front at n xs = slice-is (front + at) n xs ∙ ap (take n) (sym (drop-drop at front xs)) ∙ sym (slice-is at n (drop front xs))

length-spelled : (bytes : List ℕ) → length (spelled (Record bytes)) ≡ length bytes + 8
length-spelled bytes =
    let head = big_bytes 4 (length bytes) in
    length-append head (bytes ++ head) ∙ omega (arith, length-append bytes head, length-bytes_high_first 4 (length bytes))

-- a record as it is spelled, in front of other bytes
items_of-spelled : (bytes others : List ℕ) → 0 < length bytes → length bytes ≤ most_bytes
    → items_of (spelled (Record bytes) ++ others) ≡ Record bytes ∷ items_of others
items_of-spelled bytes others some most =
    let n = length bytes in
    let head = big_bytes 4 n in
    let all = head ++ (bytes ++ head) in
    let four : length head ≡ 4 = length-bytes_high_first 4 n in
    let less : n < 256 ^ 4 = omega arith in
    let behind = drop_at head (bytes ++ head) 4 four in
    let long = length-spelled bytes in
    let at : n + 4 ≡ 4 + n = omega arith in
    let last : drop (n + 4) all ≡ head = sym (drop-drop n 4 all ∙ ap (λ (m : ℕ). drop m all) (sym at))
    ∙ ap (drop n) behind ∙ drop_at bytes head n refl in
    let found : front all ≡ Some n = is-front all n (record {
      number = big_number-reads_back 4 n (bytes ++ head) less;
      most = most;
      within = omega (arith, long);
      again = ap (big_number 4) (last ∙ sym (append-nil head)) ∙ big_number-reads_back 4 n [] less;
    }) in
    let whole = take_all (n + 8) all (omega (arith, long)) in
    rw (whole, behind, take_at bytes head n refl, item_of-data_of (Record bytes) (some, most)) at (items_of-front n all others found)

-- ---- blocks

-- as they are spelled, these are the items, of one size
pub record AreBlocks (count block_length : ℕ) (bytes : List ℕ) : Type 0 where
  pub items : items_of (spelling (blocks_of count block_length bytes)) ≡ blocks_of count block_length bytes
  pub sizes : map size (blocks_of count block_length bytes) ≡ replicate count (block_length + 8)
  pub long : length (spelling (blocks_of count block_length bytes)) ≡ count * (block_length + 8)

pub are_blocks : (count block_length : ℕ) (bytes : List ℕ) → 0 < block_length → block_length ≤ most_bytes → count * block_length ≤ length bytes
    → AreBlocks count block_length bytes
unfolding items_in
are_blocks zero block_length bytes some most enough = record { items = refl; sizes = refl; long = omega arith }
are_blocks (suc count) block_length bytes some most enough =
    let more : suc count * block_length ≡ block_length + count * block_length = grind arith in
    let whole : suc count * (block_length + 8) ≡ (block_length + 8) + count * (block_length + 8) = grind arith in
    let behind = drop block_length bytes in
    let block = take block_length bytes in
    let rest = are_blocks count block_length behind some most (omega (arith, more, length-drop block_length bytes)) in
    let long : length block ≡ block_length = length-take-le block_length bytes (omega (arith, more)) in
    let all = flat_map-cons spelled (Record block) (blocks_of count block_length behind) in
    record {
      items = ap items_of all ∙ items_of-spelled block (spelling (blocks_of count block_length behind)) (omega (arith, long)) (omega (arith, long))
          ∙ ap (λ (xs : List Item). Record block ∷ xs) rest.items;
      sizes = ap (λ (n : ℕ). (n + 8) ∷ map size (blocks_of count block_length behind)) long
          ∙ ap (λ (xs : List ℕ). (block_length + 8) ∷ xs) rest.sizes;
      long = ap length all ∙ length-append (spelled (Record block)) (spelling (blocks_of count block_length behind))
          ∙ omega (arith, length-spelled block, long, rest.long, whole);
    }

-- one block more
pub spelling-more : (count block_length from : ℕ) (bytes : List ℕ) → from ≡ count * block_length
    → spelling (blocks_of count block_length bytes) ++ spelled (Record (slice_range bytes from (from + block_length)))
    ≡ spelling (blocks_of (count + 1) block_length bytes)
spelling-more zero block_length from bytes is =
    let none : from ≡ 0 = omega arith in
    ap (λ (xs : List ℕ). spelled (Record xs)) (slice-is from block_length bytes ∙ ap (λ n. take block_length (drop n bytes)) none)
    ∙ sym (flat_map-cons spelled (Record (take block_length bytes)) [] ∙ append-nil (spelled (Record (take block_length bytes))))
spelling-more (suc count) block_length from bytes is =
    let rest = drop block_length bytes in
    let block = Record (take block_length bytes) in
    let inner : ℕ = count * block_length in
    let more : suc count * block_length ≡ block_length + count * block_length = grind arith in
    let at : block_length + inner ≡ from = omega (arith, more, is) in
    let here : slice_range bytes from (from + block_length) ≡ slice_range rest inner (inner + block_length) =
    ap (λ n. slice_range bytes n (n + block_length)) (sym at) ∙ slice-behind block_length inner block_length bytes in
    let last = spelled (Record (slice_range bytes from (from + block_length))) in
    let e : suc count + 1 ≡ suc (count + 1) = omega arith in
    ap (λ (xs : List ℕ). xs ++ last) (flat_map-cons spelled block (blocks_of count block_length rest))
    ∙ append_assoc (spelled block) (spelling (blocks_of count block_length rest)) last
    ∙ ap (λ (xs : List ℕ). spelled block ++ (spelling (blocks_of count block_length rest) ++ spelled (Record xs))) here
    ∙ ap (λ (xs : List ℕ). spelled block ++ xs) (spelling-more count block_length inner rest refl)
    ∙ sym (flat_map-cons spelled block (blocks_of (count + 1) block_length rest))
    ∙ ap (λ n. spelling (blocks_of n block_length bytes)) (sym e)

-- ---- filemarks

zeros-front : (rest : List ℕ) → front (0 ∷ 0 ∷ 0 ∷ 0 ∷ 0 ∷ 0 ∷ 0 ∷ 0 ∷ rest) ≡ Some 0
zeros-front rest = is-front (0 ∷ 0 ∷ 0 ∷ 0 ∷ 0 ∷ 0 ∷ 0 ∷ 0 ∷ rest) 0 (record {
  number = refl;
  most = omega arith;
  within = omega arith;
  again = refl;
})

pub items_of-zeros : (count : ℕ) → items_of (replicate (8 * count) 0) ≡ replicate count Filemark
unfolding items_in
items_of-zeros zero = refl
items_of-zeros (suc count) =
    let more : 8 * suc count ≡ suc (suc (suc (suc (suc (suc (suc (suc (8 * count)))))))) = omega arith in
    let rest = replicate (8 * count) 0 in
    ap (λ (n : ℕ). items_of (replicate n 0)) more ∙ items_of-next (0 ∷ 0 ∷ 0 ∷ 0 ∷ 0 ∷ 0 ∷ 0 ∷ 0 ∷ rest) 0 (zeros-front rest)
    ∙ ap (λ (xs : List Item). Filemark ∷ xs) (items_of-zeros count)

pub sizes-filemarks : (count : ℕ) → map size (replicate count Filemark) ≡ replicate count 8
sizes-filemarks zero = refl
sizes-filemarks (suc count) = ap (λ (xs : List ℕ). 8 ∷ xs) (sizes-filemarks count)
