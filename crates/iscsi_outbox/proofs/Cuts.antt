-- That the pieces of data follow one another.
use Rattle.std.proofs.Common.{◌≡◌, ℕ, zero, suc, ◌+◌, ◌-◌, ◌*◌, ◌/◌, ◌%◌, ◌<◌, ◌≤◌, min, List, [], ◌∷◌, ◌++◌, map, refl, ap, sym, ◌∙◌, subst, inl, inr, arith}
use Rattle.std.proofs.lemmas.Bool.{cases_lt}
use Rattle.std.specs.Int.{div_ceil}
use Rattle.std.specs.List.{flat_map, range_with_len}
use Rattle.std.proofs.Math.Nat.{add-mul, zero-mul}
use Rattle.std.proofs.lemmas.Grind.{div_ceil_times}
use Rattle.iscsi_transfer.specs.declared.data_in.Piece.{Piece}
use Rattle.iscsi_transfer.specs.DataIn.{burst_start, burst_end, piece_in, pieces_in, pieces_of}
use Rattle.iscsi_transfer.proofs.Pieces.{part_within}
use Rattle.iscsi_outbox.specs.Cut.{IsCut, AreCut}

parts_reach : (length limit : ℕ) → 1 ≤ limit → length ≤ div_ceil length limit * limit
parts_reach length limit some = (div_ceil_times length limit (omega arith)).0

-- a multiple of a multiple of 4 is one
by_four : (k m : ℕ) → m % 4 ≡ 0 → (k * m) % 4 ≡ 0
by_four k m even =
    let n = m / 4 in
    let is : m ≡ 4 * n = omega arith in
    let product : k * m ≡ k * (4 * n) = ap (λ (x : ℕ). k * x) is in
    let same : k * (4 * n) ≡ 4 * (k * n) = omega arith in
    omega (arith, product, same)

-- the same between places that are equal
along : (size burst : ℕ) (pieces : List Piece) (from to from' to' : ℕ) → from ≡ from' → to ≡ to' → AreCut size burst from to pieces
    → AreCut size burst from' to' pieces
along size burst pieces from to from' to' same_from same_to cut =
    subst (λ (n : ℕ). AreCut size burst n to' pieces) same_from (subst (λ (n : ℕ). AreCut size burst from n pieces) same_to cut)

-- pieces after pieces
joined : (size burst : ℕ) (ps qs : List Piece) (from mid to : ℕ) → AreCut size burst from mid ps → AreCut size burst mid to qs
    → AreCut size burst from to (ps ++ qs)
joined size burst [] qs from mid to first second = along size burst qs mid to from to (sym first) refl second
joined size burst (p ∷ ps) qs from mid to first second = (first.0, joined size burst ps qs (from + p.length) mid to first.1 second)

-- ---- one burst

-- a part of the data that is cut as one burst
record IsBurst (size burst segment start end : ℕ) : Type 0 where
  some : 1 ≤ segment
  by_4 : segment % 4 ≡ 0
  begun : start ≤ end
  within : end ≤ size
  long : end ≤ start + burst
  start_by_4 : start % 4 ≡ 0
  end_by_4 : end < size → end % 4 ≡ 0

-- piece k of it
one_cut : (size burst segment start end k : ℕ) → IsBurst size burst segment start end → k < div_ceil (end - start) segment
    → IsCut size burst (start + k * segment) (piece_in start end segment k)
one_cut size burst segment start end k is below =
    let early : k * segment < end - start = part_within (end - start) segment k is.some below in
    let next : (k + 1) * segment ≡ k * segment + segment = omega (arith, add-mul k 1 segment) in
    let placed = by_four k segment is.by_4 in
    record {
      begins = refl;
      some = let some = is.some in omega (arith, early, next);
      short = let long = is.long in omega (arith, early, next);
      within = let within = is.within in omega (arith, early, next);
      aligned = λ before.
          let start_by_4 = is.start_by_4 in
          let by_4 = is.by_4 in
          let end_by_4 = is.end_by_4 in
          elim (cases_lt end (start + (k + 1) * segment + 1)) [
            | inl last ↦ let whole = end_by_4 (omega (arith, early, next)) in omega (arith, early, next)
            | inr more ↦ omega (arith, early, next, placed)
          ];
    }

-- so many pieces from piece j on
burst_cut : (size burst segment start end j m : ℕ) → IsBurst size burst segment start end → j + m ≤ div_ceil (end - start) segment
    → AreCut size burst (min end (start + j * segment)) (min end (start + (j + m) * segment)) (map (piece_in start end segment) (range_with_len j m))
burst_cut size burst segment start end j zero is below =
    let same : j + zero ≡ j = omega arith in
    ap (λ (n : ℕ). min end (start + n * segment)) (sym same)
burst_cut size burst segment start end j (suc m) is below =
    let begun = is.begun in
    let early : j * segment < end - start = part_within (end - start) segment j is.some (omega arith) in
    let here : start + j * segment ≡ min end (start + j * segment) = omega arith in
    let next : start + j * segment + (min end (start + (j + 1) * segment) - (start + j * segment)) ≡ min end (start + (j + 1) * segment) =
    omega (arith, add-mul j 1 segment) in
    let to : min end (start + (j + 1 + m) * segment) ≡ min end (start + (j + suc m) * segment) =
    (let count : j + 1 + m ≡ j + suc m = omega arith in ap (λ (n : ℕ). min end (start + n * segment)) count) in
    let rest = map (piece_in start end segment) (range_with_len (j + 1) m) in
    along size burst (piece_in start end segment j ∷ rest) (start + j * segment) (min end (start + (j + suc m) * segment)) _ _ here refl (
      one_cut size burst segment start end j is (omega arith),
      along size burst rest _ _ _ _ (sym next) to (burst_cut size burst segment start end (j + 1) m is (omega arith)),
    )

-- all of them
whole_burst : (size burst segment start end : ℕ) → IsBurst size burst segment start end → AreCut size burst start end (pieces_in start end segment)
whole_burst size burst segment start end is =
    let count = div_ceil (end - start) segment in
    let begun = is.begun in
    let reach = parts_reach (end - start) segment is.some in
    let none : 0 + count ≡ count = omega arith in
    along size burst (pieces_in start end segment) _ _ _ _
    (let nought = zero-mul segment in omega (arith, nought))
    (ap (λ (n : ℕ). min end (start + n * segment)) none ∙ (let all : min end (start + count * segment) ≡ end = omega (arith, reach) in all))
    (burst_cut size burst segment start end 0 count is (omega arith))

-- ---- all bursts

is_burst : (size burst segment b : ℕ) → 1 ≤ segment → burst % 4 ≡ 0 → segment % 4 ≡ 0 → b * burst < size
    → IsBurst size burst segment (burst_start burst b) (burst_end size burst b)
is_burst size burst segment b some burst_by_4 by_4 early =
    let next : (b + 1) * burst ≡ b * burst + burst = omega (arith, add-mul b 1 burst) in
    let start = by_four b burst burst_by_4 in
    record {
      some = some;
      by_4 = by_4;
      begun = omega (arith, next);
      within = omega arith;
      long = omega (arith, next);
      start_by_4 = start;
      end_by_4 = λ before. omega (arith, next, start);
    }

bursts_cut : (size burst segment a n : ℕ) → 1 ≤ burst → 1 ≤ segment → burst % 4 ≡ 0 → segment % 4 ≡ 0 → a + n ≤ div_ceil size burst
    → AreCut size burst (min size (a * burst)) (min size ((a + n) * burst))
    (flat_map (λ b. pieces_in (burst_start burst b) (burst_end size burst b) segment) (range_with_len a n))
bursts_cut size burst segment a zero some_burst some burst_by_4 by_4 below =
    let same : a + zero ≡ a = omega arith in
    ap (λ (n : ℕ). min size (n * burst)) (sym same)
bursts_cut size burst segment a (suc n) some_burst some burst_by_4 by_4 below =
    let early : a * burst < size = part_within size burst a some_burst (omega arith) in
    let here : a * burst ≡ min size (a * burst) = omega arith in
    let to : min size ((a + 1 + n) * burst) ≡ min size ((a + suc n) * burst) =
    (let count : a + 1 + n ≡ a + suc n = omega arith in ap (λ (m : ℕ). min size (m * burst)) count) in
    let first = pieces_in (burst_start burst a) (burst_end size burst a) segment in
    let others = flat_map (λ b. pieces_in (burst_start burst b) (burst_end size burst b) segment) (range_with_len (a + 1) n) in
    joined size burst first others _ (burst_end size burst a) _
    (along size burst first _ _ _ _ here refl (whole_burst size burst segment _ _ (is_burst size burst segment a some burst_by_4 by_4 early)))
    (along size burst others _ _ _ _ refl to (bursts_cut size burst segment (a + 1) n some_burst some burst_by_4 by_4 (omega arith)))

pub pieces_are_cut : (size burst segment : ℕ) → 1 ≤ burst → 1 ≤ segment → burst % 4 ≡ 0 → segment % 4 ≡ 0
    → AreCut size burst 0 size (pieces_of size burst segment)
pieces_are_cut size burst segment some_burst some burst_by_4 by_4 =
    let count = div_ceil size burst in
    let reach = parts_reach size burst some_burst in
    let none : 0 + count ≡ count = omega arith in
    along size burst (pieces_of size burst segment) _ _ _ _
    (let nought = zero-mul burst in omega (arith, nought))
    (ap (λ (n : ℕ). min size (n * burst)) none ∙ (let all : min size (count * burst) ≡ size = omega (arith, reach) in all))
    (bursts_cut size burst segment 0 count some_burst some burst_by_4 by_4 (omega arith))
