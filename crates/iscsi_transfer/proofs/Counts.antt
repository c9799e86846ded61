-- How many pieces data has.
use Rattle.std.proofs.Common.{◌≡◌, ℕ, zero, suc, ◌+◌, ◌-◌, ◌*◌, ◌/◌, ◌%◌, ◌<◌, ◌≤◌, List, length, take, refl, ap, sym, ◌∙◌, inl, inr, arith}
use Rattle.std.specs.Int.{div_ceil}
use Rattle.std.specs.List.{flat_map, range_with_len}
use Rattle.std.proofs.Math.Nat.{add-mul, suc-mul, zero-mul, mul-le-mul_right, mul-le-mul_left, lt_of_mul-lt-mul_right}
use Rattle.std.proofs.Math.Numerals.{suc-eq-add-one}
use Rattle.std.proofs.lemmas.Nat.{div-add-mod'}
use Rattle.std.proofs.lemmas.Bool.{cases_lt}
use Rattle.std.proofs.lemmas.Grind.{div_ceil_times}
use Rattle.std.proofs.lemmas.List.{length-append, map-id}
use Rattle.std.proofs.lemmas.List.FromFn.{length-map-range_with_len, take-map-range_with_len}
use Rattle.iscsi_transfer.specs.declared.data_in.Piece.{Piece}
use Rattle.iscsi_transfer.specs.DataIn.{burst_start, burst_end, piece_in, pieces_in, piece_count}
use Rattle.iscsi_transfer.specs.Laws.{PiecesAreCounted, LessHasFewer}
use Rattle.iscsi_transfer.proofs.Pieces.{bursts-more}

-- the pieces of burst number b
abbrev pub burst_pieces : ℕ → ℕ → ℕ → ℕ → List Piece
burst_pieces size burst segment b = pieces_in (burst_start burst b) (burst_end size burst b) segment

pub pieces_in-count : (start end segment : ℕ) → length (pieces_in start end segment) ≡ div_ceil (end - start) segment
pieces_in-count start end segment = length-map-range_with_len (piece_in start end segment) 0 (div_ceil (end - start) segment)

-- a part is cut into no more pieces than what it is a part of
pub div_ceil-le : (less size limit : ℕ) → 1 ≤ limit → less ≤ size → div_ceil less limit ≤ div_ceil size limit
div_ceil-le less size limit some le =
    let above : div_ceil less limit * limit < less + limit = (div_ceil_times less limit (omega arith)).1 in
    let reach : size ≤ div_ceil size limit * limit = (div_ceil_times size limit (omega arith)).0 in
    let next : (div_ceil size limit + 1) * limit ≡ div_ceil size limit * limit + limit = add-mul (div_ceil size limit) 1 limit ∙ omega arith in
    let below : div_ceil less limit * limit < (div_ceil size limit + 1) * limit = omega (arith, above, reach, next) in
    let less_ = lt_of_mul-lt-mul_right limit below in
    omega (arith, less_)

-- the pieces of the first bursts, where these are whole
pub whole_bursts : (size burst segment n : ℕ) → n * burst ≤ size → length (flat_map (burst_pieces size burst segment) (range_with_len 0 n))
    ≡ n * div_ceil burst segment
whole_bursts size burst segment zero le = sym (zero-mul (div_ceil burst segment))
whole_bursts size burst segment (suc n) le =
    let whole : suc n * burst ≡ n * burst + burst = suc-mul n burst in
    let next : (n + 1) * burst ≡ n * burst + burst = add-mul n 1 burst ∙ omega arith in
    let long : burst_end size burst n - burst_start burst n ≡ burst = omega (arith, le, whole, next) in
    ap (λ (m : ℕ). length (flat_map (burst_pieces size burst segment) (range_with_len 0 m))) (suc-eq-add-one n)
    ∙ ap (λ (xs : List Piece). length xs) (bursts-more size burst segment n)
    ∙ length-append (flat_map (burst_pieces size burst segment) (range_with_len 0 n)) (burst_pieces size burst segment n)
    ∙ ap (λ (m : ℕ). m + length (burst_pieces size burst segment n)) (whole_bursts size burst segment n (omega (arith, le, whole)))
    ∙ ap (λ (m : ℕ). n * div_ceil burst segment + m) (pieces_in-count (burst_start burst n) (burst_end size burst n) segment
    ∙ ap (λ (m : ℕ). div_ceil m segment) long)
    ∙ sym (suc-mul n (div_ceil burst segment))

none_left : (limit : ℕ) → 1 ≤ limit → div_ceil 0 limit ≡ 0
none_left limit some = omega arith

pub pieces_are_counted : PiecesAreCounted
pieces_are_counted size burst segment some_burst some =
    let q = size / burst in
    let r = size % burst in
    let parts : q * burst + r ≡ size = div-add-mod' size burst in
    let whole = whole_bursts size burst segment q (omega (arith, parts)) in
    elim (cases_lt 0 r) [
      | inl more ↦ (
          let n : div_ceil size burst ≡ q + 1 = omega (arith, more) in
          let below : r < burst = omega arith in
          let next : (q + 1) * burst ≡ q * burst + burst = add-mul q 1 burst ∙ omega arith in
          let long : burst_end size burst q - burst_start burst q ≡ r = omega (arith, parts, next, below) in
          ap (λ (m : ℕ). length (flat_map (burst_pieces size burst segment) (range_with_len 0 m))) n
          ∙ ap (λ (xs : List Piece). length xs) (bursts-more size burst segment q)
          ∙ length-append (flat_map (burst_pieces size burst segment) (range_with_len 0 q)) (burst_pieces size burst segment q)
          ∙ ap (λ (m : ℕ). m + length (burst_pieces size burst segment q)) whole
          ∙ ap (λ (m : ℕ). q * div_ceil burst segment + m) (pieces_in-count (burst_start burst q) (burst_end size burst q) segment
          ∙ ap (λ (m : ℕ). div_ceil m segment) long))
      | inr none ↦ (
          let n : div_ceil size burst ≡ q = omega (arith, none) in
          let left : div_ceil r segment ≡ 0 = ap (λ (m : ℕ). div_ceil m segment) (omega (arith, none)) ∙ none_left segment some in
          ap (λ (m : ℕ). length (flat_map (burst_pieces size burst segment) (range_with_len 0 m))) n ∙ whole ∙ omega (arith, left))
    ]

pub less_has_fewer : LessHasFewer
less_has_fewer less size burst segment some_burst some le =
    let p = less / burst in
    let q = size / burst in
    let each = div_ceil burst segment in
    let parts_less : p * burst + less % burst ≡ less = div-add-mod' less burst in
    let parts : q * burst + size % burst ≡ size = div-add-mod' size burst in
    let below_less : less % burst < burst = omega arith in
    let below : size % burst < burst = omega arith in
    elim (cases_lt p q) [
      | inl earlier ↦ (
          let rest : div_ceil (less % burst) segment ≤ each = div_ceil-le (less % burst) burst segment some (omega (arith, below_less)) in
          let up : (p + 1) * each ≤ q * each = mul-le-mul_right each (omega (arith, earlier)) in
          let next : (p + 1) * each ≡ p * each + each = add-mul p 1 each ∙ omega arith in
          omega (arith, rest, up, next))
      | inr later ↦ (
          let back : q * burst ≤ p * burst = mul-le-mul_right burst later in
          let same : p ≡ q = same_quotient p q (p * burst) (q * burst) burst some_burst refl refl later (omega (arith, parts_less, parts, below, le)) in
          let rest : div_ceil (less % burst) segment ≤ div_ceil (size % burst) segment =
          div_ceil-le (less % burst) (size % burst) segment some (omega (arith, parts_less, parts, le, ap (λ (n : ℕ). n * burst) same)) in
          omega (arith, rest, ap (λ (n : ℕ). n * each) same))
    ]
  where
    same_quotient : (p q a b burst : ℕ) → 1 ≤ burst → a ≡ p * burst → b ≡ q * burst → q ≤ p → a < b + burst → p ≡ q
    same_quotient p q a b burst some ea eb le lt =
        let next : (q + 1) * burst ≡ q * burst + burst = add-mul q 1 burst ∙ omega arith in
        let below : p * burst < (q + 1) * burst = omega (arith, lt, ea, eb, next) in
        let less_ = lt_of_mul-lt-mul_right burst below in
        omega (arith, less_, le)

-- ---- some of them

pub take-range : (n k : ℕ) → k ≤ n → take k (range_with_len 0 n) ≡ range_with_len 0 k
take-range n k le =
    ap (take k) (sym (map-id (range_with_len 0 n))) ∙ take-map-range_with_len (λ (x : ℕ). x) 0 n k le ∙ map-id (range_with_len 0 k)

-- they are no more than the bytes
pub count_fits : (size burst segment : ℕ) → 1 ≤ burst → 1 ≤ segment → piece_count size burst segment ≤ size
count_fits size burst segment some_burst some =
    let q = size / burst in
    let parts : q * burst + size % burst ≡ size = div-add-mod' size burst in
    let each : div_ceil burst segment ≤ burst = ceil_fits burst segment some in
    let left : div_ceil (size % burst) segment ≤ size % burst = ceil_fits (size % burst) segment some in
    let whole : q * div_ceil burst segment ≤ q * burst = mul-le-mul_left q each in
    omega (arith, parts, left, whole)
  where
    ceil_fits : (n limit : ℕ) → 1 ≤ limit → div_ceil n limit ≤ n
    ceil_fits n limit some =
        let above : div_ceil n limit * limit < n + limit = (div_ceil_times n limit (omega arith)).1 in
        let next : (n + 1) * limit ≡ n * limit + limit = add-mul n 1 limit ∙ omega arith in
        let wide : n * 1 ≤ n * limit = mul-le-mul_left n some in
        let below : div_ceil n limit * limit < (n + 1) * limit = omega (arith, above, next, wide) in
        let less_ = lt_of_mul-lt-mul_right limit below in
        omega (arith, less_)
