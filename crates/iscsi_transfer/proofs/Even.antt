-- Data whose bursts are cut into pieces of one length: where its pieces lie, and how many they are.
use Rattle.std.proofs.Common.{◌≡◌, ℕ, suc, ◌+◌, ◌-◌, ◌*◌, ◌/◌, ◌%◌, ◌<◌, ◌≤◌, ◌==◌, min, length, Some, refl, ap, sym, subst, ◌∙◌, inl, inr, arith}
use Rattle.std.specs.Int.{div_ceil}
use Rattle.std.specs.List.{slice_get}
use Rattle.std.proofs.Math.Nat.{add-mul, suc-mul, zero-mul, one-mul, mul_assoc, mul-le-mul_right, lt_of_mul-lt-mul_right}
use Rattle.std.proofs.lemmas.Nat.{div-add-mod', mod_below}
use Rattle.std.proofs.lemmas.Bool.{cases_lt}
use Rattle.std.proofs.lemmas.Grind.{div_ceil_times}
use Rattle.std.proofs.lemmas.Option.{slice_get_within}
use Rattle.iscsi_transfer.specs.declared.data_in.Piece.{Piece}
use Rattle.iscsi_transfer.specs.DataIn.{burst_end, pieces_of, piece_count}
use Rattle.iscsi_transfer.proofs.Counts.{pieces_are_counted}
use Rattle.iscsi_transfer.proofs.Numbered.{placed_number, piece_numbered}

-- ---- multiples

-- a multiple of p less than p above n is no later than one from n on
no_later : (n p a b : ℕ) → a * p < n + p → n ≤ b * p → a ≤ b
no_later n p a b above reach =
    let below : a * p < (b + 1) * p = omega (arith, above, reach, add-mul b 1 p) in
    let less = lt_of_mul-lt-mul_right p below in
    omega (arith, less)

-- so one multiple of p is from n on and less than p above it
one_multiple : (n p a b : ℕ) → n ≤ a * p → a * p < n + p → n ≤ b * p → b * p < n + p → a ≡ b
one_multiple n p a b reach_a above_a reach_b above_b =
    let le = no_later n p a b above_a reach_b in
    let ge = no_later n p b a above_b reach_a in
    omega (arith, le, ge)

-- it tells how many parts there are
parts_are : (n limit m : ℕ) → 1 ≤ limit → n ≤ m * limit → m * limit < n + limit → div_ceil n limit ≡ m
parts_are n limit m some reach above =
    let bounds = div_ceil_times n limit some in
    one_multiple n limit (div_ceil n limit) m bounds.0 bounds.1 reach above

-- ---- bursts that are cut into pieces of length p

-- the pieces of a whole burst fill it, each begins at a multiple of p, and p bytes of it are left; part of a burst has as many as it takes to hold it
record IsEven (burst segment p : ℕ) : Type 0 where
  pub some : 1 ≤ p
  pub whole : div_ceil burst segment * p ≡ burst
  pub start : (i : ℕ) → i < div_ceil burst segment → i * segment ≡ i * p
  pub long : (i : ℕ) → i < div_ceil burst segment → min segment (burst - i * p) ≡ p
  pub rest : (r : ℕ) → r < burst → (r ≤ div_ceil r segment * p) × (div_ceil r segment * p < r + p)

-- a burst of several whole segments
even_segments : (burst segment : ℕ) → 1 ≤ segment → burst % segment ≡ 0 → IsEven burst segment segment
even_segments burst segment some none =
    let m = burst / segment in
    let parts : m * segment + burst % segment ≡ burst = div-add-mod' burst segment in
    let is : div_ceil burst segment ≡ m = parts_are burst segment m some (omega (arith, parts, none)) (omega (arith, parts, none)) in
    let whole : div_ceil burst segment * segment ≡ burst = ap (λ (n : ℕ). n * segment) is ∙ omega (arith, parts, none) in
    record {
      some = some;
      whole = whole;
      start = λ i lt. refl;
      long = λ i lt.
          let next : (i + 1) * segment ≤ div_ceil burst segment * segment = mul-le-mul_right segment (omega (arith, lt)) in
          omega (arith, whole, next, add-mul i 1 segment);
      rest = λ r lt. div_ceil_times r segment some;
    }

-- a burst that a segment holds
even_bursts : (burst segment : ℕ) → 1 ≤ burst → burst ≤ segment → IsEven burst segment burst
even_bursts burst segment some le =
    let once : 1 * segment ≡ segment = one-mul segment in
    let is : div_ceil burst segment ≡ 1 = parts_are burst segment 1 (omega arith) (omega (arith, once)) (omega (arith, once)) in
    record {
      some = some;
      whole = ap (λ (n : ℕ). n * burst) is ∙ one-mul burst;
      start = λ i lt.
          let first : i ≡ 0 = omega (arith, lt, is) in
          rw first (omega (arith, zero-mul segment, zero-mul burst));
      long = λ i lt.
          let first : i ≡ 0 = omega (arith, lt, is) in
          rw first (omega (arith, zero-mul burst));
      rest = λ r lt. elim (cases_lt 0 r) [
        | inl more ↦
            let one : div_ceil r segment ≡ 1 = parts_are r segment 1 (omega arith) (omega (arith, once)) (omega (arith, once)) in
            rw one (omega (arith, one-mul burst), omega (arith, one-mul burst))
        | inr none ↦
            let nothing : 0 * segment ≡ 0 = zero-mul segment in
            let zero_ : div_ceil r segment ≡ 0 = parts_are r segment 0 (omega arith) (omega (arith, nothing)) (omega (arith, nothing)) in
            rw zero_ (omega (arith, zero-mul burst), omega (arith, zero-mul burst))
      ];
    }

-- in either case
is_even : (burst segment p : ℕ) → 1 ≤ burst → 1 ≤ segment → p ≡ min burst segment → burst % p ≡ 0 → IsEven burst segment p
is_even burst segment p some_burst some least none = elim (cases_lt segment burst) [
  | inl more ↦
      let same : p ≡ segment = omega (arith, least) in
      subst (IsEven burst segment) (sym same) (even_segments burst segment some (rw same at none))
  | inr le ↦
      let same : p ≡ burst = omega (arith, least) in
      subst (IsEven burst segment) (sym same) (even_bursts burst segment some_burst le)
]

-- ---- where the pieces lie

-- the multiple of p at which part i of burst b begins
even_start : (burst p each b i k : ℕ) → each * p ≡ burst → b * each + i ≡ k → k * p ≡ b * burst + i * p
even_start burst p each b i k whole parts =
    let bursts : b * each * p ≡ b * burst = mul_assoc b each p ∙ ap (λ (n : ℕ). b * n) whole in
    ap (λ (n : ℕ). n * p) (sym parts) ∙ omega (arith, add-mul (b * each) i p, bursts)

-- the bytes from there to the end of the burst
even_length : (size burst segment p b i : ℕ) → 1 ≤ p → min segment (burst - i * p) ≡ p
    → min segment (burst_end size burst b - (b * burst + i * p)) ≡ min p (size - (b * burst + i * p))
even_length size burst segment p b i some long = omega (arith, long, add-mul b 1 burst)

-- each piece begins at a multiple of p, and ends at the next or with the data
pub even_piece : (size burst segment p k : ℕ) (piece : Piece) → 1 ≤ burst → 1 ≤ segment → p ≡ min burst segment → burst % p ≡ 0
    → slice_get (pieces_of size burst segment) k ≡ Some piece
    → (piece.offset ≡ k * p) × (piece.length ≡ min p (size - k * p)) × (k * p < size)
even_piece size burst segment p k piece some_burst some least none is =
    let each = div_ceil burst segment in
    let b = k / each in
    let i = k % each in
    let even = is_even burst segment p some_burst some least none in
    let within : k < length (pieces_of size burst segment) = slice_get_within (pieces_of size burst segment) k piece is in
    let lt : k < piece_count size burst segment = omega (arith, within, pieces_are_counted size burst segment some_burst some) in
    let at = placed_number size burst segment k each refl some_burst some lt in
    let parts : b * each + i ≡ k = div-add-mod' k each in
    let from : k * p ≡ b * burst + i * p = even_start burst p each b i k even.whole parts in
    let first : 0 * p < each * p = omega (arith, even.whole, zero-mul p) in
    let low : i < each = mod_below k each (lt_of_mul-lt-mul_right p first) in
    let same : i * segment ≡ i * p = even.start i low in
    let stop = min segment (burst_end size burst b - (b * burst + i * segment)) in
    let last = b * burst + i * segment + stop == burst_end size burst b in
    let found : slice_get (pieces_of size burst segment) k ≡ Some (record { offset = b * burst + i * segment; length = stop; is_final = last }) =
    piece_numbered size burst segment k b i stop some_burst some lt (sym parts) at refl in
    let piece_is : piece ≡ record { offset = b * burst + i * segment; length = stop; is_final = last } = cc (is, found) in
    let long : stop ≡ min p (size - (b * burst + i * p)) =
    ap (λ (n : ℕ). min segment (burst_end size burst b - (b * burst + n))) same ∙ even_length size burst segment p b i even.some (even.long i low) in (
      ap (λ (x : Piece). x.offset) piece_is ∙ omega (arith, from, same),
      ap (λ (x : Piece). x.length) piece_is ∙ long ∙ ap (λ (n : ℕ). min p (size - n)) (sym from),
      let inside = at.inside in omega (arith, from, same, inside),
    )

-- ---- how many they are

-- if the data goes beyond n times p bytes and not beyond the next multiple, it is suc n pieces
pub even_count : (size burst segment p n : ℕ) → 1 ≤ burst → 1 ≤ segment → p ≡ min burst segment → burst % p ≡ 0
    → n * p < size → size ≤ suc n * p → piece_count size burst segment ≡ suc n
even_count size burst segment p n some_burst some least none begins ends =
    let q = size / burst in
    let r = size % burst in
    let even = is_even burst segment p some_burst some least none in
    let parts : q * burst + r ≡ size = div-add-mod' size burst in
    let rest = even.rest r (mod_below size burst some_burst) in
    let pieces : piece_count size burst segment * p ≡ q * burst + div_ceil r segment * p =
    add-mul (q * div_ceil burst segment) (div_ceil r segment) p
    ∙ ap (λ (m : ℕ). m + div_ceil r segment * p) (mul_assoc q (div_ceil burst segment) p ∙ ap (λ (m : ℕ). q * m) even.whole) in
    one_multiple size p (piece_count size burst segment) (suc n) (omega (arith, pieces, parts, rest.0)) (omega (arith, pieces, parts, rest.1))
    ends (omega (arith, begins, suc-mul n p))
