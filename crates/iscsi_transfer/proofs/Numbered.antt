-- Where the piece with a number lies.
use Rattle.std.proofs.Common.{◌≡◌, ℕ, zero, suc, ◌+◌, ◌-◌, ◌*◌, ◌/◌, ◌%◌, ◌<◌, ◌≤◌, ◌==◌, min, List, [], ◌∷◌, ◌++◌, length, take, get_or, true, Some, refl, ap, sym, ◌∙◌, inl, inr, arith, zero-add}
use Rattle.std.specs.Int.{div_ceil}
use Rattle.std.specs.List.{flat_map, range_with_len, slice_get}
use Rattle.std.proofs.Math.Nat.{add-mul, zero-mul, lt_of_mul-lt-mul_right, mul-le-mul_right, div-eq_of_lt, mod-eq_of_lt, div_self, mod_self}
use Rattle.std.proofs.lemmas.Nat.{div-add-mod'}
use Rattle.std.proofs.lemmas.Bool.{cases_lt}
use Rattle.std.proofs.lemmas.Bool.Decides.{nat_tests}
use Rattle.std.proofs.lemmas.Grind.{div_ceil_times}
use Rattle.std.proofs.lemmas.Option.{slice_get-get_or, slice_get_within}
use Rattle.std.proofs.lemmas.List.{get_or-append-add, length-append, take_more}
use Rattle.std.proofs.lemmas.List.FromFn.{get_or-map-range_with_len, length-range_with_len, get_or-range_with_len}
use Rattle.iscsi_transfer.specs.declared.data_in.Piece.{Piece}
use Rattle.iscsi_transfer.specs.DataIn.{burst_start, burst_end, piece_start, piece_in, pieces_of, piece_count}
use Rattle.iscsi_transfer.proofs.Pieces.{part_within}
use Rattle.iscsi_transfer.proofs.Counts.{burst_pieces, pieces_in-count, take-range, whole_bursts, pieces_are_counted, div_ceil-le}

-- ---- an element of joined lists

front_of : {X : Type 0} (xs ys : List X) (i : ℕ) (d : X) → i < length xs → get_or (xs ++ ys) i d ≡ get_or xs i d
front_of [] ys i d lt = absurd (omega arith)
front_of (x ∷ xs) ys zero d lt = refl
front_of (x ∷ xs) ys (suc i) d lt = front_of xs ys i d (omega arith)

joined_at : {X Y : Type 0} (g : X → List Y) (xs : List X) (b i : ℕ) (e : X) (d : Y) → b < length xs → i < length (g (get_or xs b e))
    → get_or (flat_map g xs) (length (flat_map g (take b xs)) + i) d ≡ get_or (g (get_or xs b e)) i d
joined_at g [] b i e d lt inside = absurd (omega arith)
joined_at g (x ∷ xs) zero i e d lt inside = ap (λ (n : ℕ). get_or (g x ++ flat_map g xs) n d) (zero-add i) ∙ front_of (g x) (flat_map g xs) i d inside
joined_at g (x ∷ xs) (suc b) i e d lt inside =
    let front = flat_map g (take b xs) in
    let long : length (g x ++ front) + i ≡ length (g x) + (length front + i) = omega (arith, length-append (g x) front) in
    ap (λ (n : ℕ). get_or (g x ++ flat_map g xs) n d) long
    ∙ get_or-append-add (g x) (flat_map g xs) (length front + i) d
    ∙ joined_at g xs b i e d (omega arith) inside

-- ---- its burst, and its place there

-- the number of a piece tells both
pub record IsPlaced (size burst segment b i : ℕ) : Type 0 where
  pub begins : b * burst < size
  pub inside : i * segment < burst_end size burst b - b * burst
  pub counted : b < div_ceil size burst
  pub place : i < div_ceil (burst_end size burst b - burst_start burst b) segment

-- a place below that many parts
below_parts : (length limit k : ℕ) → 1 ≤ limit → k * limit < length → k < div_ceil length limit
below_parts length limit k some lt =
    let reach : length ≤ div_ceil length limit * limit = (div_ceil_times length limit (omega arith)).0 in
    let below : k * limit < div_ceil length limit * limit = omega (arith, lt, reach) in
    lt_of_mul-lt-mul_right limit below

-- in a whole burst, or in what is left of the data
pub placed : (size burst segment b i : ℕ) → 1 ≤ burst → 1 ≤ segment
    → b * div_ceil burst segment + i < piece_count size burst segment → i < div_ceil burst segment → IsPlaced size burst segment b i
placed size burst segment b i some_burst some lt low =
    let q = size / burst in
    let r = size % burst in
    let each = div_ceil burst segment in
    let parts : q * burst + r ≡ size = div-add-mod' size burst in
    let less : r < burst = omega arith in
    let next : (b + 1) * burst ≡ b * burst + burst = add-mul b 1 burst ∙ omega arith in
    elim (cases_lt b q) [
      | inl earlier ↦ (
          let up : (b + 1) * burst ≤ q * burst = mul-le-mul_right burst (omega (arith, earlier)) in
          let long : burst_end size burst b - b * burst ≡ burst = omega (arith, up, next, parts) in
          let within : i * segment < burst = part_within burst segment i some low in
          let begins : b * burst < size = omega (arith, up, next, parts) in
          let inside : i * segment < burst_end size burst b - b * burst = omega (arith, long, within) in
          record {
            begins = begins;
            inside = inside;
            counted = below_parts size burst b some_burst begins;
            place = below_parts (burst_end size burst b - burst_start burst b) segment i some inside;
          })
      | inr later ↦ (
          let rest : div_ceil r segment ≤ each = div_ceil-le r burst segment some (omega (arith, less)) in
          let back : q * each ≤ b * each = mul-le-mul_right each later in
          let under : b * each < (q + 1) * each = omega (arith, lt, rest, add-mul q 1 each) in
          let not_above = lt_of_mul-lt-mul_right each under in
          let same : b ≡ q = omega (arith, later, not_above) in
          let here : b * each ≡ q * each = ap (λ (n : ℕ). n * each) same in
          let start : b * burst ≡ q * burst = ap (λ (n : ℕ). n * burst) same in
          let short : i < div_ceil r segment = omega (arith, lt, here) in
          let within : i * segment < r = part_within r segment i some short in
          let begins : b * burst < size = omega (arith, start, parts, within) in
          let inside : i * segment < burst_end size burst b - b * burst = omega (arith, start, parts, within, less, next) in
          record {
            begins = begins;
            inside = inside;
            counted = below_parts size burst b some_burst begins;
            place = below_parts (burst_end size burst b - burst_start burst b) segment i some inside;
          })
    ]

-- by division
pub placed_number : (size burst segment number each : ℕ) → each ≡ div_ceil burst segment → 1 ≤ burst → 1 ≤ segment
    → number < piece_count size burst segment → IsPlaced size burst segment (number / each) (number % each)
placed_number size burst segment number each is some_burst some lt =
    let first : 0 < div_ceil burst segment = below_parts burst segment 0 some (rw (zero-mul segment) (omega arith)) in
    let some_each : 1 ≤ each = omega (arith, is, first) in
    let parts : number / each * each + number % each ≡ number = div-add-mod' number each in
    let low : number % each < each = omega arith in
    placed size burst segment (number / each) (number % each) some_burst some (rw (← is) (omega (arith, parts, rw (← is) at lt))) (omega (arith, low, is))

-- the pieces of the bursts before it come first
piece_there : (size burst segment b i : ℕ) (d : Piece) → 1 ≤ burst → 1 ≤ segment → IsPlaced size burst segment b i
    → get_or (pieces_of size burst segment) (b * div_ceil burst segment + i) d ≡ piece_in (burst_start burst b) (burst_end size burst b) segment i
piece_there size burst segment b i d some_burst some at =
    let n = div_ceil size burst in
    let g = burst_pieces size burst segment in
    let range = range_with_len 0 n in
    let burst_there : get_or range b 0 ≡ b = get_or-range_with_len 0 n b 0 at.counted ∙ zero-add b in
    let before : length (flat_map g (take b range)) ≡ b * div_ceil burst segment =
    ap (λ (xs : List ℕ). length (flat_map g xs)) (take-range n b (let below = at.counted in omega arith))
    ∙ whole_bursts size burst segment b (let begins = at.begins in omega arith) in
    let count : length (g (get_or range b 0)) ≡ div_ceil (burst_end size burst b - burst_start burst b) segment =
    ap (λ (k : ℕ). length (g k)) burst_there ∙ pieces_in-count (burst_start burst b) (burst_end size burst b) segment in
    let inside : i < length (g (get_or range b 0)) = let place = at.place in omega (arith, count) in
    let below : b < length range = rw (length-range_with_len 0 n) at.counted in
    ap (λ (k : ℕ). get_or (flat_map g range) (k + i) d) (sym before)
    ∙ joined_at g range b i 0 d below inside
    ∙ ap (λ (k : ℕ). get_or (g k) i d) burst_there
    ∙ get_or-map-range_with_len (piece_in (burst_start burst b) (burst_end size burst b) segment) 0
    (div_ceil (burst_end size burst b - burst_start burst b) segment) i i d at.place (omega arith)

-- ---- as the function computes it

-- the piece of this size at a place
pub piece_numbered : (size burst segment number b i length_ : ℕ) → 1 ≤ burst → 1 ≤ segment → number < piece_count size burst segment
    → number ≡ b * div_ceil burst segment + i → IsPlaced size burst segment b i
    → length_ ≡ min segment (burst_end size burst b - (b * burst + i * segment))
    → slice_get (pieces_of size burst segment) number
    ≡ Some (record { offset = b * burst + i * segment; length = length_; is_final = (b * burst + i * segment + length_ == burst_end size burst b) })
piece_numbered size burst segment number b i length_ some_burst some lt is at long =
    let d : Piece = record { offset = 0; length = 0; is_final = true } in
    let next : (i + 1) * segment ≡ i * segment + segment = add-mul i 1 segment ∙ omega arith in
    let inside = at.inside in
    let end = min (burst_end size burst b) (piece_start (burst_start burst b) segment (i + 1)) in
    let size_is : length_ ≡ end - (b * burst + i * segment) = omega (arith, next, long, inside) in
    let stop : b * burst + i * segment + length_ ≡ end = omega (arith, next, long, inside) in
    let below : number < length (pieces_of size burst segment) = omega (arith, lt, pieces_are_counted size burst segment some_burst some) in
    slice_get-get_or (pieces_of size burst segment) number d below
    ∙ ap Some (ap (λ (k : ℕ). get_or (pieces_of size burst segment) k d) is ∙ piece_there size burst segment b i d some_burst some at ∙ rw (stop, size_is) refl)

-- ---- as the loop takes them

pub front_grows : (now all : List Piece) (k : ℕ) (piece : Piece) → now ≡ take k all → slice_get all k ≡ Some piece → now ++ piece ∷ [] ≡ take (k + 1) all
front_grows now all k piece front is =
    let lt : k < length all = slice_get_within all k piece is in
    let found = slice_get-get_or all k piece lt in
    let there : get_or all k piece ≡ piece = cc in
    rw (take_more all k piece lt, there, front) refl

-- ---- data that is one piece

one_part : (size limit : ℕ) → 1 ≤ limit → size ≤ limit → div_ceil size limit ≡ min size 1
one_part size limit some le = elim (cases_lt size limit) [
  | inl less ↦ rw (div-eq_of_lt less, mod-eq_of_lt less) (omega arith)
  | inr more ↦
      let same : size ≡ limit = omega arith in
      let positive : 0 < limit = omega arith in
      rw (same, div_self positive, mod_self limit) (omega arith)
]

-- data that a burst and a segment hold is one piece, and no data is none
pub few_pieces : (size burst segment : ℕ) → 1 ≤ burst → 1 ≤ segment → size ≤ burst → size ≤ segment → piece_count size burst segment ≡ min size 1
few_pieces size burst segment some_burst some in_burst in_segment = elim (cases_lt size burst) [
  | inl less ↦
      rw (div-eq_of_lt less, mod-eq_of_lt less, zero-mul (div_ceil burst segment)) (omega (arith, one_part size segment some in_segment))
  | inr more ↦
      let same : size ≡ burst = omega arith in
      let positive : 0 < burst = omega arith in
      let whole : div_ceil burst segment ≡ min burst 1 = one_part burst segment some (omega arith) in
      let left : div_ceil 0 segment ≡ min 0 1 = one_part 0 segment some (omega arith) in
      rw (same, div_self positive, mod_self burst) (omega (arith, whole, left))
]

-- the one piece
pub only_piece : (size burst segment number : ℕ) → 1 ≤ burst → 1 ≤ segment → number < piece_count size burst segment
    → size ≤ burst → size ≤ segment
    → slice_get (pieces_of size burst segment) number ≡ Some (record { offset = 0; length = size; is_final = true })
only_piece size burst segment number some_burst some lt in_burst in_segment =
    let count : piece_count size burst segment ≡ min size 1 = few_pieces size burst segment some_burst some in_burst in_segment in
    let first : number ≡ 0 = omega (arith, lt, count) in
    let start : 0 * burst ≡ 0 = zero-mul burst in
    let from : 0 * segment ≡ 0 = zero-mul segment in
    let none : 0 * div_ceil burst segment ≡ 0 = zero-mul (div_ceil burst segment) in
    let once : (0 + 1) * burst ≡ 0 * burst + burst = add-mul 0 1 burst ∙ omega arith in
    let end : burst_end size burst 0 ≡ size = omega (arith, start, once) in
    let there : 0 * div_ceil burst segment + 0 < piece_count size burst segment = omega (arith, none, first, lt) in
    let parts : 0 < div_ceil burst segment = below_parts burst segment 0 some (rw from (omega arith)) in
    let long : size ≡ min segment (burst_end size burst 0 - (0 * burst + 0 * segment)) = omega (arith, end, start, from) in
    let found = piece_numbered size burst segment number 0 0 size some_burst some lt (omega (arith, none, first))
    (placed size burst segment 0 0 some_burst some there parts) long in
    let last : (0 * burst + 0 * segment + size == burst_end size burst 0) ≡ true = grind (arith, nat_tests, end, start, from) in
    rw (last, start, from) at found
