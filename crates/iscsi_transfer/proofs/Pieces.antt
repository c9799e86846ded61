-- Where the pieces of data lie, and that they are the data.
use Rattle.std.proofs.Common.{◌≡◌, ℕ, zero, suc, ◌+◌, ◌-◌, ◌*◌, ◌<◌, ◌≤◌, ◌==◌, ◌||◌, min, List, [], ◌∷◌, ◌++◌, length, map, take, drop, slice_range, refl, ap, sym, ◌∙◌, inl, inr, arith, length-drop, zero-add}
use Rattle.std.specs.Int.{div_ceil}
use Rattle.std.specs.List.{flat_map, range_with_len}
use Rattle.std.proofs.Math.Nat.{add-mul, suc-mul, mul-le-mul_right, zero-mul}
use Rattle.std.proofs.Math.Numerals.{suc-eq-add-one}
use Rattle.std.proofs.Math.Seq.{take-add}
use Rattle.std.proofs.lemmas.Bool.{cases_lt}
use Rattle.std.proofs.lemmas.Bool.Decides.{nat_tests}
use Rattle.std.proofs.lemmas.Grind.{div_ceil_times}
use Rattle.std.proofs.lemmas.Slice.{between_is}
use Rattle.std.proofs.lemmas.List.{append-nil, map-id, take_all, take_min, take-take, length-take, drop-drop}
use Rattle.std.proofs.lemmas.List.Concat.{flat_map-append}
use Rattle.std.proofs.lemmas.List.FromFn.{map-range_with_len_more}
use Rattle.iscsi_transfer.specs.declared.data_in.Piece.{Piece}
use Rattle.iscsi_transfer.specs.DataIn.{burst_start, burst_end, piece_start, piece_in, pieces_in, part_of}
use Rattle.iscsi_transfer.specs.Laws.{PiecesFit, PiecesAreJoined}

-- the parts up to the last but one do not reach the end, and all parts together do
pub part_within : (length limit k : ℕ) → 1 ≤ limit → k < div_ceil length limit → k * limit < length
part_within length limit k some below =
    let above : div_ceil length limit * limit < length + limit = (div_ceil_times length limit (omega arith)).1 in
    let next : (k + 1) * limit ≤ div_ceil length limit * limit = mul-le-mul_right limit (omega arith) in
    omega (arith, above, next, add-mul k 1 limit)

parts_reach : (length limit : ℕ) → 1 ≤ limit → length ≤ div_ceil length limit * limit
parts_reach length limit some = (div_ceil_times length limit (omega arith)).0

take-take_min : (m n : ℕ) (xs : List ℕ) → take m (take n xs) ≡ take (min m n) xs
take-take_min m n xs = elim (cases_lt n m) [
  | inl more ↦
      let least : min m n ≡ n = omega arith in
      rw least (take_all m (take n xs) (rw (length-take n xs) (omega arith)))
  | inr less ↦
      let least : min m n ≡ m = omega arith in
      rw least (take-take m n xs less)
]

-- ---- one burst

-- the bytes of piece k
piece-bytes : (bytes : List ℕ) (start end segment k : ℕ)
    → part_of bytes (piece_in start end segment k) ≡ take segment (drop (k * segment) (slice_range bytes start end))
piece-bytes bytes start end segment k =
    let next : (k + 1) * segment ≡ k * segment + segment = omega (arith, add-mul k 1 segment) in
    let offset = piece_start start segment k in
    let long : offset + (min end (piece_start start segment (k + 1)) - offset) - offset ≡ min segment (end - start - k * segment) = omega (arith, next) in
    rw (
      ← between_is (drop start bytes) (k * segment) (end - start),
      drop-drop (k * segment) start bytes,
      take-take_min segment (end - start - k * segment) (drop (start + k * segment) bytes),
      long,
    ) refl

-- the first n pieces are the front of the burst
burst-front : (bytes : List ℕ) (start end segment n : ℕ)
    → flat_map (part_of bytes) (map (piece_in start end segment) (range_with_len 0 n)) ≡ take (n * segment) (slice_range bytes start end)
burst-front bytes start end segment zero = rw (zero-mul segment) refl
burst-front bytes start end segment (suc n) =
    let f = piece_in start end segment in
    let whole : suc n * segment ≡ n * segment + segment = suc-mul n segment in
    ap (λ (m : ℕ). flat_map (part_of bytes) (map f (range_with_len 0 m))) (suc-eq-add-one n)
    ∙ rw (
      map-range_with_len_more f 0 n n (zero-add n),
      flat_map-append (part_of bytes) (map f (range_with_len 0 n)) (f n ∷ []),
      burst-front bytes start end segment n,
      whole,
      take-add (n * segment) segment (slice_range bytes start end),
    )
    (ap (λ (x : List ℕ). take (n * segment) (slice_range bytes start end) ++ x) (append-nil (part_of bytes (f n)) ∙ piece-bytes bytes start end segment n))

-- all pieces are the burst
burst-joined : (bytes : List ℕ) (start end segment : ℕ) → 1 ≤ segment
    → flat_map (part_of bytes) (pieces_in start end segment) ≡ slice_range bytes start end
burst-joined bytes start end segment some =
    let n = div_ceil (end - start) segment in
    let reach = parts_reach (end - start) segment some in
    burst-front bytes start end segment n
    ∙ take_all (n * segment) (slice_range bytes start end) (rw (length-take (end - start) (drop start bytes)) (omega (arith, reach)))

-- ---- all bursts

-- the bytes of burst n
burst-bytes : (bytes : List ℕ) (burst n : ℕ) → slice_range bytes (burst_start burst n) (burst_end (length bytes) burst n) ≡ take burst (drop (n * burst) bytes)
burst-bytes bytes burst n =
    let next : (n + 1) * burst ≡ n * burst + burst = omega (arith, add-mul n 1 burst) in
    let long : burst_end (length bytes) burst n - n * burst ≡ min burst (length (drop (n * burst) bytes)) =
    omega (arith, next, length-drop (n * burst) bytes) in
    rw long (take_min burst (drop (n * burst) bytes))

range-more : (n : ℕ) → range_with_len 0 (n + 1) ≡ range_with_len 0 n ++ n ∷ []
range-more n =
    sym (map-id (range_with_len 0 (n + 1))) ∙ map-range_with_len_more (λ (x : ℕ). x) 0 n n (zero-add n)
    ∙ ap (λ (xs : List ℕ). xs ++ n ∷ []) (map-id (range_with_len 0 n))

-- one burst more
pub bursts-more : (length burst segment n : ℕ)
    → flat_map (λ b. pieces_in (burst_start burst b) (burst_end length burst b) segment) (range_with_len 0 (n + 1))
    ≡ flat_map (λ b. pieces_in (burst_start burst b) (burst_end length burst b) segment) (range_with_len 0 n)
    ++ pieces_in (burst_start burst n) (burst_end length burst n) segment
bursts-more length burst segment n =
    let g : ℕ → List Piece = λ b. pieces_in (burst_start burst b) (burst_end length burst b) segment in
    rw (range-more n, flat_map-append g (range_with_len 0 n) (n ∷ [])) (ap (λ (xs : List Piece). flat_map g (range_with_len 0 n) ++ xs) (append-nil (g n)))

-- the first n bursts are the front of the data
bursts-front : (bytes : List ℕ) (burst segment n : ℕ) → 1 ≤ segment
    → flat_map (part_of bytes) (flat_map (λ b. pieces_in (burst_start burst b) (burst_end (length bytes) burst b) segment) (range_with_len 0 n))
    ≡ take (n * burst) bytes
bursts-front bytes burst segment zero some = rw (zero-mul burst) refl
bursts-front bytes burst segment (suc n) some =
    let g : ℕ → List Piece = λ b. pieces_in (burst_start burst b) (burst_end (length bytes) burst b) segment in
    let whole : suc n * burst ≡ n * burst + burst = suc-mul n burst in
    ap (λ (m : ℕ). flat_map (part_of bytes) (flat_map g (range_with_len 0 m))) (suc-eq-add-one n)
    ∙ rw (
      bursts-more (length bytes) burst segment n,
      flat_map-append (part_of bytes) (flat_map g (range_with_len 0 n)) (g n),
      bursts-front bytes burst segment n some,
      burst-joined bytes (burst_start burst n) (burst_end (length bytes) burst n) segment some,
      whole,
      take-add (n * burst) burst bytes,
    )
    (ap (λ (xs : List ℕ). take (n * burst) bytes ++ xs) (burst-bytes bytes burst n))

pub pieces_are_joined : PiecesAreJoined
pieces_are_joined bytes burst segment some_burst some =
    let n = div_ceil (length bytes) burst in
    bursts-front bytes burst segment n some ∙ take_all (n * burst) bytes (parts_reach (length bytes) burst some_burst)

-- ---- where they lie

-- what ends no later than a burst ends with it where it ends at the next multiple or with the data
last-of-burst : (length limit stop : ℕ) → stop ≤ min length limit → (stop == min length limit) ≡ (stop == limit || stop == length)
last-of-burst length limit stop within = grind (arith, nat_tests)

stop-is : (offset stop : ℕ) → offset ≤ stop → offset + (stop - offset) ≡ stop
stop-is offset stop within = omega arith

pub pieces_fit : PiecesFit
pieces_fit length burst segment b k some_burst some below_bursts below =
    let start = part_within length burst b some_burst below_bursts in
    let offset = part_within (burst_end length burst b - b * burst) segment k some below in
    let next_burst = add-mul b 1 burst in
    let next = add-mul k 1 segment in
    record {
      some = omega (arith, start, offset, next_burst, next);
      short = omega (arith, start, offset, next_burst, next);
      behind = omega arith;
      below = omega (arith, start, offset, next_burst, next);
      within = omega (arith, start, offset, next_burst, next);
      last = rw (stop-is (burst_start burst b + k * segment) (min (burst_end length burst b) (piece_start (burst_start burst b) segment (k + 1)))
          (omega (arith, offset, next)))
          (last-of-burst length ((b + 1) * burst) (min (burst_end length burst b) (piece_start (burst_start burst b) segment (k + 1))) (omega arith));
    }

-- the end of a burst
pub burst_end-is : (length burst n : ℕ) → n * burst ≤ length → n * burst + min burst (length - n * burst) ≡ burst_end length burst n
burst_end-is length burst n within = omega (arith, add-mul n 1 burst)
