-- A text cut into pieces: the last multiples, and piece after piece.
use Rattle.std.proofs.Common.{◌≡◌, ℕ, zero, suc, ◌+◌, ◌-◌, ◌*◌, ◌<◌, ◌≤◌, min, List, [], ◌∷◌, ◌++◌, length, take, drop, map, refl, sym, ap, ◌∙◌, arith, length-drop}
use Rattle.std.specs.Int.{div_ceil}
use Rattle.std.specs.List.{range_with_len}
use Rattle.std.specs.declared.ops.Range.{Range}
use Rattle.std.proofs.Math.Nat.{suc-mul, one-mul, zero-mul, mul-le-mul_right, lt_of_mul-lt-mul_right}
use Rattle.std.proofs.lemmas.Grind.{div_ceil_times}
use Rattle.std.proofs.lemmas.List.{map-append, drop-drop, take_all}
use Rattle.iscsi_text.specs.Cut.{piece_at, piece_count, cut_of, part_of, parts_cut}
use Rattle.iscsi_text.specs.Laws.{LongIsCut, ShortIsWhole}

-- the next multiple
pub next_multiple : (k limit : ℕ) → (k + 1) * limit ≡ k * limit + limit
next_multiple k limit = let next : k + 1 ≡ suc k = omega arith in rw next (suc-mul k limit)

-- ---- the number of pieces

-- how far that many pieces reach
record Reaches (len limit : ℕ) : Type 0 where
  enough : len ≤ div_ceil len limit * limit
  tight : div_ceil len limit * limit < len + limit

reaches : (len limit : ℕ) → 1 ≤ limit → Reaches len limit
reaches len limit some =
    let both = div_ceil_times len limit (omega (arith, some)) in record { enough = both.0; tight = both.1 }

-- a piece begins within the text
pub begins_within : (len limit number : ℕ) → 1 ≤ limit → number < piece_count len limit → number * limit ≤ len
begins_within len limit zero some lt = rw (zero-mul limit) (omega arith)
begins_within len limit (suc n) some lt =
    let r = reaches len limit some in
    let below : suc (suc n) ≤ div_ceil len limit = omega (arith, lt) in
    let up : suc (suc n) * limit ≤ div_ceil len limit * limit = mul-le-mul_right limit below in
    omega (arith, up, suc-mul (suc n) limit, r.tight)

-- a text that is no longer than the limit is one piece
one_piece : (len limit : ℕ) → 1 ≤ limit → len ≤ limit → piece_count len limit ≡ 1
one_piece len limit some short =
    let r = reaches len limit some in
    let below : div_ceil len limit * limit < 2 * limit = omega (arith, r.tight, short) in
    let few : div_ceil len limit < 2 = lt_of_mul-lt-mul_right limit below in
    omega (arith, few)

-- the limit more is a piece more
one_more : (len limit : ℕ) → 1 ≤ limit → 1 ≤ len → piece_count (len + limit) limit ≡ suc (piece_count len limit)
one_more len limit some there =
    let r = reaches len limit some in
    let s = reaches (len + limit) limit some in
    let a = div_ceil (len + limit) limit in
    let b = div_ceil len limit in
    let high : a * limit < suc (suc b) * limit = omega (arith, s.tight, r.enough, suc-mul (suc b) limit, suc-mul b limit) in
    let low : suc b * limit < suc a * limit = omega (arith, s.enough, r.tight, suc-mul b limit, suc-mul a limit) in
    let first : 0 * limit < b * limit = omega (arith, r.enough, there, zero-mul limit) in
    let is_high : a < suc (suc b) = lt_of_mul-lt-mul_right limit high in
    let is_low : suc b < suc a = lt_of_mul-lt-mul_right limit low in
    let is_some : 0 < b = lt_of_mul-lt-mul_right limit first in
    omega (arith, is_high, is_low, is_some)

-- ---- piece after piece, as the code makes them

range_more : (from n : ℕ) → range_with_len from (suc n) ≡ range_with_len from n ++ (from + n) ∷ []
range_more from zero = let e : from + 0 ≡ from = omega arith in rw e refl
range_more from (suc n) =
    let e : from + 1 + n ≡ from + suc n = omega arith in
    ap (λ (l : List ℕ). from ∷ l) (range_more (from + 1) n ∙ rw e refl)

-- the first pieces
unfoldable pub first_pieces : ℕ → ℕ → ℕ → List (Range ℕ)
first_pieces len limit n = map (piece_at len limit) (range_with_len 0 n)

pub no_pieces : (len limit : ℕ) → first_pieces len limit 0 ≡ []
unfolding first_pieces
no_pieces len limit = refl

pub all_pieces : (len limit n : ℕ) → n ≡ piece_count len limit → first_pieces len limit n ≡ cut_of len limit
unfolding first_pieces cut_of
all_pieces len limit n is = rw is refl

pub more_pieces : (len limit n : ℕ) → first_pieces len limit (n + 1) ≡ first_pieces len limit n ++ piece_at len limit n ∷ []
unfolding first_pieces
more_pieces len limit n =
    let next : n + 1 ≡ suc n = omega arith in
    let at : 0 + n ≡ n = omega arith in
    ap (λ (m : ℕ). map (piece_at len limit) (range_with_len 0 m)) next
    ∙ ap (map (piece_at len limit)) (range_more 0 n ∙ ap (λ (m : ℕ). range_with_len 0 n ++ m ∷ []) at)
    ∙ map-append (piece_at len limit) (range_with_len 0 n) (n ∷ [])

-- ---- piece after piece, as they are sent

-- a later piece is one of the rest
shifted_part : (limit : ℕ) (text : List ℕ) (k : ℕ) → limit ≤ length text
    → part_of text (piece_at (length text) limit (k + 1)) ≡ part_of (drop limit text) (piece_at (length (drop limit text)) limit k)
shifted_part limit text k long =
    let left : length (drop limit text) ≡ length text - limit = length-drop limit text in
    let here : (k + 1) * limit ≡ k * limit + limit = next_multiple k limit in
    let next : (k + 1 + 1) * limit ≡ (k + 1) * limit + limit = next_multiple (k + 1) limit in
    let size : min (length text) ((k + 1 + 1) * limit) - (k + 1) * limit ≡ min (length (drop limit text)) ((k + 1) * limit) - k * limit =
    omega (arith, left, here, next, long) in
    let place : drop ((k + 1) * limit) text ≡ drop (k * limit) (drop limit text) =
    ap (λ (n : ℕ). drop n text) (let e : (k + 1) * limit ≡ limit + k * limit = omega (arith, here) in e) ∙ sym (drop-drop (k * limit) limit text) in
    ap (λ (n : ℕ). take n (drop ((k + 1) * limit) text)) size
    ∙ ap (λ (x : List ℕ). take (min (length (drop limit text)) ((k + 1) * limit) - k * limit) x) place

shifted : (limit : ℕ) (text : List ℕ) (k n : ℕ) → limit ≤ length text
    → map (part_of text) (map (piece_at (length text) limit) (range_with_len (k + 1) n))
    ≡ map (part_of (drop limit text)) (map (piece_at (length (drop limit text)) limit) (range_with_len k n))
shifted limit text k zero long = refl
shifted limit text k (suc n) long =
    let tail = shifted limit text (k + 1) n long in
    ap (λ (x : List ℕ). x ∷ map (part_of text) (map (piece_at (length text) limit) (range_with_len (k + 1 + 1) n))) (shifted_part limit text k long)
    ∙ ap (λ (l : List (List ℕ)). part_of (drop limit text) (piece_at (length (drop limit text)) limit k) ∷ l) tail

-- the first piece begins the text
first_part : (limit : ℕ) (text : List ℕ) → part_of text (piece_at (length text) limit 0) ≡ take (min (length text) limit) text
first_part limit text =
    let zero_times : 0 * limit ≡ 0 = zero-mul limit in
    let end : (0 + 1) * limit ≡ limit = one-mul limit in
    let size : min (length text) ((0 + 1) * limit) - 0 * limit ≡ min (length text) limit = omega (arith, zero_times, end) in
    ap (λ (n : ℕ). take n (drop (0 * limit) text)) size ∙ ap (λ (n : ℕ). take (min (length text) limit) (drop n text)) zero_times

pub long_is_cut : LongIsCut
unfolding parts_cut cut_of
long_is_cut limit text some long =
    let rest = drop limit text in
    let left : length rest ≡ length text - limit = length-drop limit text in
    let sum : length text ≡ length rest + limit = omega (arith, left, long) in
    let count : piece_count (length text) limit ≡ suc (piece_count (length rest) limit) =
    ap (λ (n : ℕ). piece_count n limit) sum ∙ one_more (length rest) limit some (omega (arith, left, long)) in
    let size : min (length text) limit ≡ limit = omega (arith, long) in
    ap (λ (n : ℕ). map (part_of text) (map (piece_at (length text) limit) (range_with_len 0 n))) count
    ∙ ap (λ (x : List ℕ). x ∷ map (part_of text) (map (piece_at (length text) limit) (range_with_len (0 + 1) (piece_count (length rest) limit))))
    (first_part limit text ∙ ap (λ (n : ℕ). take n text) size)
    ∙ ap (λ (l : List (List ℕ)). take limit text ∷ l) (shifted limit text 0 (piece_count (length rest) limit) (omega (arith, long)))

pub short_is_whole : ShortIsWhole
unfolding parts_cut cut_of
short_is_whole limit text some short =
    let size : min (length text) limit ≡ length text = omega (arith, short) in
    ap (λ (n : ℕ). map (part_of text) (map (piece_at (length text) limit) (range_with_len 0 n))) (one_piece (length text) limit some short)
    ∙ ap (λ (x : List ℕ). x ∷ [])
    (first_part limit text ∙ ap (λ (n : ℕ). take n text) size ∙ take_all (length text) text (omega arith))
