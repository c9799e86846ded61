-- What a further piece brings.
use Rattle.std.proofs.Common.{◌≡◌, ℕ, zero, suc, ◌+◌, List, [], ◌∷◌, ◌++◌, length, drop, map, Bool, false, cond, refl, ap, ◌∙◌, arith, append_assoc}
use Rattle.std.specs.List.{enumerate_from, fold}
use Rattle.std.proofs.lemmas.List.{append-nil, map-append}
use Rattle.std.proofs.lemmas.List.Sums.{fold-append}
use Rattle.std.proofs.Math.Seq.{drop-append_seam}
use Rattle.iscsi_pdu.specs.Frames.{frames, rest, is_long}
use Rattle.iscsi_pdu.proofs.Cuts.{frames_in_pieces, rest_in_pieces}
use Rattle.iscsi_world.specs.History.{Arrival, Whole, TooLong, arrivals, new_arrivals}

abbrev pub long_end : Bool → List Arrival
long_end long = cond long (TooLong ∷ []) []

-- ---- places

enumerate-append : {X : Type 0} (n : ℕ) (xs ys : List X) → enumerate_from n (xs ++ ys) ≡ enumerate_from n xs ++ enumerate_from (n + length xs) ys
enumerate-append n [] ys = let e : n + 0 ≡ n = omega arith in rw e refl
enumerate-append n (x ∷ xs) ys = grind (arith, enumerate-append (n + 1) xs ys)

enumerate-drop : {X : Type 0} (n k : ℕ) (xs : List X) → drop k (enumerate_from n xs) ≡ enumerate_from (n + k) (drop k xs)
enumerate-drop n zero xs = let e : n + 0 ≡ n = omega arith in rw e refl
enumerate-drop n (suc k) [] = refl
enumerate-drop n (suc k) (x ∷ xs) = let e : n + suc k ≡ n + 1 + k = omega arith in rw e (enumerate-drop (n + 1) k xs)

map-enumerate : {X : Type 0} (n : ℕ) (xs : List X) → map (λ a. a.1) (enumerate_from n xs) ≡ xs
map-enumerate n [] = refl
map-enumerate n (x ∷ xs) = ap (λ t. x ∷ t) (map-enumerate (n + 1) xs)

-- a fold over what stands at places, in two parts
pub fold-places : {W X : Type 0} (f : W → ℕ × X → W) (w : W) (n : ℕ) (xs ys : List X)
    → fold f w (enumerate_from n (xs ++ ys)) ≡ fold f (fold f w (enumerate_from n xs)) (enumerate_from (n + length xs) ys)
fold-places f w n xs ys = ap (fold f w) (enumerate-append n xs ys) ∙ fold-append f w (enumerate_from n xs) (enumerate_from (n + length xs) ys)

-- ---- arrivals

pub short_arrivals : (bytes : List ℕ) → is_long (rest bytes) ≡ false → arrivals bytes ≡ map Whole (frames bytes)
unfolding arrivals
short_arrivals bytes e = rw e (append-nil (map Whole (frames bytes)))

joined_frames : (b p : List ℕ) → arrivals (b ++ p) ≡ map Whole (frames b) ++ arrivals (rest b ++ p)
unfolding arrivals
joined_frames b p = grind (arith, frames_in_pieces, rest_in_pieces, map-append, append_assoc)

pub joined_arrivals : (bytes piece : List ℕ) → is_long (rest bytes) ≡ false → arrivals (bytes ++ piece) ≡ arrivals bytes ++ arrivals (rest bytes ++ piece)
joined_arrivals bytes piece e = rw (short_arrivals bytes e) (joined_frames bytes piece)

-- what a piece brings is what the rest brings with it, after the arrivals before
pub new_is : (bytes piece : List ℕ) → is_long (rest bytes) ≡ false → new_arrivals bytes piece
    ≡ enumerate_from (length (arrivals bytes)) (arrivals (rest bytes ++ piece))
unfolding new_arrivals
new_is bytes piece e = grind (arith, enumerate-drop, joined_arrivals, drop-append_seam)

pub in_pieces : (bytes piece : List ℕ) → is_long (rest bytes) ≡ false → arrivals (bytes ++ piece) ≡ arrivals bytes ++ map (λ a. a.1) (new_arrivals bytes piece)
in_pieces bytes piece e = grind (arith, joined_arrivals, new_is, map-enumerate)
