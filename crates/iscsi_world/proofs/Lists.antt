-- Facts about lists that several proofs share.
use Rattle.std.proofs.Common.{◌≡◌, ℕ, zero, suc, ◌+◌, ◌<◌, List, [], ◌∷◌, map, length, get_or, drop, take, set, ◌++◌, Bool, cond, not, refl, ap, ◌∙◌, arith}
use Rattle.iscsi_world.proofs.Lending.{get_or_any}
use Rattle.std.specs.List.{range_with_len, position, position_or_len}
use Rattle.std.proofs.lemmas.List.{length-map}
use Rattle.std.proofs.lemmas.List.Edits.{map_over_more}

position_or_len-map : {X Y : Type 0} (p : Y → Bool) (f : X → Y) (xs : List X) → position_or_len p (map f xs) ≡ position_or_len (λ x. p (f x)) xs
position_or_len-map p f [] = refl
position_or_len-map p f (x ∷ xs) = ap (λ (n : ℕ). cond (not (p (f x))) (1 + n) 0) (position_or_len-map p f xs)

-- a search among what f makes of each element
pub position_of_map : {X Y : Type 0} (p : Y → Bool) (f : X → Y) (xs : List X) → position p (map f xs) ≡ position (λ x. p (f x)) xs
position_of_map p f xs = rw (position_or_len-map p f xs, length-map) refl

-- a loop that writes f of each element over it
pub map_over_next : {X : Type 0} (f : X → X) (xs ys : List X) (i : ℕ) (d : X) → length ys ≡ length xs → i < length xs → ys ≡ map f (take i xs)
    ++ drop i xs → set ys i (f (get_or ys i d)) ≡ map f (take (i + 1) xs) ++ drop (i + 1) xs
map_over_next f xs ys i d len lt e = map_over_more f xs ys i (get_or ys i d) lt e (get_or_any ys i d (get_or ys i d) (omega arith))

-- the numbers from a on, and one more
pub range_more : (a n : ℕ) → range_with_len a (suc n) ≡ range_with_len a n ++ (a + n) ∷ []
range_more a zero = ap (λ (n : ℕ). n ∷ []) (omega arith)
range_more a (suc n) = ap (λ (ns : List ℕ). a ∷ ns) (range_more (a + 1) n ∙ ap (λ (m : ℕ). range_with_len (a + 1) n ++ m ∷ []) (omega arith))

pub range_next : (n : ℕ) → range_with_len 0 (n + 1) ≡ range_with_len 0 n ++ n ∷ []
range_next n = let one_more : n + 1 ≡ suc n = omega arith in let same : 0 + n ≡ n = omega arith in ap (range_with_len 0) one_more ∙ range_more 0 n
    ∙ ap (λ (d : ℕ). range_with_len 0 n ++ d ∷ []) same
