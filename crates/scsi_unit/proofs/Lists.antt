-- Facts about lists that several proofs share.
use Rattle.std.proofs.Common.{◌≡◌, ℕ, zero, suc, ◌+◌, ◌<◌, ◌≤◌, List, [], ◌∷◌, map, length, get_or, drop, take, set, ◌++◌, refl, ap, ◌∙◌, arith}
use Rattle.std.proofs.lemmas.List.{take_all, drop_all, take-append-le, append-nil}
use Rattle.std.proofs.lemmas.List.Edits.{map_over_more}

pub get_or_any : {X : Type 0} (xs : List X) (i : ℕ) (d e : X) → i < length xs → get_or xs i d ≡ get_or xs i e
get_or_any [] i d e lt = absurd (omega arith)
get_or_any (x ∷ xs) zero d e lt = refl
get_or_any (x ∷ xs) (suc i) d e lt = get_or_any xs i d e (omega arith)

-- a loop that writes f of each element over it
pub map_over_next : {X : Type 0} (f : X → X) (xs ys : List X) (i : ℕ) (d : X) → length ys ≡ length xs → i < length xs
    → ys ≡ map f (take i xs) ++ drop i xs → set ys i (f (get_or ys i d)) ≡ map f (take (i + 1) xs) ++ drop (i + 1) xs
map_over_next f xs ys i d len lt e = map_over_more f xs ys i (get_or ys i d) lt e (get_or_any ys i d (get_or ys i d) (omega arith))

-- where the loop has gone over all
pub map_over_all : {X : Type 0} (f : X → X) (xs ys : List X) (i : ℕ) → length xs ≤ i → ys ≡ map f (take i xs) ++ drop i xs → ys ≡ map f xs
map_over_all f xs ys i whole e = e ∙ rw (take_all i xs whole, drop_all i xs whole) (append-nil (map f xs))

-- elements written over all that stand there
pub over_all : {X : Type 0} (ys zs : List X) (n : ℕ) → n ≡ length ys → take n (ys ++ drop (length ys) zs) ≡ ys
over_all ys zs n long = take-append-le n ys (drop (length ys) zs) (omega (arith, long)) ∙ take_all n ys (omega (arith, long))

pub map_none : {X : Type 0} (f : X → X) (xs : List X) → length xs ≡ 0 → xs ≡ map f xs
map_none f [] none = refl
map_none f (x ∷ xs) none = absurd (omega arith)

pub cons_same : {X : Type 0} {a b : X} {xs ys : List X} → a ≡ b → xs ≡ ys → a ∷ xs ≡ b ∷ ys
cons_same {X} {a} {b} {xs} {ys} first rest = ap (λ (x : X). x ∷ xs) first ∙ ap (λ (l : List X). b ∷ l) rest
