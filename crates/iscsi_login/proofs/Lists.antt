-- Facts about lists that several proofs share.
use Rattle.std.proofs.Common.{◌≡◌, Bool, true, false, ◌||◌, cond, not, map, sym, ℕ, zero, suc, ◌+◌, List, [], ◌∷◌, drop, take, ◌++◌, Option, Some, refl, ap, ◌∙◌, add-one}
use Rattle.std.specs.List.{AllZip, fold, slice_get, list_any, position, position_or_len, filter_map}
use Rattle.std.proofs.lemmas.List.Elements.{filter_map-append}
use Rattle.std.proofs.lemmas.Option.{get_or_from_slice_get, slice_get_within}
use Rattle.std.proofs.lemmas.List.{length-map, take_more}

some_is : {X : Type 0} (x y : X) → Some x ≡ Some y → x ≡ y
some_is x y e = cc

drop_suc : {X : Type 0} (xs : List X) (i : ℕ) (x : X) → slice_get xs i ≡ Some x → drop i xs ≡ x ∷ drop (suc i) xs
drop_suc [] i x e = absurd cc
drop_suc (y ∷ ys) zero x e = ap (λ v. v ∷ ys) (some_is y x e)
drop_suc (y ∷ ys) (suc i) x e = drop_suc ys i x e

-- the element at a place, and those after it
pub drop_at : {X : Type 0} (xs : List X) (i : ℕ) (x : X) → slice_get xs i ≡ Some x → drop i xs ≡ x ∷ drop (i + 1) xs
drop_at xs i x e = rw add-one (drop_suc xs i x e)

-- a fold takes the element at a place, and those after it
pub fold_at : {X Y : Type 0} (f : Y → X → Y) (y : Y) (xs : List X) (i : ℕ) (x : X) → slice_get xs i ≡ Some x
    → fold f y (drop i xs) ≡ fold f (f y x) (drop (i + 1) xs)
fold_at f y xs i x e = ap (fold f y) (drop_at xs i x e)

-- the next test passes, so one of all does
pub list_any_ends : {X : Type 0} (p : X → Bool) (xs : List X) (i : ℕ) (x : X) → slice_get xs i ≡ Some x → p x ≡ true
    → list_any p xs ≡ list_any p (drop i xs) → true ≡ list_any p xs
list_any_ends p xs i x at passes so_far = sym (so_far ∙ ap (list_any p) (drop_at xs i x at) ∙ ap (λ v. v || list_any p (drop (i + 1) xs)) passes)

-- the next test fails, so those after it decide
pub list_any_goes_on : {X : Type 0} (p : X → Bool) (xs : List X) (i : ℕ) (x : X) → slice_get xs i ≡ Some x → p x ≡ false
    → list_any p xs ≡ list_any p (drop i xs) → list_any p xs ≡ list_any p (drop (i + 1) xs)
list_any_goes_on p xs i x at fails so_far = so_far ∙ ap (list_any p) (drop_at xs i x at) ∙ ap (λ v. v || list_any p (drop (i + 1) xs)) fails

position_or_len-map : {X Y : Type 0} (p : Y → Bool) (f : X → Y) (xs : List X) → position_or_len p (map f xs) ≡ position_or_len (λ x. p (f x)) xs
position_or_len-map p f [] = refl
position_or_len-map p f (x ∷ xs) = ap (λ (n : ℕ). cond (not (p (f x))) (1 + n) 0) (position_or_len-map p f xs)

-- a search among what f makes of each element
pub position_of_map : {X Y : Type 0} (p : Y → Bool) (f : X → Y) (xs : List X) → position p (map f xs) ≡ position (λ x. p (f x)) xs
position_of_map p f xs = rw (position_or_len-map p f xs, length-map) refl

-- one more element, of those that f keeps
pub filter_map_more : {X Y : Type 0} (f : X → Option Y) (xs : List X) (i : ℕ) (x : X) → slice_get xs i ≡ Some x
    → filter_map f (take (i + 1) xs) ≡ filter_map f (take i xs) ++ filter_map f (x ∷ [])
filter_map_more f xs i x at =
    let within = slice_get_within xs i x at in
    rw (take_more xs i x within, get_or_from_slice_get xs i x x at) (filter_map-append f (take i xs) (x ∷ []))

-- clones that f makes the same of
pub map_of_clones : {X Y : Type 0} (f : X → Y) (xs ys : List X) → AllZip (λ x y. f y ≡ f x) xs ys → map f ys ≡ map f xs
map_of_clones f [] [] zip = refl
map_of_clones f [] (y ∷ ys) zip = absurd zip
map_of_clones f (x ∷ xs) [] zip = absurd zip
map_of_clones f (x ∷ xs) (y ∷ ys) zip = rw (zip.0, map_of_clones f xs ys zip.1) refl
