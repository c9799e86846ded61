-- One more target, and one more pair, in the text of an answer.
use Rattle.std.proofs.Common.{◌≡◌, ℕ, ◌+◌, List, [], ◌∷◌, ◌++◌, take, Some, refl, sym, ap, ◌∙◌, append-nil, append_assoc}
use Rattle.std.specs.Prelude.{flat_map, filter, Option, slice_get}
use Rattle.std.proofs.lemmas.Option.{get_or_from_slice_get, slice_get_within}
use Rattle.std.proofs.lemmas.List.{take_more}
use Rattle.std.proofs.lemmas.List.Elements.{filter-append}
use Rattle.iscsi_exchange.specs.SendTargets.{target_pairs, is_asked, asked_pairs}
use Rattle.iscsi_text.specs.Pairs.{Pair, spelled, text_of}

flat_map_append : {X Y : Type 0} (f : X → List Y) (xs ys : List X) → flat_map f (xs ++ ys) ≡ flat_map f xs ++ flat_map f ys
flat_map_append f [] ys = refl
flat_map_append f (x ∷ xs) ys = ap (λ l. f x ++ l) (flat_map_append f xs ys) ∙ sym (append_assoc (f x) (flat_map f xs) (flat_map f ys))

-- what one more of these is mapped to
flat_map_more : {X Y : Type 0} (f : X → List Y) (xs : List X) (i : ℕ) (x : X) → slice_get xs i ≡ Some x
    → flat_map f (take (i + 1) xs) ≡ flat_map f (take i xs) ++ f x
flat_map_more f xs i x at =
    let within = slice_get_within xs i x at in
    rw (take_more xs i x within, get_or_from_slice_get xs i x x at)
    (flat_map_append f (take i xs) (x ∷ []) ∙ ap (λ l. flat_map f (take i xs) ++ l) (append-nil (f x)))

-- a text that is written as far as these pairs, and then one part further
pub text_further : (before text next : List ℕ) (xs ys all : List Pair) → text ≡ before ++ text_of xs → next ≡ text ++ text_of ys → all ≡ xs ++ ys
    → next ≡ before ++ text_of all
text_further before text next xs ys all is further whole =
    further ∙ ap (λ l. l ++ text_of ys) is ∙ append_assoc before (text_of xs) (text_of ys)
    ∙ ap (λ l. before ++ l) (sym (flat_map_append spelled xs ys)) ∙ ap (λ l. before ++ text_of l) (sym whole)

asked_append : (portal : List ℕ) (asked : Option (List ℕ)) (xs ys : List (List ℕ))
    → asked_pairs portal asked (xs ++ ys) ≡ asked_pairs portal asked xs ++ asked_pairs portal asked ys
asked_append portal asked xs ys =
    ap (flat_map (target_pairs portal)) (filter-append (is_asked asked) xs ys)
    ∙ flat_map_append (target_pairs portal) (filter (is_asked asked) xs) (filter (is_asked asked) ys)

-- the name at a place
pub asked_more : (portal : List ℕ) (asked : Option (List ℕ)) (names : List (List ℕ)) (i : ℕ) (name : List ℕ) → slice_get names i ≡ Some name
    → asked_pairs portal asked (take (i + 1) names) ≡ asked_pairs portal asked (take i names) ++ asked_pairs portal asked (name ∷ [])
asked_more portal asked names i name at =
    let within = slice_get_within names i name at in
    rw (take_more names i name within, get_or_from_slice_get names i name name at) (asked_append portal asked (take i names) (name ∷ []))

-- the pair at a place
pub answers_more : (f : Pair → List Pair) (pairs : List Pair) (i : ℕ) (pair : Pair) → slice_get pairs i ≡ Some pair
    → flat_map f (take (i + 1) pairs) ≡ flat_map f (take i pairs) ++ f pair
answers_more f pairs i pair at = flat_map_more f pairs i pair at
