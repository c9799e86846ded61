-- The set of the keys that were read.
use Rattle.std.proofs.Common.{◌≡◌, ℕ, Bool, true, false, cond, ◌||◌, List, [], ◌∷◌, ◌++◌, map, Bor, refl, sym, ap, ◌∙◌}
use Rattle.std.specs.Prelude.{bytes_eq}
use Rattle.std.specs.Ordering.{nat_cmp}
use Rattle.std.specs.Cmp.Lexicographic.{slice_cmp}
use Rattle.std.specs.BTreeSet.{BTreeSet, contains, Updates}
use Rattle.std.specs.List.{list_any}
use Rattle.std.proofs.lemmas.Bool.Decides.{same_from_decides, Decides-like}
use Rattle.std.proofs.lemmas.Map.Text.{is_eq-slice_cmp}
use Rattle.std.proofs.lemmas.Slice.Eq.{bytes_eq-Decides}
use Rattle.std.proofs.lemmas.List.{map_push}
use Rattle.iscsi_text.specs.Pairs.{Pair}

abbrev pub holds_key : BTreeSet (Bor (List ℕ)) → Bor (List ℕ) → Bool
holds_key keys key = contains (λ x y. slice_cmp nat_cmp x.now y.now) keys key

abbrev pub has_key_among : List Pair → List ℕ → Bool
has_key_among pairs key = list_any (bytes_eq key) (map (λ pair. pair.0) pairs)

bytes_eq-comm : (xs ys : List ℕ) → bytes_eq xs ys ≡ bytes_eq ys xs
bytes_eq-comm xs ys = same_from_decides (bytes_eq xs ys) (bytes_eq ys xs) (bytes_eq-Decides xs ys)
    (Decides-like (bytes_eq ys xs) sym sym (bytes_eq-Decides ys xs))

list_any-push : {X : Type 0} (test : X → Bool) (xs : List X) (x : X) → list_any test (xs ++ x ∷ []) ≡ cond (test x) true (list_any test xs)
list_any-push test [] x = go (test x)
  where
    go : (b : Bool) → (b || false) ≡ cond b true false
    go true = refl
    go false = refl
list_any-push test (y ∷ xs) x = rw (list_any-push test xs x) (go (test y) (test x))
  where
    go : (a b : Bool) → (a || cond b true (list_any test xs)) ≡ cond b true (a || list_any test xs)
    go true true = refl
    go true false = refl
    go false true = refl
    go false false = refl

-- a key that is put into the set stands after the keys
pub keys_more : (old new : BTreeSet (Bor (List ℕ))) (key : Bor (List ℕ)) (pairs : List Pair) (value : List ℕ)
    → ((q : Bor (List ℕ)) → holds_key old q ≡ has_key_among pairs q.now)
    → Updates (λ x y. slice_cmp nat_cmp x.now y.now) old new key true
    → (q : Bor (List ℕ)) → holds_key new q ≡ has_key_among (pairs ++ (key.now, value) ∷ []) q.now
keys_more old new key pairs value before update q =
    update.0 q
    ∙ rw (is_eq-slice_cmp key.now q.now, before q, bytes_eq-comm key.now q.now)
    (sym (ap (list_any (bytes_eq q.now)) (map_push (λ (pair : Pair). pair.0) pairs (key.now, value))
    ∙ list_any-push (bytes_eq q.now) (map (λ pair. pair.0) pairs) key.now))
