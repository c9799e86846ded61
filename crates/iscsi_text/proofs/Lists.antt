-- The text of pairs, and the value of a key, a pair at a time.
use Rattle.std.proofs.Common.{◌≡◌, ℕ, ◌+◌, cond, List, [], ◌∷◌, ◌++◌, take, drop, Some, refl, ap, ◌∙◌}
use Rattle.std.specs.Prelude.{slice_get, bytes_eq}
use Rattle.std.proofs.lemmas.List.{take_more, drop_more, append-nil}
use Rattle.std.proofs.lemmas.List.Concat.{flat_map-append}
use Rattle.std.proofs.lemmas.Option.{get_or_from_slice_get, slice_get_within}
use Rattle.iscsi_text.specs.Pairs.{Pair, spelled, text_of, value_of}

-- one more pair after a text
pub text_more : (pairs : List Pair) (at : ℕ) (pair : Pair) → slice_get pairs at ≡ Some pair
    → text_of (take (at + 1) pairs) ≡ text_of (take at pairs) ++ spelled pair
text_more pairs at pair e =
    let within = slice_get_within pairs at pair e in
    rw (take_more pairs at pair within, get_or_from_slice_get pairs at pair pair e) (flat_map-append spelled (take at pairs) (pair ∷ [])
    ∙ ap (λ (x : List ℕ). text_of (take at pairs) ++ x) (append-nil (spelled pair)))

-- the pair at a place has the key, or the pairs after it decide
pub value_at : (key : List ℕ) (pairs : List Pair) (at : ℕ) (pair : Pair) → slice_get pairs at ≡ Some pair
    → value_of key (drop at pairs) ≡ cond (bytes_eq key pair.0) (Some pair.1) (value_of key (drop (at + 1) pairs))
value_at key pairs at pair e =
    let within = slice_get_within pairs at pair e in
    rw (drop_more pairs at pair within, get_or_from_slice_get pairs at pair pair e) refl
