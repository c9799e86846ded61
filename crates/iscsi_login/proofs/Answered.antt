-- The text of an answer, a pair at a time.
use Rattle.std.proofs.Common.{◌≡◌, ℕ, ◌+◌, List, [], ◌∷◌, ◌++◌, take, Option, Some, None, refl, ap, ◌∙◌}
use Rattle.std.specs.Prelude.{slice_get, option_to_list}
use Rattle.std.specs.List.{filter_map, cons_option}
use Rattle.std.proofs.lemmas.List.Concat.{flat_map-append}
use Rattle.iscsi_text.specs.Pairs.{Pair, spelled, text_of}
use Rattle.iscsi_login.specs.Keys.{settled, key_result}
use Rattle.iscsi_login.specs.Login.{answered_pair, answered_text}
use Rattle.iscsi_login.proofs.Lists.{filter_map_more}

onto_none : {X : Type 0} (x : Option X) → cons_option x [] ≡ option_to_list x
onto_none None = refl
onto_none (Some x) = refl

answered_is : (pair : Pair) → text_of (filter_map answered_pair (pair ∷ [])) ≡ answered_text pair.0 (settled pair.0 pair.1)
unfolding key_result
answered_is pair = ap text_of (onto_none (answered_pair pair))

-- one more result after an answer's text
pub answer_more : (offers : List Pair) (at : ℕ) (pair : Pair) → slice_get offers at ≡ Some pair
    → text_of (filter_map answered_pair (take (at + 1) offers))
    ≡ text_of (filter_map answered_pair (take at offers)) ++ answered_text pair.0 (settled pair.0 pair.1)
answer_more offers at pair e =
    let so_far = filter_map answered_pair (take at offers) in
    ap text_of (filter_map_more answered_pair offers at pair e)
    ∙ flat_map-append spelled so_far (filter_map answered_pair (pair ∷ []))
    ∙ ap (λ (bytes : List ℕ). text_of so_far ++ bytes) (answered_is pair)

-- the texts of the parts of an answer
pub answer_parts : (first results last : List Pair) → text_of (first ++ results ++ last) ≡ text_of first ++ text_of results ++ text_of last
answer_parts first results last =
    flat_map-append spelled (first ++ results) last ∙ ap (λ (bytes : List ℕ). bytes ++ text_of last) (flat_map-append spelled first results)
