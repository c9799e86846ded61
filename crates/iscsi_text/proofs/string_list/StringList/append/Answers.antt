use Rattle.std.proofs.Common.{◌≡◌, ◌+◌, ◌++◌, ◌∷◌, [], take, append_assoc, List, ℕ, Some, refl, arith}
use Rattle.std.specs.Prelude.{slice_get}
use Rattle.std.proofs.lemmas.List.{take_more}
use Rattle.std.proofs.lemmas.Option.{slice_get_within, get_or_from_slice_get}
use Rattle.iscsi_text.proofs.string_list.StringList.append.Goals as goal

-- one string more from the front of a list
one_more : (strings : List (List ℕ)) (at : ℕ) (string : List ℕ) → slice_get strings at ≡ Some string
    → take (at + 1) strings ≡ take at strings ++ string ∷ []
one_more strings at string e =
    let lt = slice_get_within strings at string e in
    rw (take_more strings at string lt, get_or_from_slice_get strings at string string e) refl

pub loop-at-preserved : goal.loop-at-preserved
loop-at-preserved c =
    let pushed : c.push.new.self ≡ c.loop-at.self ++ c.get.result.now ∷ [] = grind (arith, c.push.ensures.added) in
    rw (pushed, c.loop-at.invariant, one_more _ _ _ c.get.ensures) (rw append_assoc refl)
