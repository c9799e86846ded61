use Rattle.std.proofs.Common.{◌≡◌, ◌++◌, ◌∷◌, [], append_assoc, refl, arith}
use Rattle.iscsi_text.proofs.StringList.{pairs_of-append, ArePairs-append}
use Rattle.iscsi_text.proofs.list.Pairs.push.Goals as goal

pub invariant_of-self-else-is_err : goal.invariant_of-self-else-is_err
invariant_of-self-else-is_err c =
    let pushed : c.push-2.new.self ≡ c.push.new.self ++ c.args.value.now ∷ [] = grind (arith, c.push-2.ensures.added) in
    let both : c.push-2.new.self ≡ c.self.inside.strings ++ c.args.key.now ∷ c.args.value.now ∷ [] =
    rw (pushed, c.in_ok-push.ensures.added) (rw append_assoc refl) in
    rw both (ArePairs-append _ _ c.self.invariant refl)

pub returns-clause-added : goal.returns-clause-added
returns-clause-added c =
    let pushed : c.push-2.new.self ≡ c.push.new.self ++ c.args.value.now ∷ [] = grind (arith, c.push-2.ensures.added) in
    let both : c.push-2.new.self ≡ c.self.inside.strings ++ c.args.key.now ∷ c.args.value.now ∷ [] =
    rw (pushed, c.in_ok-push.ensures.added) (rw append_assoc refl) in
    rw (both, ← c.self.view_is) (pairs_of-append _ _ c.self.invariant)
