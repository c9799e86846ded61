use Rattle.std.proofs.Common.{arith}
use Rattle.std.proofs.lemmas.Grind.{common_steps}
use Rattle.iscsi_requests.proofs.transfers.Transfers.forget.Goals as goal

pub invariant_of-self : goal.invariant_of-self
invariant_of-self = grind (arith, common_steps)

pub loop-place-preserved : goal.loop-place-preserved
loop-place-preserved = grind (arith, common_steps)

pub returns : goal.returns
returns = grind (arith, common_steps)

pub loop-place-preserved-then-is_for : goal.loop-place-preserved-then-is_for
loop-place-preserved-then-is_for = grind (arith, common_steps)
