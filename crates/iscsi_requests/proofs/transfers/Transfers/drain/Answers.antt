use Rattle.std.proofs.Common.{arith}
use Rattle.std.proofs.lemmas.Grind.{common_steps}
use Rattle.iscsi_requests.proofs.transfers.Transfers.drain.Goals as goal

pub invariant_of-self : goal.invariant_of-self
invariant_of-self = grind (arith, common_steps)

pub invariant_of-self-in-loop-place : goal.invariant_of-self-in-loop-place
invariant_of-self-in-loop-place = grind (arith, common_steps)

pub loop-place-preserved : goal.loop-place-preserved
loop-place-preserved = grind (arith, common_steps)

pub returns : goal.returns
returns = grind (arith, common_steps)

pub returns-in_err-reserve : goal.returns-in_err-reserve
returns-in_err-reserve = grind (arith, common_steps)

pub loop-place-preserved-then-is_asked : goal.loop-place-preserved-then-is_asked
loop-place-preserved-then-is_asked = grind (arith, common_steps)

pub loop-place-preserved-else-is_asked : goal.loop-place-preserved-else-is_asked
loop-place-preserved-else-is_asked = grind (arith, common_steps)
