use Rattle.std.proofs.Common.{arith}
use Rattle.std.proofs.lemmas.Grind.{common_steps}
use Rattle.iscsi_outbox.proofs.outbox.Outbox.trim.Goals as goal

pub invariant_of-self : goal.invariant_of-self
invariant_of-self = grind (arith, common_steps)

pub invariant_of-self-else-capacity-most : goal.invariant_of-self-else-capacity-most
invariant_of-self-else-capacity-most = grind (arith, common_steps)

pub returns-else-capacity-most : goal.returns-else-capacity-most
returns-else-capacity-most = grind (arith, common_steps)

pub returns-then-capacity-most : goal.returns-then-capacity-most
returns-then-capacity-most = grind (arith, common_steps)

pub returns-then-not-is_empty : goal.returns-then-not-is_empty
returns-then-not-is_empty = grind (arith, common_steps)
