use Rattle.std.proofs.Common.{arith}
use Rattle.std.proofs.lemmas.Grind.{common_steps}
use Rattle.iscsi_transfer.proofs.progress.Progress.filled.Goals as goal

pub returns-else-self : goal.returns-else-self
returns-else-self = grind (arith, common_steps)

pub returns-then-self : goal.returns-then-self
returns-then-self = grind (arith, common_steps)
