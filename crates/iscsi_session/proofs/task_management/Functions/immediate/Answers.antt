use Rattle.std.proofs.Common.{arith}
use Rattle.std.proofs.lemmas.Grind.{common_steps}
use Rattle.iscsi_session.proofs.task_management.Functions.immediate.Goals as goal

pub loop-header-preserved : goal.loop-header-preserved
loop-header-preserved = grind (arith, common_steps)

pub returns : goal.returns
returns = grind (arith, common_steps)
