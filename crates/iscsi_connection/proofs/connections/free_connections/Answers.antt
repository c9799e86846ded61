use Rattle.std.proofs.Common.{arith}
use Rattle.std.proofs.lemmas.Grind.{common_steps}
use Rattle.iscsi_connection.proofs.connections.free_connections.Goals as goal

pub loop-preserved : goal.loop-preserved
loop-preserved = grind (arith, common_steps)

pub returns : goal.returns
returns = grind (arith, common_steps)

pub returns-in_err-connections : goal.returns-in_err-connections
returns-in_err-connections = grind (arith, common_steps)

pub returns-in_err-push : goal.returns-in_err-push
returns-in_err-push = grind (arith, common_steps)
