use Rattle.std.proofs.Common.{arith}
use Rattle.std.proofs.lemmas.Grind.{common_steps}
use Rattle.iscsi_login.proofs.login.Login.begin.Goals as goal

pub returns : goal.returns
returns = grind (arith, common_steps)

pub returns-then-is_last_step : goal.returns-then-is_last_step
returns-then-is_last_step = grind (arith, common_steps)
