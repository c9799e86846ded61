use Rattle.std.proofs.Common.{arith}
use Rattle.std.proofs.lemmas.Grind.{common_steps}
use Rattle.iscsi_serve.proofs.ending.is_done.Goals as goal

pub returns-else-closing : goal.returns-else-closing
returns-else-closing c = grind (arith, common_steps)

pub returns-then-closing : goal.returns-then-closing
returns-then-closing c = grind (arith, common_steps)
