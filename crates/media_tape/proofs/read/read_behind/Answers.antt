use Rattle.std.proofs.Common.{arith}
use Rattle.std.proofs.lemmas.Grind.{common_steps}
use Rattle.media_tape.proofs.read.read_behind.Goals as goal

pub returns : goal.returns
returns = grind (arith, common_steps)

pub returns-then-count-eq0 : goal.returns-then-count-eq0
returns-then-count-eq0 = grind (arith, common_steps)
