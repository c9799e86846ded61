use Rattle.std.proofs.Common.{arith}
use Rattle.std.proofs.lemmas.Grind.{common_steps}
use Rattle.media_block.proofs.disk.Disk.open.Goals as goal

pub invariant_of-result : goal.invariant_of-result
invariant_of-result = grind (arith, common_steps)

pub returns : goal.returns
returns = grind (arith, common_steps)

pub returns-in_default : goal.returns-in_default
returns-in_default = grind (arith, common_steps)

pub returns-then-length-eq0 : goal.returns-then-length-eq0
returns-then-length-eq0 = grind (arith, common_steps)
