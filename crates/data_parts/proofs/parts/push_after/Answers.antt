use Rattle.std.proofs.Common.{arith}
use Rattle.std.proofs.lemmas.Grind.{common_steps}
use Rattle.data_parts.proofs.parts.push_after.Goals as goal

pub returns : goal.returns
returns = grind (arith, common_steps)

pub returns-in_err-reserve : goal.returns-in_err-reserve
returns-in_err-reserve = grind (arith, common_steps)
