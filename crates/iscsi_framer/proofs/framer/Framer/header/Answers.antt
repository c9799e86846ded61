use Rattle.std.proofs.Common.{arith}
use Rattle.std.proofs.lemmas.Grind.{common_steps}
use Rattle.iscsi_framer.proofs.framer.Framer.header.Goals as goal

pub returns : goal.returns
returns = grind (arith, common_steps)

pub returns-then-not-is_full : goal.returns-then-not-is_full
returns-then-not-is_full = grind (arith, common_steps)
