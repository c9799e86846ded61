use Rattle.std.proofs.Common.{arith}
use Rattle.std.proofs.lemmas.Grind.{common_steps}
use Rattle.iscsi_ports.proofs.script.Script.read.Goals as goal

pub returns-in-Bytes : goal.returns-in-Bytes
returns-in-Bytes = grind (arith, common_steps)

pub returns-in_default : goal.returns-in_default
returns-in_default = grind (arith, common_steps)

pub returns-then-is_empty : goal.returns-then-is_empty
returns-then-is_empty = grind (arith, common_steps)
