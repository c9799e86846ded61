use Rattle.std.proofs.Common.{arith}
use Rattle.std.proofs.lemmas.Grind.{common_steps}
use Rattle.iscsi_ports.proofs.mem_ports.MemPortsPorts.read.Goals as goal

pub invariant_of-self : goal.invariant_of-self
invariant_of-self = grind (arith, common_steps)

pub returns : goal.returns
returns = grind (arith, common_steps)
