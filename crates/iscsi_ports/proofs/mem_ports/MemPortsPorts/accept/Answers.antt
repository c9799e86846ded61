use Rattle.std.proofs.Common.{arith}
use Rattle.std.proofs.lemmas.Grind.{common_steps}
use Rattle.iscsi_ports.proofs.mem_ports.MemPortsPorts.accept.Goals as goal

pub invariant_of-self : goal.invariant_of-self
invariant_of-self = grind (arith, common_steps)

pub invariant_of-self-in-None : goal.invariant_of-self-in-None
invariant_of-self-in-None = grind (arith, common_steps)

pub returns-after-keep : goal.returns-after-keep
returns-after-keep = grind (arith, common_steps)

pub returns-after-keep-2 : goal.returns-after-keep-2
returns-after-keep-2 = grind (arith, common_steps)
