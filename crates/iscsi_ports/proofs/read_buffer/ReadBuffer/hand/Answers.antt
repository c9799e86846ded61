use Rattle.std.proofs.Common.{◌∙◌, ap, drop, arith}
use Rattle.iscsi_ports.proofs.Buffers.{rest_of}
use Rattle.std.proofs.lemmas.Grind.{common_steps}
use Rattle.iscsi_ports.proofs.read_buffer.ReadBuffer.hand.Goals as goal

pub returns-clause-rest : goal.returns-clause-rest
returns-clause-rest c =
    rest_of c.self.inside.buffer.items c.self.inside.from c.self.inside.to c.min-count.result (omega arith) ∙ ap (drop c.min-count.result) c.self.view_is

pub invariant_of-self : goal.invariant_of-self
invariant_of-self = grind (arith, common_steps)

pub returns-clause-count : goal.returns-clause-count
returns-clause-count = grind (arith, common_steps)

pub returns-clause-piece : goal.returns-clause-piece
returns-clause-piece = grind (arith, common_steps)
