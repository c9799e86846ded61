use Rattle.std.proofs.Common.{arith}
use Rattle.std.proofs.lemmas.Grind.{common_steps}
use Rattle.iscsi_framer.proofs.frame_buffer.FrameBuffer.lend.Goals as goal

pub invariant_of-self : goal.invariant_of-self
invariant_of-self = grind (arith, common_steps)

pub returns : goal.returns
returns = grind (arith, common_steps)

pub returns-then-room-len : goal.returns-then-room-len
returns-then-room-len = grind (arith, common_steps)
