use Rattle.std.proofs.Common.{arith}
use Rattle.std.proofs.lemmas.Grind.{common_steps}
use Rattle.iscsi_framer.proofs.frame_buffer.FrameBuffer.append.Goals as goal

pub invariant_of-self : goal.invariant_of-self
invariant_of-self = grind (arith, common_steps)

pub invariant_of-self-2 : goal.invariant_of-self-2
invariant_of-self-2 = grind (arith, common_steps)

pub invariant_of-self-in_err-extend_from_slice : goal.invariant_of-self-in_err-extend_from_slice
invariant_of-self-in_err-extend_from_slice = grind (arith, common_steps)

pub invariant_of-self-in_err-reserve : goal.invariant_of-self-in_err-reserve
invariant_of-self-in_err-reserve = grind (arith, common_steps)

pub returns : goal.returns
returns = grind (arith, common_steps)

pub returns-in_err-extend_from_slice : goal.returns-in_err-extend_from_slice
returns-in_err-extend_from_slice = grind (arith, common_steps)

pub returns-in_err-reserve : goal.returns-in_err-reserve
returns-in_err-reserve = grind (arith, common_steps)

pub returns-then-piece-left : goal.returns-then-piece-left
returns-then-piece-left = grind (arith, common_steps)
