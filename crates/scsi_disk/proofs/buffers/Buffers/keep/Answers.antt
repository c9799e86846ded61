use Rattle.std.proofs.Common.{arith}
use Rattle.std.proofs.lemmas.Grind.{common_steps}
use Rattle.scsi_disk.proofs.buffers.Buffers.keep.Goals as goal

pub invariant_of-self-then-is_kept : goal.invariant_of-self-then-is_kept
invariant_of-self-then-is_kept c = grind (arith, common_steps)

pub returns-then-is_kept : goal.returns-then-is_kept
returns-then-is_kept c = grind (arith, common_steps)
