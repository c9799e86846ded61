use Rattle.std.proofs.Common.{arith}
use Rattle.std.proofs.lemmas.Grind.{common_steps}
use Rattle.iscsi_transfer.specs.WriteData.{fault_of}
use Rattle.iscsi_transfer.proofs.progress.Progress.fault_by.Goals as goal

pub returns-else-not-self : goal.returns-else-not-self
unfolding fault_of
returns-else-not-self = grind (arith, common_steps)

pub returns-then-buffer_offset-self : goal.returns-then-buffer_offset-self
unfolding fault_of
returns-then-buffer_offset-self = grind (arith, common_steps)

pub returns-then-data_sn-self : goal.returns-then-data_sn-self
unfolding fault_of
returns-then-data_sn-self = grind (arith, common_steps)

pub returns-then-end-reached : goal.returns-then-end-reached
unfolding fault_of
returns-then-end-reached = grind (arith, common_steps)

pub returns-then-is_final-reached : goal.returns-then-is_final-reached
unfolding fault_of
returns-then-is_final-reached = grind (arith, common_steps)

pub returns-then-not-target_transfer_tag-sequence_tag : goal.returns-then-not-target_transfer_tag-sequence_tag
unfolding fault_of
returns-then-not-target_transfer_tag-sequence_tag = grind (arith, common_steps)
