use Rattle.iscsi_pdu.proofs.Joined.{parts_are_frames, left_is_the_rest}
use Rattle.iscsi_pdu.proofs.laws.parts_are_frames.Goals as goal

pub returns-clause-frames : goal.returns-clause-frames
returns-clause-frames c = parts_are_frames

pub returns-clause-left : goal.returns-clause-left
returns-clause-left c = left_is_the_rest
