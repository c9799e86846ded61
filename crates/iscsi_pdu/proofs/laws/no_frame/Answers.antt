use Rattle.iscsi_pdu.proofs.Frames.{frames_none, rest_none}
use Rattle.iscsi_pdu.proofs.laws.no_frame.Goals as goal

pub returns-clause-frames : goal.returns-clause-frames
returns-clause-frames c = frames_none

pub returns-clause-rest : goal.returns-clause-rest
returns-clause-rest c = rest_none
