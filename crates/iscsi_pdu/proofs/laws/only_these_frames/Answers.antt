use Rattle.iscsi_pdu.proofs.Cuts.{only_frames, only_rest}
use Rattle.iscsi_pdu.proofs.laws.only_these_frames.Goals as goal

pub returns-clause-frames : goal.returns-clause-frames
returns-clause-frames c = only_frames

pub returns-clause-rest : goal.returns-clause-rest
returns-clause-rest c = only_rest
