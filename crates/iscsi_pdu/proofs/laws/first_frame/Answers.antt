use Rattle.iscsi_pdu.proofs.Frames.{drop_shorter, frames_step, rest_step}
use Rattle.iscsi_pdu.proofs.laws.first_frame.Goals as goal
use Rattle.std.proofs.Common.{sym}

pub returns-clause-frames : goal.returns-clause-frames
returns-clause-frames c = frames_step

pub returns-clause-rest : goal.returns-clause-rest
returns-clause-rest c bytes there = sym (rest_step bytes there)

pub returns-clause-shorter : goal.returns-clause-shorter
returns-clause-shorter c = drop_shorter
