use Rattle.iscsi_pdu.proofs.Cuts.{frames_in_pieces, rest_in_pieces}
use Rattle.iscsi_pdu.proofs.laws.chunking.Goals as goal

pub returns-clause-frames : goal.returns-clause-frames
returns-clause-frames c = frames_in_pieces

pub returns-clause-rest : goal.returns-clause-rest
returns-clause-rest c = rest_in_pieces
