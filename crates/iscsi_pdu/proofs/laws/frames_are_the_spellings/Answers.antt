use Rattle.iscsi_pdu.proofs.Cuts.{frames_are_cut}
use Rattle.iscsi_pdu.proofs.laws.frames_are_the_spellings.Goals as goal

pub returns : goal.returns
returns c = frames_are_cut
