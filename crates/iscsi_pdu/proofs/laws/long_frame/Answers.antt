use Rattle.iscsi_pdu.proofs.Cuts.{long_is_no_frame, long_stays}
use Rattle.iscsi_pdu.proofs.laws.long_frame.Goals as goal

pub returns-clause-none : goal.returns-clause-none
returns-clause-none c = long_is_no_frame

pub returns-clause-stays : goal.returns-clause-stays
returns-clause-stays c = long_stays
