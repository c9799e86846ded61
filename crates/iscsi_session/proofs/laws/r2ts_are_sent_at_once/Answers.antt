use Rattle.iscsi_session.proofs.Asking as asking
use Rattle.iscsi_session.proofs.laws.r2ts_are_sent_at_once.Goals as goal

pub returns : goal.returns
returns c = asking.r2ts_are_sent_at_once
