use Rattle.iscsi_exchange.proofs.Cutting.{texts_are_cut}
use Rattle.iscsi_exchange.proofs.laws.answers_are_cut.Goals as goal

pub returns : goal.returns
returns c = texts_are_cut
