use Rattle.iscsi_text.proofs.ReadAgain.{is_read_again}
use Rattle.iscsi_text.proofs.laws.is_read_again.Goals as goal

pub returns : goal.returns
returns c = is_read_again
