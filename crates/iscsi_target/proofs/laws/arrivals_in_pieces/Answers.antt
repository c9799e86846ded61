use Rattle.iscsi_world.proofs.Arrivals.{in_pieces}
use Rattle.iscsi_target.proofs.laws.arrivals_in_pieces.Goals as goal

pub returns : goal.returns
returns c = in_pieces
