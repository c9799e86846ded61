use Rattle.iscsi_world.proofs.Keeping.{answers_stay}
use Rattle.iscsi_target.proofs.laws.answers_stay.Goals as goal

pub returns : goal.returns
returns c = answers_stay
