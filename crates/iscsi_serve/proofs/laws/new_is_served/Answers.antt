use Rattle.iscsi_serve.proofs.Steps.{new_served}
use Rattle.iscsi_serve.proofs.laws.new_is_served.Goals as goal

pub returns : goal.returns
returns c = new_served
