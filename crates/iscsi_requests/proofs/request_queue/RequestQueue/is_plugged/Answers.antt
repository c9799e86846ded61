use Rattle.std.proofs.Common.{arith}
use Rattle.std.proofs.lemmas.Grind.{common_steps}
use Rattle.iscsi_requests.proofs.request_queue.RequestQueue.is_plugged.Goals as goal

pub returns-in-None : goal.returns-in-None
returns-in-None = grind (arith, common_steps)

pub returns-in-Some-get : goal.returns-in-Some-get
returns-in-Some-get = grind (arith, common_steps)

pub returns-in_default : goal.returns-in_default
returns-in_default = grind (arith, common_steps)
