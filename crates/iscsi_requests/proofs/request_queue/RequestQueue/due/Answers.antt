use Rattle.std.proofs.Common.{arith}
use Rattle.std.proofs.lemmas.Grind.{common_steps}
use Rattle.iscsi_requests.proofs.request_queue.RequestQueue.due.Goals as goal

pub returns : goal.returns
returns = grind (arith, common_steps)

pub returns-in_err-key : goal.returns-in_err-key
returns-in_err-key = grind (arith, common_steps)
