use Rattle.std.proofs.Common.{arith}
use Rattle.std.proofs.lemmas.Grind.{common_steps}
use Rattle.iscsi_requests.proofs.Empty.{no_requests, none_held}
use Rattle.iscsi_requests.proofs.request_queue.RequestQueue.is_empty.Goals as goal

pub returns-clause-due : goal.returns-clause-due
returns-clause-due = grind (arith, common_steps, no_requests)

pub returns-clause-queue : goal.returns-clause-queue
returns-clause-queue = grind (arith, common_steps, no_requests)

pub returns-clause-held : goal.returns-clause-held
returns-clause-held = grind (arith, common_steps, none_held)
