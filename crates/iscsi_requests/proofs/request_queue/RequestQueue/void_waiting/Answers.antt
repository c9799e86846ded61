use Rattle.std.proofs.Common.{arith}
use Rattle.iscsi_requests.proofs.Voiding.{voids_then, voided_lines}
use Rattle.iscsi_requests.proofs.request_queue.RequestQueue.void_waiting.Goals as goal

pub returns : goal.returns
returns c = grind (arith, voids_then, voided_lines)
