use Rattle.std.proofs.Common.{◌-◌}
use Rattle.iscsi_requests.proofs.Voiding.{Swept}
use Rattle.iscsi_requests.proofs.request_queue.RequestQueue.sweep_queue.Given as goal

-- what is left goes through
abbrev pub invariant-loop : goal.invariant-loop
invariant-loop l = Swept l.reach l.initial.self l.self (l.end - l.counter)
