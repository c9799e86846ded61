use Rattle.std.proofs.Common.{◌≡◌, ◌≤◌, ◌+◌, length, vec_capacity}
use Rattle.std.specs.Prelude.{is_some}
use Rattle.std.specs.List.{prefix_len}
use Rattle.iscsi_requests.specs.RequestQueue.{moves_all}
use Rattle.iscsi_requests.proofs.request_queue.take_ready.Given as goal

-- what is left of the keys is handed over
abbrev pub invariant-loop-key : goal.invariant-loop-key
invariant-loop-key l = record {
  same : moves_all (l.window, l.due.items) ≡ moves_all (l.initial.window, l.initial.due.items);
  room : length l.due.items + prefix_len (λ k. is_some k) l.window.keys ≤ vec_capacity l.due;
}

abbrev pub decreases-loop-key : goal.decreases-loop-key
decreases-loop-key l = prefix_len (λ k. is_some k) l.window.keys
