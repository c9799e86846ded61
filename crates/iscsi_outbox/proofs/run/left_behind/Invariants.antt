use Rattle.std.proofs.Common.{◌≡◌, ◌+◌, length, drop}
use Rattle.std.specs.List.{flat_map}
use Rattle.iscsi_outbox.specs.Outbox.{run_bytes}
use Rattle.iscsi_outbox.proofs.run.left_behind.Given as goal

-- the bytes of the runs so far are taken away
abbrev pub invariant-loop-place : goal.invariant-loop-place
invariant-loop-place l =
    l.n + length (flat_map run_bytes (drop l.place l.runs.items)) ≡ l.left + length (flat_map run_bytes l.runs.items)
