use Rattle.std.proofs.Common.{◌≡◌, ◌++◌, drop}
use Rattle.std.specs.List.{flat_map}
use Rattle.iscsi_outbox.specs.Outbox.{run_bytes}
use Rattle.iscsi_outbox.proofs.run.copy_runs.Given as goal

-- what is copied, and the runs that are to come, is all
abbrev pub invariant-loop-place : goal.invariant-loop-place
invariant-loop-place l =
    l.bytes.items ++ flat_map run_bytes (drop l.place l.runs.items) ≡ l.initial.bytes.items ++ flat_map run_bytes l.runs.items
