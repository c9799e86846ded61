use Rattle.std.proofs.Common.{◌≡◌, ◌<◌, ℕ, length, slice_index_or}
use Rattle.iscsi_world.specs.Machine.{LinkState}
use Rattle.iscsi_connection.proofs.connections.Connections.are_quiet.Given as goal

abbrev pub invariant-loop-connection : goal.invariant-loop-connection
invariant-loop-connection l =
    (k : ℕ) (d : LinkState) → k < l.connection-index → length (slice_index_or l.connection-items k d).waiting ≡ 0
