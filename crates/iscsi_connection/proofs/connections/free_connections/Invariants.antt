use Rattle.std.proofs.Common.{◌≡◌, replicate}
use Rattle.iscsi_world.specs.Machine.{free_link}
use Rattle.iscsi_connection.proofs.connections.free_connections.Given as goal

abbrev pub invariant-loop : goal.invariant-loop
invariant-loop l = l.connections.items ≡ replicate l.counter free_link
