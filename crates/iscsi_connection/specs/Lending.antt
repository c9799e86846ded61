-- A connection that is borrowed mutably.
use Rattle.std.specs.Prelude.{ℕ, List, slice_set}
use Rattle.std.specs.Borrow.{Lends, MutBor, Fml}
use Rattle.iscsi_world.specs.Machine.{LinkState}
use Rattle.iscsi_connection.specs.contracts.connections.Connections.{the_row}
use Rattle.iscsi_connection.specs.contracts.connection.Connection.{the_row as link_row}

-- when the borrow ends, the list has this connection as it was left
abbrev pub LendsLink : MutBor (List LinkState) → ℕ → MutBor LinkState → Fml
LendsLink links c link = Lends the_row link_row links link (slice_set links.now c)
