-- What remains after a run, as clauses see it.
use Rattle.std.specs.Prelude.{List, option_map}
use Rattle.iscsi_ports.specs.Log.{Entry}
use Rattle.iscsi_ports.specs.declared.socket_ports.SocketPorts.{SocketPorts}
use Rattle.iscsi_ports.specs.declared.mio_sockets.MioSockets.{MioSockets}
use Rattle.targetd.specs.declared.left.Left.{Left}
use Rattle.targetd.specs.declared.left.Served.{Served}
use Rattle.target_units.specs.Refusal.{refusal_of}
use Rattle.targetd.specs.Run.{ServedState, LeftState}

module _ {S : Type 0} (log : SocketPorts MioSockets → List Entry) where
  abbrev pub served_view : Served S → ServedState
  served_view served = record { log = log served.ports; target = served.target }

  abbrev pub left_view : Left S → LeftState
  left_view left = record {
    streams = left.streams;
    told = left.told.calls;
    refused = refusal_of left.refused;
    unbound = left.unbound.calls;
    logged = left.logged.calls;
    replayed = left.replayed;
    served = option_map served_view left.served;
  }
