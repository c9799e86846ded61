-- What the events of a poll make known, and whom it names then.
use Rattle.std.specs.Prelude.{List, fold, true}
use Rattle.mio.specs.declared.event.event.Event.{Event}
use Rattle.iscsi_ports.specs.Readiness.{after_event}
use Rattle.iscsi_ports.specs.Turns.{Names}
use Rattle.iscsi_ports.specs.declared.readiness.Readiness.{Readiness}

-- own: a poll makes known who is ready by these events, one after another, and changes nothing else of what is known. Then
-- it names some of those that are ready.
abbrev pub IsNamed : List Event → Readiness → Readiness → Type 0
IsNamed events before after = Names true (fold after_event before events) after
