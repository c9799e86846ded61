use Rattle.std.proofs.Common.{◌≡◌, fold}
use Rattle.std.specs.Slice.Iter.{iter_rest}
use Rattle.mio.specs.Events.{items}
use Rattle.iscsi_ports.specs.Readiness.{after_event}
use Rattle.iscsi_ports.proofs.events.see_all.Given as goal

-- what was seen, and then the rest, are all events
abbrev pub invariant-loop-event : goal.invariant-loop-event
invariant-loop-event l =
    fold after_event l.readiness (iter_rest l.event-iterator) ≡ fold after_event l.fn.readiness (items l.events)
