-- Events, without the place of their bytes in memory.
use Rattle.std.specs.Prelude.{List, map}
use Rattle.iscsi_world.specs.History as history
use Rattle.iscsi_target.specs.declared.event.Event.{Event}
use Rattle.iscsi_target.specs.declared.event.Event.TheVariants as events

abbrev pub event_view : Event → history.Event
event_view (events.Open c) = history.Open c
event_view (events.Bytes c piece) = history.Bytes c piece.items
event_view (events.Gone c) = history.Gone c

abbrev pub events_view : List Event → List history.Event
events_view events = map event_view events

-- the history of these events in which no allocation failed
abbrev pub plain_history : List Event → history.History
plain_history events = map history.plain (events_view events)
