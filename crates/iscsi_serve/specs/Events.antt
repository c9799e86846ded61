-- The events of the target, read from the log of the ports.
use Rattle.std.specs.Prelude.{ℕ, List, [], ◌∷◌, flat_map, if◌then◌else◌}
use Rattle.target_limits.specs.Numbers.{is_number}
use Rattle.iscsi_target.specs.History as history
use Rattle.iscsi_ports.specs.Log.{Carried, Bytes, Entry, Open, Read, Close}

abbrev pub brought : ℕ → Carried → List history.Event
brought c (Bytes (byte ∷ piece)) = history.Bytes c (byte ∷ piece) ∷ []
brought c _ = []

abbrev pub event_of : Entry → List history.Event
event_of (Open c) = if is_number c then history.Open c ∷ [] else []
event_of (Read c room carried) = brought c carried
event_of (Close c) = if is_number c then history.Gone c ∷ [] else []
event_of _ = []

-- an opening under a number, a read that gave bytes, a close
abbrev pub events : List Entry → List history.Event
events log = flat_map event_of log
