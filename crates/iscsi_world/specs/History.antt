-- What happens to the target: connections open, bring bytes and end, one event at a time.
use Rattle.std.specs.Prelude.{◌≡◌, false, ℕ, List, [], ◌∷◌, ◌++◌, length, drop, map, filter, Bool, true, ◌&&◌, not, ◌==◌, nat_lt, if◌then◌else◌}
use Rattle.std.specs.List.{list_any, enumerate_from}
use Rattle.iscsi_pdu.specs.Frames.{Frame, frames, rest, is_long}
pub use Rattle.target_limits.specs.Numbers.{connection_limit, connections}
use Rattle.iscsi_session.specs.Comings.{Coming}
use Rattle.iscsi_session.specs.Steps.{Step, is_step, is_of}

pub data Event : Type 0 where
  Open : (connection : ℕ) → Event
  Bytes : (connection : ℕ) (piece : List ℕ) → Event
  Gone : (connection : ℕ) → Event

-- Where in an event an allocation can fail: as the frame of a place, among those of its connection, becomes whole;
-- before a step of a session that the frame sets off; or at the event's end.
pub data Point : Type 0 where
  Arriving : (place : ℕ) → Point
  Before : (step : Step) → Point
  AtEnd : Point

abbrev pub is_point : Point → Point → Bool
is_point (Arriving p) (Arriving q) = p == q
is_point (Arriving p) (Before b) = false
is_point (Arriving p) AtEnd = false
is_point (Before a) (Arriving q) = false
is_point (Before a) (Before b) = is_step a b
is_point (Before a) AtEnd = false
is_point AtEnd (Arriving q) = false
is_point AtEnd (Before b) = false
is_point AtEnd AtEnd = true

-- the point belongs to the frame of this place
abbrev pub is_within : ℕ → Point → Bool
is_within place (Arriving p) = p == place
is_within place (Before step) = is_of place step
is_within place AtEnd = false

-- a point of a connection; in a history: an allocation failed there, and the connection is closed as by a violation
pub record Mark : Type 0 where
  pub connection : ℕ
  pub point : Point

abbrev pub is_same : Mark → Mark → Bool
is_same a b = a.connection == b.connection && is_point a.point b.point

-- An event, the points at which allocations failed in it, and how its commands came out, in order. A command after
-- the last of these came out as defined.
pub record Happening : Type 0 where
  pub event : Event
  pub marks : List Mark
  pub comings : List Coming

abbrev pub History : Type 0
History = List Happening

abbrev pub happening : List Mark → List Coming → Event → Happening
happening marks comings event = record { event = event; marks = marks; comings = comings }

-- no store failed
abbrev pub marked : List Mark → Event → Happening
marked marks event = happening marks [] event

-- no allocation and no store failed
abbrev pub plain : Event → Happening
plain event = marked [] event

-- ---- which events may come

abbrev pub is_among : ℕ → List ℕ → Bool
is_among c open_connections = list_any (λ d. d == c) open_connections

-- the connections that are open after an event
abbrev pub open_after : List ℕ → Event → List ℕ
open_after before (Open c) = c ∷ before
open_after before (Bytes c piece) = before
open_after before (Gone c) = filter (λ d. not (d == c)) before

-- a connection opens under a free number; only an open one brings bytes or ends
abbrev pub may_come : List ℕ → Event → Bool
may_come before (Open c) = nat_lt c connection_limit && not (is_among c before)
may_come before (Bytes c piece) = is_among c before
may_come before (Gone c) = is_among c before

abbrev pub may_follow : List ℕ → List Event → Bool
may_follow before [] = true
may_follow before (event ∷ events) = may_come before event && may_follow (open_after before event) events

abbrev pub well_formed : List Event → Bool
well_formed events = may_follow [] events

-- ---- what becomes whole

-- a frame, or a header that names too much data
pub data Arrival : Type 0 where
  Whole : (frame : Frame) → Arrival
  TooLong : Arrival

-- what a connection's bytes contain: their frames, and then TooLong if their rest is long
unfoldable pub arrivals : List ℕ → List Arrival
arrivals bytes = map Whole (frames bytes) ++ (if is_long (rest bytes) then TooLong ∷ [] else [])

-- the arrivals that a further piece brings, each with its place
unfoldable pub new_arrivals : List ℕ → List ℕ → List (ℕ × Arrival)
new_arrivals bytes piece = drop (length (arrivals bytes)) (enumerate_from 0 (arrivals (bytes ++ piece)))

-- However the bytes are cut into pieces, the arrivals are those of the joined bytes. While no header that is too long
-- has come, the arrivals of both pieces are those of the first, then those that the second brings.
abbrev pub ArrivalsInPieces : Type 0
ArrivalsInPieces = (bytes piece : List ℕ) → is_long (rest bytes) ≡ false → arrivals (bytes ++ piece) ≡ arrivals bytes
    ++ map (λ a. a.1) (new_arrivals bytes piece)
