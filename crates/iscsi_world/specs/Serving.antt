-- While frames are taken, the code stands where the World does: the effect of each call on both.
use Rattle.std.specs.Prelude.{◌≡◌, ◌≢◌, ◌⊎◌, ℕ, ◌+◌, ◌<◌, List, [], ◌∷◌, ◌++◌, length, drop, Bool, true, false, if◌then◌else◌, ◌&&◌, not, ◌==◌, nat_lt, Option, Some, None, Result, Ok, Err, ⊤}
use Rattle.std.specs.List.{list_all, fold, enumerate_from}
use Rattle.iscsi_pdu.specs.Frames.{Frame, rest, is_long}
use Rattle.iscsi_pdu.specs.Header.{header_length}
use Rattle.iscsi_login.specs.Session.{is_same_target}
use Rattle.iscsi_session.specs.Comings.{Coming, AreAhead, ArePlain, IsCalm}
use Rattle.iscsi_session.specs.Steps.{Step, is_doing, is_serving}
use Rattle.iscsi_world.specs.History.{Point, Arriving, Before, AtEnd, Mark, is_within, Arrival, Whole, arrivals, connection_limit}
use Rattle.iscsi_world.specs.World.{Setting, World, present, is_marked, arrive, settle_one, settle, settle_for}
use Rattle.iscsi_world.specs.Machine.{LinkState, Machine, IsSound, IsSoundAt, ReflectsSoundness, IsSure, Feeds, KeepsApart, KeepsPart, link_at, with_link, is_reading, is_closing, closed}
use Rattle.iscsi_world.specs.Bounded.{AddsAtMost}
use Rattle.iscsi_world.specs.Stands.{IsQuiet, IsSent, Begins, machine_with, stand_in}
use Rattle.iscsi_world.specs.declared.fault.Starved.{Starved}

-- As StandsAt, except that the bytes that are no whole frame yet are these.
pub record Serves (s : Setting) (sent : ℕ → ℕ) (half : ℕ → List ℕ) (w : World) (machine : Machine) : Type 0 where
  pub is : machine ≡ machine_with s sent half w
  pub answered : IsSent sent w
  pub quiet : (c : ℕ) → c < connection_limit → IsQuiet (present c w)

-- ---- which allocations failed

-- the connection that was closed first because an allocation failed, if any was
abbrev pub first_starved : Result (Unit {0}) Starved → Option ℕ
first_starved (Ok u) = None
first_starved (Err starved) = Some starved.connection

abbrev pub first_of : Option ℕ → Option ℕ → Option ℕ
first_of None later = later
first_of (Some c) later = Some c

-- the connection is closing, if one is given
abbrev pub IsClosed : Option ℕ → Machine → Type 0
IsClosed None machine = ⊤
IsClosed (Some c) machine = is_closing (link_at machine c).phase ≡ true

-- the result of a session's call: whether the session goes on, or that an allocation failed
abbrev pub starved_by : {E : Type 0} → ℕ → Result Bool E → Option ℕ
starved_by c (Ok goes_on) = None
starved_by c (Err e) = Some c

abbrev pub goes_on_by : {E : Type 0} → Result Bool E → Bool
goes_on_by (Ok goes_on) = goes_on
goes_on_by (Err e) = false

abbrev pub ended_unless : {E : Type 0} → Result Bool E → ℕ → Machine → Machine
ended_unless result c machine = if goes_on_by result then machine else closed machine c

-- these are all the marks of this kind
abbrev pub Agrees : (Mark → Bool) → List Mark → List Mark → Type 0
Agrees kind marks these = (mark : Mark) → kind mark ≡ true → is_marked marks mark.connection mark.point ≡ is_marked these mark.connection mark.point

-- ---- what a call does

-- the points reached between the two
abbrev pub reached_since : World → World → List Mark
reached_since before after = drop (length before.reached) after.reached

-- The effect of the call of an act. If the code stood with a World before, it stands after with what the act makes of
-- that World. Marks of other kinds do not matter. The place is that of the frame in progress; `halves` says how the
-- kept bytes change.
pub record ActsAs (kind : ℕ → Mark → Bool) (act : Setting → List Mark → ℕ → World → World) (halves : (ℕ → List ℕ) → ℕ → List ℕ)
    (starved : Option ℕ) (given after : Machine) : Type 0 where
  -- the points at which allocations failed, in this order
  pub failed : ℕ → List Mark
  pub first : (place : ℕ) → Begins starved (failed place)
  pub of_kind : (place : ℕ) → list_all (kind place) (failed place) ≡ true
  -- how the commands that the call did came out, in order
  pub came : List Coming
  pub plain : IsSound after → ArePlain came
  pub calm : (target : ℕ) → IsSoundAt target after → IsCalm target came
  pub stands : (s : Setting) (sent : ℕ → ℕ) (half : ℕ → List ℕ) (w : World) (place : ℕ) (marks : List Mark)
      → Agrees (kind place) marks (failed place) → AreAhead came w.comings → Serves s sent half w given
      → Serves s sent (halves half) (act s marks place w) after × (stand_in (failed place) (reached_since w (act s marks place w)) ≡ true)
      × ((act s marks place w).comings ≡ drop (length came) w.comings)

abbrev pub kept : (ℕ → List ℕ) → ℕ → List ℕ
kept half c = half c

-- a connection that is still read has kept its bytes; any other has none
pub record KeepsHalf (half : List ℕ) (link : LinkState) : Type 0 where
  pub reading : is_reading link.phase ≡ true → link.half ≡ half
  pub idle : is_reading link.phase ≡ false → link.half ≡ []

-- The effect of any such call, for a connection, on the connections of every target.
pub record Alters (c : ℕ) (given after : Machine) : Type 0 where
  pub feeds : Feeds c given after
  pub keeps : (d : ℕ) → is_reading (link_at given d).phase ≡ true → KeepsHalf (link_at given d).half (link_at after d)
  -- no other connection is heavier than before
  pub eases : (d : ℕ) → d ≢ c → AddsAtMost 0 (link_at given d) (link_at after d)

-- the same, and its effect on the units
pub record Preserves (c : ℕ) (starved : Option ℕ) (given after : Machine) : Type 0 where
  pub alters : Alters c given after
  pub back : ReflectsSoundness given after
  pub sure : IsSure given → IsSure after
  pub closing : IsClosed starved after
  -- as many targets as before
  pub units : length after.units ≡ length given.units

-- own: a call that allocates nothing sets off no step
abbrev pub is_of_none : ℕ → Mark → Bool
is_of_none place mark = false

-- The effect of any such call for a target, if one is given: what is not part of it stays as it is.
pub record StaysWithin (target starved : Option ℕ) (given after : Machine) : Type 0 where
  pub apart : (t : ℕ) → is_same_target target (Some t) ≡ true → KeepsApart t given after
  pub moves : (c : ℕ) → Preserves c starved given after

-- The call of an act that cannot fail.
abbrev pub CarriesOut : (World → World) → Machine → Machine → Type 0
CarriesOut act given after = ActsAs is_of_none (λ s marks place w. act w) kept None given after

-- ---- the acts

-- the mark is at a step that the frame of this place sets off: its judging, a request that acts, or a command that is
-- done
abbrev pub is_of_frame : ℕ → Mark → Bool
is_of_frame place mark = is_within place mark.point

abbrev pub has_step : (Step → Bool) → Point → Bool
has_step p (Arriving place) = false
has_step p (Before step) = p step
has_step p AtEnd = false

abbrev pub is_taken_at : ℕ → Mark → Bool
is_taken_at place mark = is_within place mark.point && has_step is_serving mark.point

abbrev pub is_done_at : ℕ → Mark → Bool
is_done_at place mark = is_within place mark.point && has_step is_doing mark.point

-- the same for one connection, or for those below it
abbrev pub is_done_by : ℕ → ℕ → Mark → Bool
is_done_by c place mark = mark.connection == c && is_done_at place mark

abbrev pub is_done_below : ℕ → ℕ → Mark → Bool
is_done_below c place mark = nat_lt mark.connection c && is_done_at place mark

-- a frame is taken
abbrev pub Takes : ℕ → Frame → Option ℕ → Machine → Machine → Type 0
Takes c frame starved given after = ActsAs is_of_frame (λ s marks place w. arrive s marks c w (place, Whole frame)) kept starved given after

-- the same, with its effect on every target; a header is whole
pub record TakesFrame (c : ℕ) (frame : Frame) (starved : Option ℕ) (given after : Machine) : Type 0 where
  pub takes : Takes c frame starved given after
  pub moves : Preserves c starved given after
  pub part : KeepsPart c given after
  pub loads : length frame.header ≡ header_length → AddsAtMost 1 (link_at given c) (link_at after c)

-- ---- the frames of a piece

-- one connection keeps other bytes
abbrev pub with_half : ℕ → List ℕ → (ℕ → List ℕ) → ℕ → List ℕ
with_half c bytes half d = if d == c then bytes else half d

-- a connection keeps a further piece
abbrev pub kept_piece : ℕ → List ℕ → Machine → Machine
kept_piece c piece machine = with_link machine c (record (link_at machine c) { half = (link_at machine c).half ++ piece })

-- the bytes of a connection are put back, if it is still read
abbrev pub put_back : ℕ → List ℕ → Machine → Machine
put_back c more machine = with_link machine c (record (link_at machine c) { half = if is_reading (link_at machine c).phase then more else [] })

-- the effect of n frames of a connection on every target, and what they add to the weight of the connections
pub record Leaves (c n : ℕ) (starved : Option ℕ) (old new : Machine) : Type 0 where
  pub back : ReflectsSoundness old new
  pub sure : IsSure old → IsSure new
  pub feeds : Feeds c old new
  pub closing : IsClosed starved new
  pub part : KeepsPart c old new
  pub eases : (d : ℕ) → d ≢ c → AddsAtMost 0 (link_at old d) (link_at new d)
  pub loads : AddsAtMost n (link_at old c) (link_at new c)
  pub keeps : (d : ℕ) → d ≢ c → is_reading (link_at old d).phase ≡ true → KeepsHalf (link_at old d).half (link_at new d)

-- the first arrival is taken
pub record TakesOne (c : ℕ) (starved : Option ℕ) (old new : Machine) : Type 0 where
  pub arrival : Arrival
  -- the bytes after it
  pub more : List ℕ
  pub front : arrivals (link_at old c).half ≡ arrival ∷ arrivals more
  pub behind : is_reading (link_at new c).phase ≡ true → rest (link_at old c).half ≡ rest more
  pub shorter : length more < length (link_at old c).half
  pub kept : KeepsHalf more (link_at new c)
  pub does : ActsAs is_of_frame (λ s marks place w. arrive s marks c w (place, arrival)) (with_half c more) starved old new
  pub leaves : Leaves c 1 starved old new

abbrev pub place_of : Step → ℕ
place_of step = step.place

abbrev pub has_place : (ℕ → Bool) → Point → Bool
has_place p (Arriving place) = p place
has_place p (Before step) = p (place_of step)
has_place p AtEnd = false

-- the point belongs to one of n frames, from this place on
abbrev pub is_among : ℕ → ℕ → Mark → Bool
is_among n place mark = has_place (λ p. not (nat_lt p place) && nat_lt p (place + n)) mark.point

-- these first arrivals are taken, in order
abbrev pub TakesSome : ℕ → List Arrival → List ℕ → Option ℕ → Machine → Machine → Type 0
TakesSome c done more starved old new =
    ActsAs (is_among (length done)) (λ s marks place w. fold (arrive s marks c) w (enumerate_from place done)) (with_half c more) starved old new

-- all arrivals are taken
pub record TakesAll (c : ℕ) (starved : Option ℕ) (old new : Machine) : Type 0 where
  pub kept : KeepsHalf (rest (link_at old c).half) (link_at new c)
  pub short : is_reading (link_at new c).phase ≡ true → is_long (rest (link_at old c).half) ≡ false
  pub takes : TakesSome c (arrivals (link_at old c).half) (rest (link_at old c).half) starved old new
  pub leaves : Leaves c (length (arrivals (link_at old c).half)) starved old new

-- The bytes after the last PDU could not be kept: when all arrivals were taken, the connection was closed.
pub record StarvesAfter (c : ℕ) (starved : Option ℕ) (old new : Machine) : Type 0 where
  pub earlier : Option ℕ
  pub mid : Machine
  pub takes : TakesAll c earlier old mid
  pub reads : is_reading (link_at mid c).phase ≡ true
  pub closes : new ≡ closed mid c
  pub first : starved ≡ first_of earlier (Some c)

-- all arrivals are taken; the bytes after them are kept, unless an allocation fails
abbrev pub TakesBytes : ℕ → Option ℕ → Machine → Machine → Type 0
TakesBytes c starved old new = TakesAll c starved old new ⊎ StarvesAfter c starved old new

-- the commands of the sessions of a target are done
abbrev pub Settles : ℕ → Option ℕ → Machine → Machine → Type 0
Settles target starved given after = ActsAs is_done_at (λ s marks place w. settle marks place target w) kept starved given after

-- the same for a session's target, if it has one; and for the session of one connection
abbrev pub SettlesFor : Option ℕ → Option ℕ → Machine → Machine → Type 0
SettlesFor target starved given after = ActsAs is_done_at (λ s marks place w. settle_for marks place target w) kept starved given after

abbrev pub SettlesOne : ℕ → ℕ → Option ℕ → Machine → Machine → Type 0
SettlesOne target c starved given after = ActsAs (is_done_by c) (λ s marks place w. settle_one marks place target w c) kept starved given after
