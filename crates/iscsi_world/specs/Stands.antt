-- When the code stands where the World does: what the code remembers is a function of the past.
use Rattle.std.specs.Prelude.{◌≡◌, ℕ, ◌+◌, ◌<◌, ◌≤◌, List, [], ◌∷◌, ◌++◌, length, drop, map, Bool, true, false, ◌==◌, Option, Some, None, if◌then◌else◌, ⊤}
use Rattle.iscsi_pdu.specs.Frames.{rest, is_long}
use Rattle.iscsi_login.specs.Login.{remembered}
use Rattle.iscsi_session.specs.State.{IsLawful, remembered as session_remembered}
use Rattle.iscsi_login.specs.Directory.{KnownTargets}
use Rattle.iscsi_session.specs.Comings.{Coming, ArePlain, IsCalm}
use Rattle.iscsi_world.specs.History.{Event, History, Mark, happening, is_same, connections, connection_limit}
use Rattle.iscsi_world.specs.Life.{Life, Phase, LoggingIn, FullFeature, Closing, Over, reads, out_of}
use Rattle.iscsi_world.specs.World.{Setting, World, present, happen, begun_event, world}
use Rattle.iscsi_world.specs.Output.{out_now}
use Rattle.iscsi_world.specs.Machine.{Machine, LinkState, IsSound, IsSoundAt, free_link}
use Rattle.iscsi_world.specs.declared.phase.Phase as code
use Rattle.iscsi_world.specs.declared.phase.Phase.TheVariants as phases

-- ---- what is remembered

-- for a login with these targets, what is remembered of its requests; for a session, what is remembered of its past
abbrev pub phase_for : KnownTargets → Life → Phase → code.Phase
phase_for directory life LoggingIn = phases.Login (remembered directory (life.connection + 1) life.requests)
phase_for directory life (FullFeature session) = phases.FullFeature (session_remembered session)
phase_for directory life Closing = phases.Closing
phase_for directory life Over = phases.Free

-- The connection of a present life. It keeps these bytes, while frames are read. What waits is what was answered,
-- without the first `sent` bytes.
abbrev pub link_of : KnownTargets → ℕ → List ℕ → Option Life → LinkState
link_of directory sent half None = free_link
link_of directory sent half (Some life) = record {
  half = if reads life.phase then half else [];
  phase = phase_for directory life life.phase;
  waiting = drop sent (out_of life);
}

unfoldable pub machine_with : Setting → (ℕ → ℕ) → (ℕ → List ℕ) → World → Machine
machine_with s sent half w = record {
  directory = s.directory;
  units = w.units;
  links = map (λ c. link_of s.directory (sent c) (half c) (present c w)) connections;
}

-- the bytes that are no whole frame yet
abbrev pub half_of : Option Life → List ℕ
half_of None = []
half_of (Some life) = rest life.bytes

abbrev pub machine_of : Setting → (ℕ → ℕ) → World → Machine
machine_of s sent w = machine_with s sent (λ c. half_of (present c w)) w

-- ---- what is true of each life between two events, whatever the history

abbrev pub IsQuietIn : Phase → Type 0
IsQuietIn LoggingIn = ⊤
IsQuietIn (FullFeature session) = IsLawful session
IsQuietIn Closing = ⊤
IsQuietIn Over = ⊤

abbrev pub IsQuiet : Option Life → Type 0
IsQuiet None = ⊤
IsQuiet (Some life) = IsQuietIn life.phase

-- if frames are read, no header that names too much data has come
abbrev pub IsShort : Option Life → Type 0
IsShort None = ⊤
IsShort (Some life) = reads life.phase ≡ true → is_long (rest life.bytes) ≡ false

-- no more was sent than was answered
abbrev pub IsSent : (ℕ → ℕ) → World → Type 0
IsSent sent w = (c : ℕ) → c < connection_limit → sent c ≤ length (out_now (present c w))

-- The code stands where this World does, after `sent c` bytes of the present life of connection c were sent.
pub record StandsAt (s : Setting) (sent : ℕ → ℕ) (w : World) (machine : Machine) : Type 0 where
  pub is : machine ≡ machine_of s sent w
  pub answered : IsSent sent w
  pub quiet : (c : ℕ) → c < connection_limit → IsQuiet (present c w)
  pub short : (c : ℕ) → c < connection_limit → IsShort (present c w)

-- The code stands where the World of this history does.
abbrev pub Stands : Setting → (ℕ → ℕ) → Machine → History → Type 0
Stands s sent machine history = StandsAt s sent (world s history) machine

-- one connection has another number of sent bytes
abbrev pub with_sent : (ℕ → ℕ) → ℕ → ℕ → ℕ → ℕ
with_sent sent c n d = if d == c then n else sent d

-- ---- allocations that failed

-- the first of the marks is of this connection
abbrev pub IsFirst : ℕ → List Mark → Type 0
IsFirst c [] = ⊥
IsFirst c (mark ∷ marks) = mark.connection ≡ c

-- the marks are among these points, in this order
abbrev pub stand_in : List Mark → List Mark → Bool
stand_in [] points = true
stand_in (mark ∷ marks) [] = false
stand_in (mark ∷ marks) (point ∷ points) = if is_same mark point then stand_in marks points else stand_in (mark ∷ marks) points

-- each of the points was reached, in this order
abbrev pub are_reached : List Mark → World → Bool
are_reached marks w = stand_in marks w.reached

-- Allocations failed at these points of an event, in this order; the first is of this connection.
pub record IsStarved (s : Setting) (w : World) (event : Event) (c : ℕ) (marks : List Mark) : Type 0 where
  pub first : IsFirst c marks
  pub reached : are_reached marks (happen s marks (begun_event [] w) event) ≡ true

-- no allocation failed, or the first of the marks is of this connection
abbrev pub Begins : Option ℕ → List Mark → Type 0
Begins None marks = marks ≡ []
Begins (Some c) marks = IsFirst c marks

-- The code stands where the World of this history does after one more event, whatever its stores did. Allocations
-- failed in it at these points, which were reached in this order. Its commands came out as these comings say: as
-- defined if the units of their target are sound.
pub record StandsAfter (s : Setting) (sent : ℕ → ℕ) (history : History) (event : Event) (starved : Option ℕ) (machine : Machine) : Type 0 where
  pub marks : List Mark
  pub comings : List Coming
  pub first : Begins starved marks
  pub reached : are_reached marks (happen s marks (begun_event comings (world s history)) event) ≡ true
  pub plain : IsSound machine → ArePlain comings
  pub calm : (target : ℕ) → IsSoundAt target machine → IsCalm target comings
  pub stands : Stands s sent machine (history ++ happening marks comings event ∷ [])
