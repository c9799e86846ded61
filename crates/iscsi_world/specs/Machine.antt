-- What a clause sees of the target: the units of each target, and for each connection three things: the bytes that
-- are no whole frame yet, its phase, and the bytes that wait to be sent.
use Rattle.std.specs.Prelude.{◌≡◌, ◌≢◌, ◌⊎◌, All, ℕ, ◌+◌, ◌<◌, List, [], ◌∷◌, ◌++◌, length, drop, map, replicate, Bool, true, false, ◌||◌, ◌&&◌, ◌==◌, not, nat_lt, Option, Some, None, slice_index_or, slice_set, if◌then◌else◌, ⊤}
use Rattle.iscsi_pdu.specs.Frames.{Frame, frames, rest, wanted}
use Rattle.iscsi_pdu.specs.Answer.{spelling}
use Rattle.iscsi_pdu.specs.declared.answer.Answer.{Answer}
use Rattle.iscsi_pdu.specs.declared.answer.Answer.TheVariants as answers
use Rattle.iscsi_pdu.specs.declared.login_response.LoginResponse.{LoginResponse}
use Rattle.iscsi_login.specs.Directory.{KnownTargets}
use Rattle.iscsi_world.specs.History.{connection_limit}
use Rattle.scsi_unit.specs.Units.{UnitStates, AreSound, AreSure, join}
use Rattle.iscsi_login.specs.Session.{Live, is_same_target, older}
use Rattle.iscsi_login.specs.LoginState.{LoginState, IsTargetBelow, AsksBelow, new_login}
use Rattle.iscsi_login.specs.Login.{advanced, reply_of}
use Rattle.iscsi_login.specs.Values.{AreInRange}
use Rattle.iscsi_session.specs.Requests.{begun as begun_past}
use Rattle.iscsi_session.specs.State.{remembered, is_waiting}
use Rattle.iscsi_world.specs.World.{left, changed_units, lookup_for}
use Rattle.iscsi_login.specs.declared.session_params.SessionParams.{SessionParams}
use Rattle.iscsi_login.specs.declared.reply.Reply.{Reply}
use Rattle.iscsi_login.specs.declared.reply.Reply.TheVariants.{GoOn, Full, Refused}
use Rattle.iscsi_world.specs.declared.phase.Phase.{Phase}
use Rattle.iscsi_world.specs.declared.phase.Phase.TheVariants.{Free, Login, FullFeature, Closing}

pub record LinkState : Type 0 where
  -- the bytes that are no whole frame yet, while frames are read
  pub half : List ℕ
  pub phase : Phase
  -- the answer bytes that have not been sent yet
  pub waiting : List ℕ

pub record Machine : Type 0 where
  pub directory : KnownTargets
  pub units : List UnitStates
  pub links : List LinkState

-- The store of each unit gives back what was written, and no call of it has failed (own). Statements about media, and
-- about what is read from them, hold under this condition.
abbrev pub IsSound : Machine → Type 0
IsSound machine = All AreSound machine.units

-- the same for one target
abbrev pub IsSoundAt : ℕ → Machine → Type 0
IsSoundAt target machine = AreSound (slice_index_or machine.units target [])

-- each target that is sound in the second machine was sound in the first
abbrev pub ReflectsSoundness : Machine → Machine → Type 0
ReflectsSoundness old new = (target : ℕ) → IsSoundAt target new → IsSoundAt target old

abbrev pub WhereSound : Machine → Type 0 → Type 0
WhereSound machine P = IsSound machine → P

-- The store of each unit is sound, and stays so whatever is asked of it (own): true of stores in memory.
abbrev pub IsSure : Machine → Type 0
IsSure machine = All AreSure machine.units

abbrev pub free_link : LinkState
free_link = record { half = []; phase = Free; waiting = [] }

abbrev pub link_at : Machine → ℕ → LinkState
link_at machine c = slice_index_or machine.links c free_link

-- frames are read in this phase
abbrev pub is_reading : Phase → Bool
is_reading (Login login) = true
is_reading (FullFeature session) = true
is_reading Free = false
is_reading Closing = false

abbrev pub is_free : Phase → Bool
is_free Free = true
is_free (Login login) = false
is_free (FullFeature session) = false
is_free Closing = false

abbrev pub is_closing : Phase → Bool
is_closing Closing = true
is_closing Free = false
is_closing (Login login) = false
is_closing (FullFeature session) = false

-- own: no command of its session can be done, or it has none
abbrev pub is_settled : Phase → Bool
is_settled (FullFeature session) = is_waiting session
is_settled Free = true
is_settled (Login login) = true
is_settled Closing = true

-- own: nothing waits to be sent, and it is not closing
abbrev pub is_silent : LinkState → Bool
is_silent link = length link.waiting == 0 && not (is_closing link.phase)

-- a login is in progress
abbrev pub is_logging_in : Phase → Bool
is_logging_in (Login login) = true
is_logging_in Free = false
is_logging_in (FullFeature session) = false
is_logging_in Closing = false

-- it has a session in full feature phase
abbrev pub is_in_session : Phase → Bool
is_in_session (FullFeature session) = true
is_in_session Free = false
is_in_session (Login login) = false
is_in_session Closing = false

-- the connection was opened and its Gone has not come
abbrev pub is_open_at : Machine → ℕ → Bool
is_open_at machine c = not (is_free (link_at machine c).phase)

-- profile: a connection with more bytes than this waiting is not read
abbrev pub most_waiting : ℕ
most_waiting = 1048576

-- how many bytes to read next: none if the connection is closing or much waits
abbrev pub want_of : LinkState → ℕ
want_of link = if is_closing link.phase || nat_lt most_waiting (length link.waiting) then 0 else wanted link.half

-- the session in full feature phase
abbrev pub session_in_phase : Phase → Option SessionParams
session_in_phase (FullFeature session) = Some session.params
session_in_phase Free = None
session_in_phase (Login login) = None
session_in_phase Closing = None

abbrev pub sessions : List LinkState → Live
sessions links = map (λ link. session_in_phase link.phase) links

-- ---- what a call, or a frame, does to what is remembered

abbrev pub opened_link : ℕ → LinkState
opened_link c = record { half = []; phase = Login (new_login (c + 1)); waiting = [] }

-- nothing more is read
abbrev pub shut_link : LinkState → LinkState
shut_link link = record { half = []; phase = Closing; waiting = link.waiting }

-- What a piece of bytes on connection c does to every target, whatever its stores do. No connection opens or ends,
-- and what waited still waits. A connection that is not read stays as it is, and so does any other one that is
-- logging in.
pub record Feeds (c : ℕ) (old new : Machine) : Type 0 where
  pub opens : (d : ℕ) → is_open_at new d ≡ is_open_at old d
  pub waits : (d : ℕ) → (more : List ℕ) × ((link_at new d).waiting ≡ (link_at old d).waiting ++ more)
  pub still : (d : ℕ) → is_reading (link_at old d).phase ≡ false → link_at new d ≡ link_at old d
  pub others : (d : ℕ) → d ≢ c → is_logging_in (link_at old d).phase ≡ true → link_at new d ≡ link_at old d

-- the target of its session, if it has one
abbrev pub target_in : Phase → Option ℕ
target_in (FullFeature session) = session.params.target
target_in Free = None
target_in (Login login) = None
target_in Closing = None

-- a session with this target
abbrev pub is_with : ℕ → Phase → Bool
is_with target phase = is_same_target (target_in phase) (Some target)

-- What is not part of a target stays as it is: the connections without a session with it, and the units of others. A
-- session with the target remains one until it ends.
pub record KeepsApart (target : ℕ) (old new : Machine) : Type 0 where
  pub links : (d : ℕ) → is_with target (link_at old d).phase ≡ false → link_at new d ≡ link_at old d
  pub units : (at : ℕ) → at ≢ target → slice_index_or new.units at [] ≡ slice_index_or old.units at []
  pub same : (d : ℕ) → is_with target (link_at old d).phase ≡ true → (is_with target (link_at new d).phase ≡ true) ⊎ (is_closing (link_at new d).phase ≡ true)

-- the same for the target of a connection's session
abbrev pub KeepsPart : ℕ → Machine → Machine → Type 0
KeepsPart c old new = (target : ℕ) → is_with target (link_at old c).phase ≡ true → KeepsApart target old new

-- a login is answered, and goes on
abbrev pub gone_on_link : LoginState → Answer → LinkState → LinkState
gone_on_link login answer link = record link { phase = Login login; waiting = link.waiting ++ spelling answer }

abbrev pub refused_link : Answer → LinkState → LinkState
refused_link answer link = record { half = []; phase = Closing; waiting = link.waiting ++ spelling answer }

abbrev pub begun_link : SessionParams → Answer → LinkState → LinkState
begun_link session answer link = record link { phase = FullFeature (remembered (begun_past session)); waiting = link.waiting ++ spelling answer }

abbrev pub with_link : Machine → ℕ → LinkState → Machine
with_link machine c link = record machine { links = slice_set machine.links c link }

-- a connection closes, and its session leaves its units
unfoldable pub closed : Machine → ℕ → Machine
closed machine c = record (with_link machine c (shut_link (link_at machine c))) { units = left (session_in_phase (link_at machine c).phase) machine.units }

abbrev pub shut_older : Option ℕ → Machine → Machine
shut_older None machine = machine
shut_older (Some d) machine = with_link machine d (shut_link (link_at machine d))

-- full feature phase begins, and the nexus joins the units of its target
abbrev pub joined_session : SessionParams → Answer → ℕ → Machine → Machine
joined_session session answer c machine = record (with_link machine c (begun_link session answer (link_at machine c)))
    { units = changed_units (join session.nexus) session.target machine.units }

-- the same, and an older session of the same nexus with the same target ends
abbrev pub begun : SessionParams → Answer → ℕ → Machine → Machine
begun session answer c machine = shut_older (older session (sessions machine.links)) (joined_session session answer c machine)

abbrev pub replied : Reply → LoginState → ℕ → Machine → Machine
replied (GoOn response) login c machine = with_link machine c (gone_on_link login (answers.LoginResponse response) (link_at machine c))
replied (Refused response) login c machine = with_link machine c (refused_link (answers.LoginResponse response) (link_at machine c))
replied (Full response session) login c machine = begun session (answers.LoginResponse response) c machine

-- a Login request, judged by what is remembered of those before it
unfoldable pub logged_in : Machine → ℕ → LoginState → Frame → Machine
logged_in machine c login request =
    replied (reply_of login (lookup_for machine.directory (sessions machine.links) request) request) (advanced machine.directory login request) c machine

-- a Login request was taken: it was answered, or the answer that begins full feature phase is still to be queued
abbrev pub IsAnswered : Reply → LoginState → LinkState → Option (LoginResponse × SessionParams) → LinkState → Type 0
IsAnswered (GoOn response) login old begun new = (begun ≡ None) × (new ≡ gone_on_link login (answers.LoginResponse response) old)
IsAnswered (Refused response) login old begun new = (begun ≡ None) × (new ≡ refused_link (answers.LoginResponse response) old)
IsAnswered (Full response session) login old begun new = (begun ≡ Some (response, session)) × (new ≡ record old { phase = new.phase })
    × (is_logging_in new.phase ≡ true)

-- a frame is taken from the front of the bytes
pub record GivesFrame (frame : Frame) (before after : List ℕ) : Type 0 where
  pub first : frames before ≡ frame ∷ frames after
  pub behind : rest after ≡ rest before
  pub shorter : length after < length before

-- the target of its session or its login is below this count, and its values are in range
abbrev pub IsWithin : ℕ → Phase → Type 0
IsWithin count (FullFeature session) = IsTargetBelow count session.params.target × AreInRange session.params.values
IsWithin count (Login login) = AsksBelow count login.session × AreInRange login.values
IsWithin count Free = ⊤
IsWithin count Closing = ⊤

abbrev pub new_machine : KnownTargets → List UnitStates → Machine
new_machine directory units = record { directory = directory; units = units; links = replicate connection_limit free_link }

abbrev pub sent_link : LinkState → ℕ → LinkState
sent_link link n = record link { waiting = drop n link.waiting }
