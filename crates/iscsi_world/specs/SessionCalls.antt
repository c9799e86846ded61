-- The effect of a call of a session on its connection, and on the target.
use Rattle.std.specs.Prelude.{◌≡◌, ℕ, List, [], ◌++◌, length, Bool, true, false, if◌then◌else◌, Option, None, Result, Ok, Err}
use Rattle.scsi_unit.specs.Units.{UnitStates, AreSound, AreSure, numbers_of}
use Rattle.iscsi_pdu.specs.Frames.{Frame}
use Rattle.iscsi_pdu.specs.Header.{header_length}
use Rattle.iscsi_session.specs.Comings.{Coming, TargetUnits, CameAs, lend}
use Rattle.iscsi_session.specs.State.{SessionState}
use Rattle.iscsi_session.specs.Steps.{Step, served, settled, is_doing, is_serving}
use Rattle.iscsi_session.specs.Runs.{output, Runs, Stops}
use Rattle.iscsi_world.specs.World.{units_at, with_units, losing}
use Rattle.iscsi_world.specs.Bounded.{AddsAtMost}
use Rattle.iscsi_world.specs.Machine.{LinkState, Machine, link_at, with_link, shut_link}
use Rattle.iscsi_world.specs.Serving.{goes_on_by}
use Rattle.iscsi_world.specs.declared.phase.Phase.{Phase}
use Rattle.iscsi_world.specs.declared.phase.Phase.TheVariants.{FullFeature}

-- P holds of the connection's session, if it has one
abbrev pub InSession : Phase → (SessionState → Type 0) → Type 0
InSession phase P = (session : SessionState) → phase ≡ FullFeature session → P session

-- the session has changed and more waits, and P holds of both; nothing else of the connection has changed
pub record LeavesSession (P : SessionState → List ℕ → Type 0) (given : SessionState) (old new : LinkState) : Type 0 where
  pub session : SessionState
  pub is : new ≡ record old { phase = FullFeature session; waiting = new.waiting }
  pub params : session.params ≡ given.params
  pub grows : (more : List ℕ) × (new.waiting ≡ old.waiting ++ more)
  pub does : P session new.waiting

-- all steps of the call were done, and the session goes on or not; or only those before a step at which an allocation
-- failed
abbrev pub Ends : {E : Type 0} → (Step → Bool) → (Option (ℕ → Step) → Bool → Type 0) → Result Bool E → Type 0
Ends is_kind Leads (Ok goes_on) = Leads None goes_on
Ends is_kind Leads (Err e) = Stops is_kind (λ failed. Leads failed false)

-- a session that does not go on is closed
abbrev pub ended_link : Bool → LinkState → LinkState
ended_link goes_on link = if goes_on then link else shut_link link

-- ---- the three calls

-- the session serves a frame; its target has units with these numbers
abbrev pub ServesFrame : Frame → List ℕ → List (List ℕ) → Option (ℕ → Step) → Bool → SessionState → SessionState → List ℕ → List ℕ → Type 0
ServesFrame frame luns orders failed goes_on old new before waiting = (units : TargetUnits) → luns ≡ numbers_of units.states
    → Runs (λ fails place. served fails place frame) failed goes_on old new (output before []) (output waiting orders) units units

-- the commands of the session are done
abbrev pub SettlesUnits : UnitStates → UnitStates → Option (ℕ → Step) → Bool → SessionState → SessionState → List ℕ → List ℕ → Type 0
SettlesUnits units after failed goes_on old new before waiting = CameAs old.params.target
    (λ given left. Runs settled failed goes_on old new (output before []) (output waiting []) given left) units after

-- the session loses the commands that the function of another session reaches
abbrev pub LosesCommands : List ℕ → UnitStates → UnitStates → SessionState → SessionState → List ℕ → List ℕ → Type 0
LosesCommands function units after old new before waiting = (comings : List Coming)
    → Runs (λ fails place. losing function) None true old new (output before []) (output waiting []) (lend units comings) (lend after comings)

-- a call that serves a frame; what it adds to the weight of the connection
pub record ServesSession {E : Type 0} (r : Result Bool E) (frame : Frame) (luns : List ℕ) (orders : List (List ℕ)) (old new : LinkState) : Type 0 where
  pub leaves : InSession old.phase (λ given. LeavesSession (λ session waiting. Ends is_serving
      (λ failed goes_on. ServesFrame frame luns orders failed goes_on given session old.waiting waiting) r) given old new)
  pub loads : (units : UnitStates) → luns ≡ numbers_of units → length frame.header ≡ header_length → AddsAtMost 1 old (ended_link (goes_on_by r) new)

-- A call that leaves the session of a connection by P, with units that become others. The connection becomes no
-- heavier. Units that are sound after the call were so before, and those that are sure stay so.
pub record CallsSession (P : SessionState → SessionState → List ℕ → List ℕ → Type 0) (units after : UnitStates) (old new : LinkState) : Type 0 where
  pub leaves : InSession old.phase (λ given. LeavesSession (λ session waiting. P given session old.waiting waiting) given old new)
  pub eases : AddsAtMost 0 old new
  pub back : AreSound after → AreSound units
  pub sure : AreSure units → AreSure after

abbrev pub SettlesSession : {E : Type 0} → Result Bool E → UnitStates → UnitStates → LinkState → LinkState → Type 0
SettlesSession r units after old new = CallsSession (λ given session before waiting. Ends is_doing
    (λ failed goes_on. SettlesUnits units after failed goes_on given session before waiting) r) units after old new

abbrev pub LosesInSession : List ℕ → UnitStates → UnitStates → LinkState → LinkState → Type 0
LosesInSession function units after old new =
    CallsSession (λ given session before waiting. LosesCommands function units after given session before waiting) units after old new

-- ---- of the target

-- only the units of this target and this connection have changed
abbrev pub called : Machine → ℕ → Option ℕ → UnitStates → LinkState → Machine
called machine c target units link = record (with_link machine c link) { units = with_units target units machine.units }

abbrev pub ChangesOne : ℕ → Option ℕ → Machine → Machine → Type 0
ChangesOne c target old new = new ≡ called old c target (units_at target new.units) (link_at new c)
