-- A call on the session of a connection, as a call of the target: what it does, what it leaves, and what stays apart from it.
use Rattle.std.proofs.Common.{◌≡◌, ◌≢◌, ℕ, ◌<◌, List, [], ◌++◌, length, Bool, true, false, Option, Some, None, Result, Ok, Err, refl, sym, ap, ◌∙◌, subst, arith}
use Rattle.std.specs.Prelude.{slice_set, ⊤, IfOk, OnErr, if◌then◌else◌}
use Rattle.std.proofs.lemmas.List.{append-nil, length-set, set-get_or}
use Rattle.iscsi_pdu.specs.Frames.{Frame}
use Rattle.scsi_unit.specs.Units.{UnitStates, AreSound, AreSure, numbers_of}
use Rattle.iscsi_session.specs.Comings.{lend}
use Rattle.iscsi_session.proofs.Settled.{settled_is}
use Rattle.iscsi_session.specs.Requests.{Past}
use Rattle.iscsi_session.specs.State.{SessionState, is_waiting}
use Rattle.iscsi_session.specs.Steps.{Step, is_doing, is_serving, served, settled}
use Rattle.iscsi_session.specs.Runs.{output, Runs, Stops}
use Rattle.iscsi_session.specs.Weight.{IsAtRest, Eases}
use Rattle.iscsi_login.specs.Directory.{KnownTargets}
use Rattle.iscsi_login.specs.Session.{is_same_target}
use Rattle.iscsi_login.specs.LoginState.{IsTargetBelow}
use Rattle.iscsi_world.specs.History.{Mark, connection_limit}
use Rattle.iscsi_world.specs.Life.{Life}
use Rattle.iscsi_world.specs.World.{Setting, World, present, past_of, units_at, with_units, settled_by, settle_one, settle_for}
use Rattle.iscsi_world.specs.Machine.{LinkState, Machine, ReflectsSoundness, KeepsApart, link_at, with_link, is_free, is_reading, is_settled, is_logging_in, is_in_session, is_with, target_in, closed}
use Rattle.iscsi_world.specs.Stands.{link_of}
use Rattle.iscsi_world.specs.Bounded.{AddsAtMost}
use Rattle.iscsi_world.specs.Serving.{Serves, Preserves, kept, is_done_at, is_done_by, SettlesOne, SettlesFor, Takes, first_of, starved_by, goes_on_by, ended_unless}
use Rattle.iscsi_world.specs.SessionCalls.{LeavesSession, CallsSession, Ends, ServesFrame, SettlesUnits, ChangesOne, called, ended_link}
use Rattle.iscsi_world.specs.declared.phase.Phase.{Phase as CodePhase}
use Rattle.iscsi_world.specs.declared.phase.Phase.TheVariants as phases
use Rattle.iscsi_world.proofs.Linked.{link_is, serves_world}
use Rattle.iscsi_world.proofs.Doing.{does_nothing, does_starved}
use Rattle.iscsi_world.proofs.AtWork.{IsCalled, CallDoes, call_does, serve_kind, settle_kind, settle_acts, settle_agrees}
use Rattle.iscsi_world.proofs.Frames.{Finishes, takes_served}
use Rattle.iscsi_world.proofs.Apart.{target_apart, ended_apart, apart_as, apart_then}
use Rattle.iscsi_world.proofs.Heavier.{closed_link}
use Rattle.iscsi_world.proofs.Moving.{Changes, changes_moves, session_half, units_back, units_sure, length_with, moves_as, moves_then, moves_starved, closed_moves, starved_moves}

-- ---- the session of a connection

-- one with this target
pub session_with : (phase : CodePhase) (target : ℕ) → is_with target phase ≡ true
    → (session : SessionState) × (phase ≡ phases.FullFeature session) × (session.params.target ≡ Some target)
session_with phase target e = grind arith

pub session_in : (phase : CodePhase) → is_in_session phase ≡ true
    → (session : SessionState) × (phase ≡ phases.FullFeature session) × (session.params.target ≡ target_in phase)
session_in phase e = grind arith

-- ---- a call of the session of a connection

pub same_session : (a b : SessionState) → phases.FullFeature a ≡ phases.FullFeature b → a ≡ b
same_session a b e = cc

-- the connection as the code has it
abbrev viewed : List ℕ → CodePhase → List ℕ → LinkState
viewed framer phase waiting = record { half = if is_reading phase then framer else []; phase = phase; waiting = waiting }

pub leaves_session : (P : SessionState → SessionState → List ℕ → List ℕ → Type 0) (old : LinkState) (framer : List ℕ) (phase : CodePhase)
    (before waiting : List ℕ) (given session then_ : SessionState) → viewed framer phase before ≡ old → phase ≡ phases.FullFeature session
    → old.phase ≡ phases.FullFeature given → then_.params ≡ session.params → (more : List ℕ) × (waiting ≡ before ++ more) → P session then_ before waiting
    → LeavesSession (λ x bytes. P given x old.waiting bytes) given old (viewed framer (phases.FullFeature then_) waiting)
leaves_session P old framer phase before waiting given session then_ view is was params grows does =
    let same = same_session session given (sym is ∙ ap (λ (l : LinkState). l.phase) view ∙ was) in
    let bytes : before ≡ old.waiting = ap (λ (l : LinkState). l.waiting) view in
    record {
      session = then_;
      is = grind arith;
      params = params ∙ ap (λ (x : SessionState). x.params) same;
      grows = (grows.0, grows.1 ∙ ap (λ (l : List ℕ). l ++ grows.0) bytes);
      does = subst (λ (x : SessionState). P x then_ old.waiting waiting) same (subst (λ (l : List ℕ). P session then_ l waiting) bytes does);
    }

-- and what else of the connection and the units
pub calls_session : (P : SessionState → SessionState → List ℕ → List ℕ → Type 0) (units after : UnitStates) (old : LinkState) (framer : List ℕ)
    (phase : CodePhase) (before waiting : List ℕ) (session then_ : SessionState) → viewed framer phase before ≡ old → phase ≡ phases.FullFeature session
    → then_.params ≡ session.params → (more : List ℕ) × (waiting ≡ before ++ more) → P session then_ before waiting
    → (IsAtRest session → Eases session then_ before waiting) → (AreSound after → AreSound units) → (AreSure units → AreSure after)
    → CallsSession P units after old (viewed framer (phases.FullFeature then_) waiting)
calls_session P units after old framer phase before waiting session then_ view is params grows does eases back sure =
    grind (arith, leaves_session)

-- it was done to its end, or up to a step before which an allocation failed
pub ends_so : {E : Type 0} (r : Result Bool E) (is_kind : Step → Bool) (Leads : Option (ℕ → Step) → Bool → Type 0) → IfOk r (Leads None)
    → OnErr r (Stops is_kind (λ failed. Leads failed false)) → Ends is_kind Leads r
ends_so r is_kind Leads ok err = grind arith

-- its call
abbrev pub is_called : (c : ℕ) (target : Option ℕ) (given middle : Machine) → c < connection_limit → length given.links ≡ connection_limit
    → ((session : SessionState) × ((link_at given c).phase ≡ phases.FullFeature session) × (session.params.target ≡ target))
    → ChangesOne c target given middle → IsCalled c target given middle
is_called c target given middle lt count at changes =
    record { in_range = lt; count = count; session = at.0; phase = at.1; own = at.2; changes = changes }

-- ---- no session of the target

-- the past of a session is none of this target's
abbrev pub IsElsewhere : ℕ → Option Past → Type 0
IsElsewhere target None = ⊤
IsElsewhere target (Some past) = is_same_target past.params.target (Some target) ≡ false

elsewhere_of : (directory : KnownTargets) (sent : ℕ) (half : List ℕ) (target : ℕ) (o : Option Life)
    → is_with target (link_of directory sent half o).phase ≡ false → IsElsewhere target (past_of o)
elsewhere_of directory sent half target o e = grind arith

pub elsewhere : (s : Setting) (sent : ℕ → ℕ) (half : ℕ → List ℕ) (w : World) (machine : Machine) (c target : ℕ) → c < connection_limit
    → Serves s sent half w machine → is_with target (link_at machine c).phase ≡ false → IsElsewhere target (past_of (present c w))
elsewhere s sent half w machine c target lt h e =
    elsewhere_of s.directory (sent c) (half c) target (present c w)
    (ap (λ (l : LinkState). is_with target l.phase) (sym (link_is s sent half w machine c lt h)) ∙ e)

unsettled : (o : Option Past) (marks : List Mark) (place target c : ℕ) (w : World) → IsElsewhere target o → settled_by o marks place target c w ≡ w
unsettled o marks place target c w e = grind arith

pub settles_none : (machine : Machine) (c target : ℕ) → c < connection_limit → is_with target (link_at machine c).phase ≡ false
    → SettlesOne target c None machine machine
unfolding settle_one
settles_none machine c target lt e = grind (arith, does_nothing, elsewhere)

-- a session with no target settles nothing
pub settles_for_none : (machine : Machine) → SettlesFor None None machine machine
settles_for_none machine = does_nothing is_done_at (λ s marks place w. settle_for marks place None w) kept machine machine
    (λ s sent half w place marks agree h. (serves_world s sent half w _ machine refl h, refl))

-- ---- what a call leaves of every target

module _ (c : ℕ) (target : Option ℕ) (given middle : Machine) (k : IsCalled c target given middle) {P : SessionState → List ℕ → Type 0}
    (l : LeavesSession P k.session (link_at given c) (link_at middle c)) where
  here : c < length given.links
  here = let range = k.in_range in let count = k.count in omega (arith, range, count)

  there : c < length middle.links
  there = omega (arith, here, ap (λ (m : Machine). length m.links) k.changes, length-set given.links c (link_at middle c))

  reads : is_reading (link_at middle c).phase ≡ true
  reads = ap (λ (x : LinkState). is_reading x.phase) l.is

  link_changes : Changes (link_at given c) (link_at middle c)
  link_changes = record { reads = ap is_reading k.phase; free = ap (λ (x : LinkState). is_free x.phase) l.is; waits = l.grows }

  pub called_moves : (b : ℕ) → IsTargetBelow (length given.units) target → (c ≢ b → AddsAtMost 0 (link_at given c) (link_at middle c))
      → (AreSound (units_at target middle.units) → AreSound (units_at target given.units))
      → (AreSure (units_at target given.units) → AreSure (units_at target middle.units)) → Preserves b None given middle
  called_moves b below light back sure =
      let link = link_at middle c in
      let units = units_at target middle.units in
      moves_as b None given (called given c target units link) middle k.changes
      (changes_moves b given (with_units target units given.units) c link here link_changes (λ other. ap is_logging_in k.phase)
      (session_half (link_at given c) link reads (ap (λ (x : LinkState). x.half) l.is)) (length_with target units given.units) light
      (units_back given (slice_set given.links c link) target units below back)
      (units_sure given (slice_set given.links c link) target units sure))

  ended_by : {E : Type 0} (r : Result Bool E) (b : ℕ) → Preserves b None given middle → Preserves b (starved_by c r) given (ended_unless r c middle)
  ended_by (Ok true) b m = m
  ended_by (Ok false) b m =
      moves_then b None None given middle (closed middle c) m
      (closed_moves b middle c there reads (λ other. ap (λ (x : LinkState). is_logging_in x.phase) l.is))
  ended_by (Err e) b m =
      moves_then b None (Some c) given middle (closed middle c) m
      (starved_moves b middle c there reads (λ other. ap (λ (x : LinkState). is_logging_in x.phase) l.is))

  -- and where it is closed unless it goes on
  pub ended_moves : {E : Type 0} (r : Result Bool E) (b : ℕ) (starved : Option ℕ) (after : Machine) → starved ≡ starved_by c r
      → after ≡ ended_unless r c middle → Preserves b None given middle → Preserves b starved given after
  ended_moves r b starved after o e m =
      moves_starved b (starved_by c r) starved given after (sym o) (moves_as b (starved_by c r) given (ended_unless r c middle) after e (ended_by r b m))

  pub called_apart : (at : ℕ) → is_same_target target (Some at) ≡ true → KeepsApart at given middle
  called_apart at same = grind (arith, target_apart)

  pub ended_called_apart : {E : Type 0} (r : Result Bool E) (at : ℕ) (after : Machine) → is_same_target target (Some at) ≡ true
      → after ≡ ended_unless r c middle → KeepsApart at given after
  ended_called_apart r at after same e =
      let own = ap (λ (t : Option ℕ). is_same_target t (Some at)) k.own ∙ same in
      apart_then at given middle after (called_apart at same) (apart_as at middle (ended_unless r c middle) after e (ended_apart r at middle c there
      (ap (λ (x : LinkState). is_with at x.phase) l.is ∙ ap (λ p. is_same_target p.target (Some at)) l.params ∙ own)))

  ended_there : {E : Type 0} (r : Result Bool E) → link_at (ended_unless r c middle) c ≡ ended_link (goes_on_by r) (link_at middle c)
  ended_there r = grind (arith, closed_link, there)

  pub ended_adds : {E : Type 0} (r : Result Bool E) (n : ℕ) (after : Machine) → after ≡ ended_unless r c middle
      → AddsAtMost n (link_at given c) (ended_link (goes_on_by r) (link_at middle c)) → AddsAtMost n (link_at given c) (link_at after c)
  ended_adds r n after e a = subst (AddsAtMost n (link_at given c)) (sym (ap (λ (m : Machine). link_at m c) e ∙ ended_there r)) a

-- ---- the commands of a session are done

settles_by : {E : Type 0} (r : Result Bool E) (c target : ℕ) (given middle after : Machine) (k : IsCalled c (Some target) given middle)
    → LeavesSession (λ then_ waiting. Ends is_doing (λ failed goes_on. SettlesUnits (units_at (Some target) given.units) (units_at (Some target) middle.units)
    failed goes_on k.session then_ (link_at given c).waiting waiting) r) k.session (link_at given c) (link_at middle c)
    → after ≡ ended_unless r c middle → SettlesOne target c (starved_by c r) given after
settles_by (Ok goes_on) c target given middle after k l e =
    call_does settled None goes_on [] c (Some target) given middle after k l e (is_done_by c) (λ s marks place w. settle_one marks place target w c)
    (λ s marks place w past at own. settle_acts c target marks place w past at own)
    (λ place marks work agree. settle_agrees None c place marks work agree) (λ place. refl)
settles_by (Err x) c target given middle after k l e =
    let stops = l.does in
    let stopped : CallDoes settled (Some stops.step) false [] c (Some target) given middle k = grind arith in
    call_does settled (Some stops.step) false [] c (Some target) given middle after k stopped e (is_done_by c)
    (λ s marks place w. settle_one marks place target w c)
    (λ s marks place w past at own. settle_acts c target marks place w past at own)
    (λ place marks work agree. settle_agrees (Some stops.step) c place marks work agree) (settle_kind c stops.step stops.of_frame stops.of_kind)

pub settles_called : {E : Type 0} (r : Result Bool E) (c target : ℕ) (given middle after : Machine) (k : IsCalled c (Some target) given middle)
    (starved : Option ℕ)
    → LeavesSession (λ then_ waiting. Ends is_doing (λ failed goes_on. SettlesUnits (units_at (Some target) given.units) (units_at (Some target) middle.units)
    failed goes_on k.session then_ (link_at given c).waiting waiting) r) k.session (link_at given c) (link_at middle c)
    → starved ≡ starved_by c r → after ≡ ended_unless r c middle → SettlesOne target c starved given after
settles_called r c target given middle after k starved l o e =
    does_starved (is_done_by c) (λ s marks place w. settle_one marks place target w c) kept (starved_by c r) starved given after (sym o)
    (settles_by r c target given middle after k l e)

-- ---- of its session no command can be done

-- what was not touched
untouched : (machine : Machine) (c : ℕ) (target : Option ℕ) → ChangesOne c target machine machine
untouched machine c target = grind (arith, set-get_or)

abbrev all_done : Result Bool (Unit {0})
all_done = Ok true

waiting_there : (phase : CodePhase) (session : SessionState) → phase ≡ phases.FullFeature session → is_settled phase ≡ true → is_waiting session ≡ true
waiting_there phase session is e = sym (ap is_settled is) ∙ e

settled_with : (machine : Machine) (c target : ℕ) → c < connection_limit → length machine.links ≡ connection_limit
    → is_with target (link_at machine c).phase ≡ true → is_settled (link_at machine c).phase ≡ true → SettlesOne target c None machine machine
settled_with machine c target lt count own e =
    let at = session_with (link_at machine c).phase target own in
    let k : IsCalled c (Some target) machine machine = record {
      in_range = lt;
      count = count;
      session = at.0;
      phase = at.1;
      own = at.2;
      changes = untouched machine c (Some target);
    } in
    settles_by all_done c target machine machine machine k (record {
      session = at.0;
      is = ap (λ (p : CodePhase). let l : LinkState = record (link_at machine c) { phase = p } in l) at.1;
      params = refl;
      grows = ([], sym (append-nil (link_at machine c).waiting));
      does = settled_is at.0 (waiting_there (link_at machine c).phase at.0 at.1 e) (units_at (Some target) machine.units) (link_at machine c).waiting;
    }) refl

-- settling it does nothing
pub settled_at : (machine : Machine) (c target : ℕ) → c < connection_limit → length machine.links ≡ connection_limit
    → is_settled (link_at machine c).phase ≡ true → SettlesOne target c None machine machine
settled_at machine c target lt count settled = grind (arith, settled_with, settles_none)

-- ---- a frame that a session serves

-- no units were touched
pub link_only : (given middle : Machine) (c : ℕ) (target : Option ℕ) → middle ≡ with_link given c (link_at middle c) → ChangesOne c target given middle
link_only given middle c target e = grind (arith, set-get_or)

-- whatever the units are
serves_units : (failed : Option (ℕ → Step)) (goes_on : Bool) (orders : List (List ℕ)) (frame : Frame) (c : ℕ) (target : Option ℕ) (given middle : Machine)
    (k : IsCalled c target given middle) → middle ≡ with_link given c (link_at middle c)
    → LeavesSession (λ then_ waiting. ServesFrame frame (numbers_of (units_at target given.units)) orders failed goes_on k.session then_
    (link_at given c).waiting waiting) k.session (link_at given c) (link_at middle c)
    → CallDoes (λ f place. served f place frame) failed goes_on orders c target given middle k
serves_units failed goes_on orders frame c target given middle k same l = record {
  session = l.session;
  is = l.is;
  params = l.params;
  grows = l.grows;
  does = record {
    came = [];
    own = tt;
    leads = λ comings ahead. subst
        (λ (units : UnitStates). Runs (λ f place. served f place frame) failed goes_on k.session l.session (output (link_at given c).waiting [])
        (output (link_at middle c).waiting orders) (lend (units_at target given.units) comings) (lend units comings))
        (ap (λ (m : Machine). units_at target m.units) (sym same)) (l.does (lend (units_at target given.units) comings) refl);
    plain = λ sound. tt;
  };
}

pub serves_takes : {E : Type 0} (r : Result Bool E) (orders : List (List ℕ)) (frame : Frame) (c : ℕ) (target : Option ℕ) (given middle ended after : Machine)
    (starved : Option ℕ) (k : IsCalled c target given middle) → middle ≡ with_link given c (link_at middle c)
    → LeavesSession (λ then_ waiting. Ends is_serving (λ failed goes_on. ServesFrame frame (numbers_of (units_at target given.units)) orders failed goes_on
    k.session then_ (link_at given c).waiting waiting) r) k.session (link_at given c) (link_at middle c)
    → ended ≡ ended_unless r c middle → ReflectsSoundness ended after → Finishes c target orders starved ended after
    → Takes c frame (first_of (starved_by c r) starved) given after
serves_takes (Ok goes_on) orders frame c target given middle ended after starved k same l e back finish =
    takes_served None goes_on orders c target frame given middle ended after starved k
    (serves_units None goes_on orders frame c target given middle k same l) e (λ place. refl) back finish
serves_takes (Err x) orders frame c target given middle ended after starved k same l e back finish =
    let stops = l.does in
    takes_served (Some stops.step) false orders c target frame given middle ended after starved k
    (serves_units (Some stops.step) false orders frame c target given middle k same
    (record { session = l.session; is = l.is; params = l.params; grows = l.grows; does = stops.leads })) e
    (serve_kind c stops.step stops.of_frame stops.of_kind) back finish
