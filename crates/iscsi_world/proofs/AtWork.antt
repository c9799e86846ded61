-- A call of a session, as a call of the target.
use Rattle.std.proofs.Common.{inl, inr, arith, length, ◌≡◌, ℕ, ◌<◌, List, [], ◌∷◌, ◌++◌, map, Bool, true, false, cond, Option, Some, None, refl, sym, ap, ◌∙◌, subst, drop}
use Rattle.std.specs.List.{list_all}
use Rattle.std.proofs.lemmas.List.{map-append}
use Rattle.std.proofs.Math.Seq.{drop-append_seam}
use Rattle.iscsi_pdu.specs.Frames.{Frame}
use Rattle.iscsi_login.specs.declared.session_params.SessionParams.{SessionParams}
use Rattle.scsi_unit.specs.Units.{UnitStates, AreSound}
use Rattle.std.proofs.lemmas.Bool.Decides.{eqb_tells}
use Rattle.iscsi_session.specs.Requests.{Past}
use Rattle.iscsi_session.specs.State.{SessionState, remembered}
use Rattle.iscsi_session.specs.Steps.{Step, Judging, Taking, Asking, Answering, Doing, is_of, is_doing, is_serving, Work, served, settled}
use Rattle.iscsi_session.specs.Comings.{Coming, TargetUnits, CameAs, AreAhead, ArePlain, AreOf, IsCalm, lend}
use Rattle.iscsi_session.proofs.Came.{plain_calm, others_calm}
use Rattle.iscsi_session.specs.Runs.{output, Starts, is_failed, IsReached, Runs}
use Rattle.iscsi_session.proofs.Steps.{served_agrees, settled_agrees}
use Rattle.iscsi_world.specs.History.{Point, Before, Mark, connection_limit}
use Rattle.iscsi_world.specs.World.{Setting, World, present, past_of, is_marked, fails, work_of, changed, close, worked, served_by, take_in, settle_one, units_at, orders_by, orders_in}
use Rattle.iscsi_world.specs.Machine.{Machine, IsSound, IsSoundAt, ReflectsSoundness, link_at}
use Rattle.iscsi_world.specs.SessionCalls.{LeavesSession, ChangesOne, called}
use Rattle.iscsi_world.specs.Stands.{stand_in, Begins}
use Rattle.iscsi_world.specs.Serving.{Serves, Agrees, ActsAs, reached_since, kept, is_taken_at, is_done_by}
use Rattle.iscsi_world.specs.declared.phase.Phase.TheVariants as phases
use Rattle.iscsi_world.proofs.Choices.{eqb_self}
use Rattle.iscsi_world.proofs.Linked.{units_with}
use Rattle.iscsi_world.proofs.Working.{IsAtWork, at_work, past_at, session_link, left_by, serves_worked}
use Rattle.iscsi_world.proofs.Marks.{mark_at, same_self, marked_as, marked_none}
use Rattle.iscsi_world.proofs.Comings.{comings_worked}
use Rattle.iscsi_world.proofs.Doing.{Act, in_order}
use Rattle.iscsi_world.proofs.Reflected.{sound_at, sound_back}
use Rattle.iscsi_world.proofs.Sound.{closed_back, at_as}

-- ---- what failed

abbrev pub marks_of : ℕ → Option (ℕ → Step) → ℕ → List Mark
marks_of c None place = []
marks_of c (Some step) place = mark_at c (Before (step place)) ∷ []

abbrev pub starved_if : Option (ℕ → Step) → ℕ → Option ℕ
starved_if None c = None
starved_if (Some step) c = Some c

pub begins_if : (failed : Option (ℕ → Step)) (c place : ℕ) → Begins (starved_if failed c) (marks_of c failed place)
begins_if failed c place = grind arith

-- a step of the connection is marked where it is the one that failed
pub failed_as : (failed : Option (ℕ → Step)) (c place : ℕ) (step : Step) → is_marked (marks_of c failed place) c (Before step) ≡ is_failed failed place step
failed_as failed c place step = grind (arith, marked_none, marked_as)

-- ---- what was reached

pub last_there : (m : Mark) (front : List Mark) → stand_in (m ∷ []) (front ++ m ∷ []) ≡ true
last_there m front = in_order [] (m ∷ []) front (m ∷ []) refl (ap (λ (b : Bool). cond b true false) (same_self m))

abbrev points : ℕ → List Step → List Mark
points c steps = map (λ (point : Point). mark_at c point) (map Before steps)

pub reached_by : (b : Bool) (failed : Option (ℕ → Step)) (c place : ℕ) (work : Work) (w : World) → work.goes_on ≡ b → IsReached failed place work
    → stand_in (marks_of c failed place) (reached_since w (worked c work w)) ≡ true
unfolding worked close changed
reached_by b failed c place work w e r = grind (arith, map-append, drop-append_seam, last_there)

-- ---- of which steps it asks

step_there : (kind : ℕ → Mark → Bool) (failed : Option (ℕ → Step)) (c place : ℕ) (marks : List Mark) (step : Step)
    → Agrees (kind place) marks (marks_of c failed place) → kind place (mark_at c (Before step)) ≡ true
    → fails marks c step ≡ is_failed failed place step
step_there kind failed c place marks step agree is = agree (mark_at c (Before step)) is ∙ failed_as failed c place step

pub serve_agrees : (failed : Option (ℕ → Step)) (c : ℕ) (frame : Frame) (place : ℕ) (marks : List Mark) (work : Work)
    → Agrees (is_taken_at place) marks (marks_of c failed place)
    → served (fails marks c) place frame work ≡ served (is_failed failed place) place frame work
serve_agrees failed c frame place marks work agree =
    served_agrees (fails marks c) (is_failed failed place) place frame work
    (step_there is_taken_at failed c place marks (Judging place) agree (rw (eqb_self place) refl))
    (λ k. step_there is_taken_at failed c place marks (Taking place k) agree (rw (eqb_self place) refl))
    (step_there is_taken_at failed c place marks (Asking place) agree (rw (eqb_self place) refl))
    (step_there is_taken_at failed c place marks (Answering place) agree (rw (eqb_self place) refl))

pub settle_agrees : (failed : Option (ℕ → Step)) (c place : ℕ) (marks : List Mark) (work : Work)
    → Agrees (is_done_by c place) marks (marks_of c failed place) → settled (fails marks c) place work ≡ settled (is_failed failed place) place work
settle_agrees failed c place marks work agree =
    settled_agrees (fails marks c) (is_failed failed place) place work
    (λ k. step_there (is_done_by c) failed c place marks (Doing place k) agree (rw (eqb_self c, eqb_self place) refl))

-- ---- the call

-- the session of a connection, with this target, and what its call changed
pub record IsCalled (c : ℕ) (target : Option ℕ) (given middle : Machine) : Type 0 where
  pub in_range : c < connection_limit
  pub count : length given.links ≡ connection_limit
  pub session : SessionState
  pub phase : (link_at given c).phase ≡ phases.FullFeature session
  pub own : session.params.target ≡ target
  pub changes : ChangesOne c target given middle

params_same : (past : Past) → (remembered past).params ≡ past.params
params_same past = refl

starts : (s : Setting) (sent : ℕ → ℕ) (half : ℕ → List ℕ) (w : World) (machine : Machine) (c : ℕ) (past : Past) (state : SessionState)
    (units : UnitStates) → c < connection_limit → Serves s sent half w machine → IsAtWork w c past
    → state ≡ remembered past → units_at state.params.target machine.units ≡ units → Starts (work_of past w) state (lend units w.comings)
starts s sent half w machine c past state units lt h a is target = grind (arith, units_with)

-- the units of a target that is sound
no_units : AreSound []
no_units i d lt = absurd (omega (arith, lt))

pub lent_sound : (target : Option ℕ) (machine : Machine) → IsSound machine → AreSound (units_at target machine.units)
lent_sound target machine sound = grind (arith, sound_at)

-- of the session's target they are calm where it is sound, and of another one always
pub lent_calm : (target : Option ℕ) (machine : Machine) (came : List Coming) → AreOf target came
    → (AreSound (units_at target machine.units) → ArePlain came) → (at : ℕ) → IsSoundAt at machine → IsCalm at came
lent_calm None machine came are plain at sound = plain_calm at came (plain no_units)
lent_calm (Some target) machine came are plain at sound = elim (eqb_tells target at) [
  | inl here ↦ plain_calm at came (plain (subst (λ (n : ℕ). IsSoundAt n machine) (sym here.1) sound))
  | inr differ ↦ others_calm (Some target) at came differ.0 are
]

left_back : (b : Bool) (c : ℕ) (machine : Machine) → ReflectsSoundness machine (left_by b c machine)
left_back true c machine target sound = sound
left_back false c machine target sound = closed_back machine c target sound

abbrev pub Run : Type 0
Run = (Step → Bool) → ℕ → Work → Work

-- all steps of the call were done, or those before one
abbrev pub CallDoes : Run → Option (ℕ → Step) → Bool → List (List ℕ) → (c : ℕ) (target : Option ℕ) (given middle : Machine)
    → IsCalled c target given middle → Type 0
CallDoes run failed goes_on orders c target given middle k = LeavesSession (λ then_ waiting. CameAs k.session.params.target
    (λ a b. Runs run failed goes_on k.session then_ (output (link_at given c).waiting []) (output waiting orders) a b)
    (units_at target given.units) (units_at target middle.units)) k.session (link_at given c) (link_at middle c)

module _ (run : Run) (failed : Option (ℕ → Step)) (goes_on : Bool) (orders : List (List ℕ)) (c : ℕ) (target : Option ℕ)
    (given middle after : Machine) (k : IsCalled c target given middle) (l : CallDoes run failed goes_on orders c target given middle k)
    (e : after ≡ left_by goes_on c middle) where
  pub middle_back : ReflectsSoundness middle after
  middle_back at sound = left_back goes_on c middle at (at_as after (left_by goes_on c middle) at e sound)

  pub call_begins : (s : Setting) (sent : ℕ → ℕ) (half : ℕ → List ℕ) (w : World) (h : Serves s sent half w given) (past : Past) → IsAtWork w c past
      → k.session ≡ remembered past → Starts (work_of past w) k.session (lend (units_at target given.units) w.comings)
  call_begins s sent half w h past work is =
      starts s sent half w given c past k.session (units_at target given.units) k.in_range h work is (ap (λ (t : Option ℕ). units_at t given.units) k.own)

  pub own_past : (past : Past) → k.session ≡ remembered past → past.params.target ≡ target
  own_past past is = sym (ap (λ (x : SessionState). x.params.target) is ∙ ap (λ (p : SessionParams). p.target) (params_same past)) ∙ k.own

  unfoldable pub call_does : (kind : ℕ → Mark → Bool) (act : Act)
      → ((s : Setting) (marks : List Mark) (place : ℕ) (w : World) (past : Past) → past_of (present c w) ≡ Some past → past.params.target ≡ target
      → act s marks place w ≡ worked c (run (fails marks c) place (work_of past w)) w)
      → ((place : ℕ) (marks : List Mark) (work : Work) → Agrees (kind place) marks (marks_of c failed place)
      → run (fails marks c) place work ≡ run (is_failed failed place) place work)
      → ((place : ℕ) → list_all (kind place) (marks_of c failed place) ≡ true)
      → ActsAs kind act kept (starved_if failed c) given after
  call_does kind act acts agrees of_kind = record {
    failed = marks_of c failed;
    first = begins_if failed c;
    of_kind = of_kind;
    came = l.does.came;
    plain = λ sound. l.does.plain (lent_sound target middle (sound_back middle after middle_back sound));
    calm = λ at sound. lent_calm target middle l.does.came (subst (λ (t : Option ℕ). AreOf t l.does.came) k.own l.does.own) l.does.plain at
        (middle_back at sound);
    stands = λ s sent half w place marks agree ahead h.
        (let there = at_work s sent half w given c k.session k.in_range h k.phase in
        let past = there.0 in
        let begin = call_begins s sent half w h past there.1 there.2 in
        let work = run (is_failed failed place) place (work_of past w) in
        let r = l.does.leads w.comings ahead in
        let leaves = r.leads place (is_failed failed place) (work_of past w) (λ step of. refl) begin in
        let ends = r.ends place (is_failed failed place) (work_of past w) (λ step of. refl) begin in
        let reached = r.reached place (is_failed failed place) (work_of past w) (λ step of. refl) begin in
        let own = own_past past there.2 in
        let is : act s marks place w ≡ worked c work w =
        acts s marks place w past (past_at w c past there.1) own ∙ ap (λ (x : Work). worked c x w) (agrees place marks (work_of past w) agree) in
        let units = units_at target middle.units in
        let link = session_link l.session (link_at middle c).waiting (link_at given c) in
        let serves = serves_worked s sent half w given c past work l.session (link_at middle c).waiting orders units
        (drop (length l.does.came) w.comings) goes_on k.in_range h there.1 leaves ends in
        let same = e ∙ ap (left_by goes_on c) (k.changes ∙ ap (called given c target units) l.is
        ∙ ap (λ (t : Option ℕ). called given c t units link) (sym own)) in
        rw (is, same) (
          serves,
          reached_by goes_on failed c place work w ends reached,
          comings_worked c work w ∙ ap (λ (u : TargetUnits). u.comings) leaves.units,
        ));
  }

  -- the functions that acted in a frame that it served
  pub served_orders : (frame : Frame) (s : Setting) (sent : ℕ → ℕ) (half : ℕ → List ℕ) (w : World) (place : ℕ) (marks : List Mark)
      → ((fails : Step → Bool) (work : Work) → run fails place work ≡ served fails place frame work)
      → AreAhead l.does.came w.comings → Agrees (is_taken_at place) marks (marks_of c failed place) → Serves s sent half w given
      → orders_in marks c place frame w ≡ orders
  unfolding orders_in
  served_orders frame s sent half w place marks serves ahead agree h =
      let there = at_work s sent half w given c k.session k.in_range h k.phase in
      let past = there.0 in
      let begin = call_begins s sent half w h past there.1 there.2 in
      let leaves = (l.does.leads w.comings ahead).leads place (is_failed failed place) (work_of past w) (λ step of. refl) begin in
      ap (λ (o : Option Past). orders_by o marks c place frame w) (past_at w c past there.1)
      ∙ ap (λ (x : Work). x.orders) (serve_agrees failed c frame place marks (work_of past w) agree
      ∙ sym (serves (is_failed failed place) (work_of past w)))
      ∙ leaves.acted ∙ sym leaves.ordered

-- ---- its act

pub serve_acts : (c : ℕ) (frame : Frame) (marks : List Mark) (place : ℕ) (w : World) (past : Past) → past_of (present c w) ≡ Some past
    → take_in marks c place frame w ≡ worked c (served (fails marks c) place frame (work_of past w)) w
unfolding take_in
serve_acts c frame marks place w past at = ap (λ (o : Option Past). served_by o marks c place frame w) at

pub settle_acts : (c target : ℕ) (marks : List Mark) (place : ℕ) (w : World) (past : Past) → past_of (present c w) ≡ Some past
    → past.params.target ≡ Some target → settle_one marks place target w c ≡ worked c (settled (fails marks c) place (work_of past w)) w
unfolding settle_one
settle_acts c target marks place w past at same = grind arith

-- the one mark of a call that stopped is of its kind
pub serve_kind : (c : ℕ) (step : ℕ → Step) → ((place : ℕ) → is_of place (step place) ≡ true) → ((place : ℕ) → is_serving (step place) ≡ true)
    → (place : ℕ) → list_all (is_taken_at place) (marks_of c (Some step) place) ≡ true
serve_kind c step of_frame of_kind place = rw (of_frame place, of_kind place) refl

pub settle_kind : (c : ℕ) (step : ℕ → Step) → ((place : ℕ) → is_of place (step place) ≡ true) → ((place : ℕ) → is_doing (step place) ≡ true)
    → (place : ℕ) → list_all (is_done_by c place) (marks_of c (Some step) place) ≡ true
settle_kind c step of_frame of_kind place = rw (eqb_self c, of_frame place, of_kind place) refl
