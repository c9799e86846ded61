-- What taking a frame does: by the phase of its connection.
use Rattle.std.proofs.Common.{◌≡◌, ℕ, ◌+◌, ◌<◌, List, [], ◌∷◌, Bool, true, false, eqb, Option, Some, None, refl, sym, ap, ◌∙◌, subst, arith}
use Rattle.std.specs.Prelude.{nat_lt}
use Rattle.std.specs.List.{list_all, fold, range_with_len}
use Rattle.std.proofs.lemmas.List.Sums.{fold-append}
use Rattle.std.proofs.Math.Seq.{drop-append_seam}
use Rattle.iscsi_pdu.specs.Frames.{Frame}
use Rattle.iscsi_login.specs.Login.{remembered}
use Rattle.iscsi_login.specs.LoginState.{LoginState}
use Rattle.iscsi_session.specs.Steps.{Step, served}
use Rattle.iscsi_login.specs.Directory.{KnownTargets}
use Rattle.iscsi_world.specs.History.{Point, Arriving, Mark, Arrival, Whole, connection_limit}
use Rattle.iscsi_world.specs.Life.{Life, Phase, LoggingIn, FullFeature, reads}
use Rattle.iscsi_world.specs.World.{Setting, World, present, changed, reads_life, is_marked, close, reaching, take_step, log_in, take_in, settle_one, settle, serve, is_login, taken_in, taken_by, comes, arrive, settle_for, carry_out_for, orders_in}
use Rattle.iscsi_world.specs.Machine.{LinkState, Machine, ReflectsSoundness, link_at, is_reading, closed, logged_in}
use Rattle.iscsi_world.specs.Stands.{link_of, stand_in}
use Rattle.iscsi_world.specs.Serving.{Serves, Agrees, ActsAs, reached_since, CarriesOut, kept, is_of_none, first_of, is_of_frame, is_taken_at, is_done_at, is_done_by, is_done_below, Takes, Settles, SettlesOne, SettlesFor}
use Rattle.iscsi_world.specs.declared.phase.Phase.TheVariants as phases
use Rattle.iscsi_world.proofs.Choices.{eqb_self, cond_true, cond_false, and_true, and_false}
use Rattle.iscsi_world.proofs.Lists.{range_next}
use Rattle.iscsi_world.proofs.Linked.{link_is, reads_there, some_reads, closes, present-reaching, serves_as, serves_world, serves_reaching}
use Rattle.iscsi_world.proofs.LoggingIn.{Entering, logs_in}
use Rattle.iscsi_world.proofs.Marks.{mark_at, marked_one, marked_none, unmarked, Apart, Wider, agrees_left, all_wider, is_step_at, taken_done, done_taken, taken_step, done_step, step_within}
use Rattle.iscsi_world.proofs.Working.{at_work, left_by}
use Rattle.iscsi_session.proofs.Came.{ahead_of}
use Rattle.iscsi_world.proofs.Comings.{comings_close, comings_log_in}
use Rattle.iscsi_world.proofs.Walks.{on-fold, on-take_in, on-settle_one, on-settle_for, on-carry_out_for}
use Rattle.iscsi_world.proofs.Keeping.{Prolongs, goes_walk, on-then, on-reaching}
use Rattle.iscsi_world.proofs.Doing.{reached_both, does_nothing, does_as, does_from, does_then}
use Rattle.iscsi_world.proofs.AtWork.{IsCalled, CallDoes, last_there, marks_of, starved_if, call_does, own_past, served_orders, serve_acts, serve_agrees}

-- ---- a connection that does not read

pub idle_step : (marks : List Mark) (c : ℕ) (point : Point) (act : World → World) (w : World) → reads_life (present c w) ≡ false
    → take_step marks c point act w ≡ w
unfolding take_step
idle_step marks c point act w e = rw e refl

pub idle : (s : Setting) (marks : List Mark) (c : ℕ) (w : World) (arrival : ℕ × Arrival) → reads_life (present c w) ≡ false → arrive s marks c w arrival ≡ w
unfolding arrive
idle s marks c w arrival e = idle_step marks c (Arriving arrival.0) (comes s marks c arrival.0 arrival.1) w e

-- ---- a login is under way

-- a present life that logs in, and what is remembered of its requests
record IsLoggingIn (directory : KnownTargets) (login : LoginState) (o : Option Life) : Type 0 where
  life : Life
  at : o ≡ Some life
  phase : life.phase ≡ LoggingIn
  known : remembered directory (life.connection + 1) life.requests ≡ login

logging_in_of : (directory : KnownTargets) (sent : ℕ) (half : List ℕ) (login : LoginState) (o : Option Life)
    → (link_of directory sent half o).phase ≡ phases.Login login → IsLoggingIn directory login o
logging_in_of directory sent half login o same = grind arith

logging_in : (s : Setting) (sent : ℕ → ℕ) (half : ℕ → List ℕ) (w : World) (machine : Machine) (c : ℕ) (login : LoginState) → c < connection_limit
    → Serves s sent half w machine → (link_at machine c).phase ≡ phases.Login login
    → IsLoggingIn s.directory login (present c w)
logging_in s sent half w machine c login lt h e =
    logging_in_of s.directory (sent c) (half c) login (present c w) (sym (ap (λ (l : LinkState). l.phase) (link_is s sent half w machine c lt h)) ∙ e)

pub unmarked_step : (marks : List Mark) (c : ℕ) (point : Point) (act : World → World) (w : World) → reads_life (present c w) ≡ true
    → is_marked marks c point ≡ false → take_step marks c point act w ≡ act (reaching c (point ∷ []) w)
unfolding take_step
unmarked_step marks c point act w r u = rw (r, u) refl

pub marked_step : (marks : List Mark) (c : ℕ) (point : Point) (act : World → World) (w : World) → reads_life (present c w) ≡ true
    → is_marked marks c point ≡ true → take_step marks c point act w ≡ close c (reaching c (point ∷ []) w)
unfolding take_step
marked_step marks c point act w r u = rw (r, u) refl

-- what becomes whole on a connection that reads, where no allocation fails
pub arrived : (s : Setting) (marks : List Mark) (c : ℕ) (w : World) (place : ℕ) (arrival : Arrival) → reads_life (present c w) ≡ true
    → Agrees (is_of_frame place) marks []
    → arrive s marks c w (place, arrival) ≡ comes s marks c place arrival (reaching c (Arriving place ∷ []) w)
unfolding arrive
arrived s marks c w place arrival r agree =
    unmarked_step marks c (Arriving place) (comes s marks c place arrival) w r (agree (mark_at c (Arriving place)) (eqb_self place)
    ∙ marked_none c (Arriving place))

arrived_free : (s : Setting) (marks : List Mark) (c : ℕ) (w : World) (place : ℕ) (arrival : Arrival) → reads_life (present c w) ≡ true
    → is_marked marks c (Arriving place) ≡ false
    → arrive s marks c w (place, arrival) ≡ comes s marks c place arrival (reaching c (Arriving place ∷ []) w)
unfolding arrive
arrived_free s marks c w place arrival r free = unmarked_step marks c (Arriving place) (comes s marks c place arrival) w r free

-- by the phase of its present life
pub arrived_in : (s : Setting) (marks : List Mark) (c : ℕ) (w : World) (place : ℕ) (frame : Frame) (life : Life) (phase : Phase)
    → present c w ≡ Some life → life.phase ≡ phase
    → comes s marks c place (Whole frame) (reaching c (Arriving place ∷ []) w) ≡ taken_in s marks c place frame phase (reaching c (Arriving place ∷ []) w)
arrived_in s marks c w place frame life phase at e =
    let v = reaching c (Arriving place ∷ []) w in
    ap (λ (o : Option Life). taken_by s marks c place frame o v) (present-reaching c c (Arriving place ∷ []) w ∙ at)
    ∙ ap (λ (p : Phase). taken_in s marks c place frame p v) e

-- a frame that is no Login request closes it
pub takes_closed : (given after : Machine) (c : ℕ) (frame : Frame) (login : LoginState) → c < connection_limit
    → (link_at given c).phase ≡ phases.Login login → is_login frame ≡ false → after ≡ closed given c → Takes c frame None given after
takes_closed given after c frame login lt phase other is = does_nothing is_of_frame (λ s marks place w. arrive s marks c w (place, Whole frame))
    kept given after
    (λ s sent half w place marks agree h.
    (let l = logging_in s sent half w given c login lt h phase in
    let v = reaching c (Arriving place ∷ []) w in
    let step = arrived s marks c w place (Whole frame) (ap reads_life l.at ∙ ap reads l.phase) agree
    ∙ arrived_in s marks c w place frame l.life LoggingIn l.at l.phase
    ∙ cond_false (is_login frame) (log_in s c frame v) (close c v) other in (
      serves_world s sent half (close c v) _ after step (serves_as s sent half (close c v) (closed given c) after is
          (closes s sent half v given c l.life lt (serves_reaching s sent half w given c (Arriving place ∷ []) h)
          (present-reaching c c (Arriving place ∷ []) w ∙ l.at))),
      ap (λ (u : World). u.comings) step ∙ comings_close c v,
    )))

-- a Login request
pub takes_login : (given after : Machine) (c : ℕ) (frame : Frame) (login : LoginState) → c < connection_limit
    → (link_at given c).phase ≡ phases.Login login → is_login frame ≡ true → after ≡ logged_in given c login frame → Takes c frame None given after
takes_login given after c frame login lt phase logs is = does_nothing is_of_frame (λ s marks place w. arrive s marks c w (place, Whole frame)) kept given after
    (λ s sent half w place marks agree h.
    (let l = logging_in s sent half w given c login lt h phase in
    let v = reaching c (Arriving place ∷ []) w in
    let step = arrived s marks c w place (Whole frame) (ap reads_life l.at ∙ ap reads l.phase) agree
    ∙ arrived_in s marks c w place frame l.life LoggingIn l.at l.phase
    ∙ cond_true (is_login frame) (log_in s c frame v) (close c v) logs in
    let enters : Entering s sent half v given c l.life = record {
      in_range = lt;
      serves = serves_reaching s sent half w given c (Arriving place ∷ []) h;
      at = present-reaching c c (Arriving place ∷ []) w ∙ l.at;
      phase = l.phase;
    } in
    let P : LoginState → Type 0 = λ known. Serves s sent half (log_in s c frame v) (logged_in given c known frame) in (
      serves_world s sent half (log_in s c frame v) _ after step (serves_as s sent half (log_in s c frame v) (logged_in given c login frame) after is
          (subst P l.known (logs_in s sent half v given c l.life frame enters))),
      ap (λ (u : World). u.comings) step ∙ comings_log_in s c frame v,
    )))

-- ---- an allocation fails as a frame becomes whole

pub reached_first : (c : ℕ) (point : Point) (w : World) → stand_in (mark_at c point ∷ []) (reached_since w (close c (reaching c (point ∷ []) w))) ≡ true
unfolding close changed
reached_first c point w = ap (stand_in (mark_at c point ∷ [])) (drop-append_seam w.reached (mark_at c point ∷ [])) ∙ last_there (mark_at c point) []

pub starves : (given after : Machine) (c : ℕ) (arrival : Arrival) → c < connection_limit → is_reading (link_at given c).phase ≡ true → after ≡ closed given c
    → ActsAs is_of_frame (λ s marks place w. arrive s marks c w (place, arrival)) kept (Some c) given after
unfolding arrive
starves given after c arrival lt r is = record {
  failed = λ place. mark_at c (Arriving place) ∷ [];
  first = λ place. refl;
  of_kind = λ place. rw (eqb_self place) refl;
  came = [];
  plain = λ sound. tt;
  calm = λ target sound. tt;
  stands = λ s sent half w place marks agree ahead h.
      (let there = some_reads (present c w) (sym (reads_there s sent half w given c lt h) ∙ r) in
      let v = reaching c (Arriving place ∷ []) w in
      let step = marked_step marks c (Arriving place) (comes s marks c place arrival) w (ap reads_life there.1 ∙ there.2)
      (agree (mark_at c (Arriving place)) (eqb_self place) ∙ marked_one c (Arriving place)) in
      rw step (
        serves_as s sent half (close c v) (closed given c) after is
            (closes s sent half v given c there.0 lt (serves_reaching s sent half w given c (Arriving place ∷ []) h)
            (present-reaching c c (Arriving place ∷ []) w ∙ there.1)),
        reached_first c (Arriving place) w,
        comings_close c v,
      ));
}

pub takes_starved : (given after : Machine) (c : ℕ) (frame : Frame) → c < connection_limit → is_reading (link_at given c).phase ≡ true
    → after ≡ closed given c → Takes c frame (Some c) given after
takes_starved given after c frame lt r is = starves given after c (Whole frame) lt r is

-- ---- a session

-- the functions that acted were carried out, and then the sessions of the target were settled
abbrev pub Finishes : ℕ → Option ℕ → List (List ℕ) → Option ℕ → Machine → Machine → Type 0
Finishes c target orders starved middle after =
    ActsAs is_done_at (λ s marks place w. settle_for marks place target (carry_out_for c target orders w)) kept starved middle after

pub finishes : (c : ℕ) (target : Option ℕ) (orders : List (List ℕ)) (starved : Option ℕ) (middle carried after : Machine) → ReflectsSoundness carried after
    → CarriesOut (carry_out_for c target orders) middle carried → SettlesFor target starved carried after → Finishes c target orders starved middle after
finishes c target orders starved middle carried after back carries settles =
    does_then is_of_none is_done_at is_done_at (λ s marks place w. carry_out_for c target orders w) (λ s marks place w. settle_for marks place target w)
    kept kept None starved middle carried after (λ place mark e. absurd cc) (λ place mark e. refl) (λ place mark e. absurd cc) (λ place mark e. e) back
    (λ s marks place w. on-carry_out_for (goes_walk []) c target orders w (λ t e. tt))
    (λ s marks place w. on-settle_for (goes_walk marks) place target w (λ t e. tt)) carries settles

-- its session served the frame
pub takes_served : (failed : Option (ℕ → Step)) (goes_on : Bool) (orders : List (List ℕ)) (c : ℕ) (target : Option ℕ) (frame : Frame)
    (given middle ended after : Machine) (starved : Option ℕ) (k : IsCalled c target given middle)
    (l : CallDoes (λ f place. served f place frame) failed goes_on orders c target given middle k) → ended ≡ left_by goes_on c middle
    → ((place : ℕ) → list_all (is_taken_at place) (marks_of c failed place) ≡ true) → ReflectsSoundness ended after
    → Finishes c target orders starved ended after → Takes c frame (first_of (starved_if failed c) starved) given after
unfolding serve does_then call_does
takes_served failed goes_on orders c target frame given middle ended after starved k l e of_kind back second =
    let run = λ (f : Step → Bool) (place : ℕ). served f place frame in
    let first = call_does run failed goes_on orders c target given middle ended k l e is_taken_at (λ s marks place w. take_in marks c place frame w)
    (λ s marks place w past at own. serve_acts c frame marks place w past at)
    (λ place marks work agree. serve_agrees failed c frame place marks work agree) of_kind in
    let taking : (marks : List Mark) (place : ℕ) (w : World) → Prolongs w (take_in marks c place frame w) =
    λ marks place w. on-take_in (goes_walk marks) c place frame w tt in
    let finishing : (marks : List Mark) (place : ℕ) (w : World) → Prolongs w (settle_for marks place target (carry_out_for c target orders w)) =
    λ marks place w. on-then w (carry_out_for c target orders w) _ (on-carry_out_for (goes_walk []) c target orders w (λ t e. tt))
    (on-settle_for (goes_walk marks) place target (carry_out_for c target orders w) (λ t e. tt)) in
    let both = does_then is_taken_at is_done_at is_step_at (λ s marks place w. take_in marks c place frame w)
    (λ s marks place w. settle_for marks place target (carry_out_for c target orders w)) kept kept (starved_if failed c) starved given ended after
    taken_done done_taken taken_step done_step back (λ s marks place w. taking marks place w) (λ s marks place w. finishing marks place w) first second in
    does_from both (λ place. all_wider (is_step_at place) (is_of_frame place) (both.failed place) (step_within place) (both.of_kind place))
    (λ s sent half w place marks agree ahead h.
    (let there = at_work s sent half w given c k.session k.in_range h k.phase in
    let a = there.1 in
    let v = reaching c (Arriving place ∷ []) w in
    let free : is_marked marks c (Arriving place) ≡ false =
    agree (mark_at c (Arriving place)) (eqb_self place) ∙ unmarked (is_step_at place) (both.failed place) (mark_at c (Arriving place))
    (both.of_kind place) (and_false (eqb place place)) in
    let here = serves_reaching s sent half w given c (Arriving place ∷ []) h in
    let inner : Agrees (is_step_at place) marks (both.failed place) = λ mark is. agree mark (step_within place mark is) in
    let acted : orders_in marks c place frame v ≡ orders =
    served_orders run failed goes_on orders c target given middle ended k l e frame s sent half v place marks (λ fails work. refl)
    (ahead_of l.does.came second.came v.comings ahead)
    (agrees_left (is_taken_at place) (is_done_at place) (is_step_at place) marks (marks_of c failed place) (second.failed place)
    (taken_done place) (taken_step place) (second.of_kind place) inner) here in
    let step = arrived_free s marks c w place (Whole frame) (ap reads_life a.at ∙ ap reads a.phase) free
    ∙ arrived_in s marks c w place frame a.life (FullFeature there.0) a.at a.phase
    ∙ ap (λ (t : Option ℕ). settle_for marks place t (carry_out_for c t (orders_in marks c place frame v) (take_in marks c place frame v)))
    (own_past (λ f place. served f place frame) failed goes_on orders c target given middle ended k l e there.0 there.2)
    ∙ ap (λ (os : List (List ℕ)). settle_for marks place target (carry_out_for c target os (take_in marks c place frame v))) acted in
    let at = both.stands s sent half v place marks inner ahead here in
    rw step (
      at.0,
      reached_both [] (both.failed place) w v _ (on-reaching c (Arriving place ∷ []) w)
          (on-then v (take_in marks c place frame v) _ (taking marks place v) (finishing marks place (take_in marks c place frame v))) refl at.1,
      at.2,
    )))

-- ---- the sessions of a target are settled, one after the other

below_here : (c place : ℕ) → Apart (is_done_below c place) (is_done_by c place)
below_here c place mark e = grind arith

here_below : (c place : ℕ) → Apart (is_done_by c place) (is_done_below c place)
here_below c place mark e = grind arith

below_more : (c place : ℕ) → Wider (is_done_below c place) (is_done_below (c + 1) place)
below_more c place mark e = grind arith

here_more : (c place : ℕ) → Wider (is_done_by c place) (is_done_below (c + 1) place)
here_more c place mark e = grind arith

below_all : (c place : ℕ) → Wider (is_done_below c place) (is_done_at place)
below_all c place mark e = (and_true (nat_lt mark.connection c) (is_done_at place mark) e).1

-- those below this connection
abbrev pub SettledBelow : ℕ → ℕ → Option ℕ → Machine → Machine → Type 0
SettledBelow target c starved given after = ActsAs (is_done_below c) (λ s marks place w. fold (settle_one marks place target) w (range_with_len 0 c))
    kept starved given after

pub none_settled : (target : ℕ) (machine : Machine) → SettledBelow target 0 None machine machine
none_settled target machine = does_nothing (is_done_below 0) (λ s marks place w. fold (settle_one marks place target) w (range_with_len 0 0)) kept
    machine machine (λ s sent half w place marks agree h. (h, refl))

fold_next : (marks : List Mark) (place target c : ℕ) (w : World) → fold (settle_one marks place target) w (range_with_len 0 (c + 1))
    ≡ settle_one marks place target (fold (settle_one marks place target) w (range_with_len 0 c)) c
fold_next marks place target c w = grind (arith, range_next, fold-append)

pub settled_next : (target c : ℕ) (a b : Option ℕ) (given middle after : Machine) → ReflectsSoundness middle after
    → SettledBelow target c a given middle → SettlesOne target c b middle after → SettledBelow target (c + 1) (first_of a b) given after
settled_next target c a b given middle after back so_far one =
    does_as (is_done_below (c + 1)) (λ s marks place w. settle_one marks place target (fold (settle_one marks place target) w (range_with_len 0 c)) c)
    (λ s marks place w. fold (settle_one marks place target) w (range_with_len 0 (c + 1))) (λ half. kept (kept half)) (first_of a b) given after
    (λ s sent half w place marks h. fold_next marks place target c w)
    (does_then (is_done_below c) (is_done_by c) (is_done_below (c + 1))
    (λ s marks place w. fold (settle_one marks place target) w (range_with_len 0 c)) (λ s marks place w. settle_one marks place target w c)
    kept kept a b given middle after (below_here c) (here_below c) (below_more c) (here_more c) back
    (λ s marks place w. on-fold (goes_walk marks) (settle_one marks place target) w (range_with_len 0 c)
    (λ v d. on-settle_one (goes_walk marks) place target v d tt))
    (λ s marks place w. on-settle_one (goes_walk marks) place target w c tt) so_far one)

pub all_settled : (target : ℕ) (starved : Option ℕ) (given after : Machine) → SettledBelow target connection_limit starved given after
    → Settles target starved given after
unfolding settle
all_settled target starved given after d = does_from d
    (λ place. all_wider (is_done_below connection_limit place) (is_done_at place) (d.failed place) (below_all connection_limit place) (d.of_kind place))
    (λ s sent half w place marks agree ahead h. d.stands s sent half w place marks
    (λ mark is. agree mark (below_all connection_limit place mark is)) ahead h)
