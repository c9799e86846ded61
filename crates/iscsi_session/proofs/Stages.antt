-- The stages of a frame: each is a run, and so are they one after the other.
use Rattle.std.proofs.Common.{◌≡◌, ◌≢◌, ℕ, List, [], ◌∷◌, ◌++◌, Bool, true, false, not, Option, Some, None, refl, sym, ap, ◌∙◌, append-nil, zero, suc, ◌+◌, ◌-◌, ◌<◌, ◌≤◌, arith}
use Rattle.std.specs.Prelude.{flat_map}
use Rattle.scsi_unit.specs.Units.{numbers_of}
use Rattle.iscsi_session.specs.Comings.{TargetUnits}
use Rattle.iscsi_pdu.specs.Frames.{Frame}
use Rattle.iscsi_pdu.specs.Answer.{spelling}
use Rattle.iscsi_pdu.specs.declared.answer.Answer.{Answer}
use Rattle.iscsi_requests.specs.Requests.{Past, due}
use Rattle.iscsi_requests.specs.declared.verdict.Verdict.{Verdict}
use Rattle.iscsi_requests.specs.declared.verdict.Verdict.TheVariants.{Violating}
use Rattle.iscsi_requests.specs.Judging.{verdict, judged, judged_answers, violates}
use Rattle.iscsi_requests.specs.Transfers.{asking, asked_by, r2ts_by}
use Rattle.iscsi_requests.specs.Functions.{drained_functions, answered_by, told_by}
use Rattle.iscsi_requests.specs.State.{SessionState, Stands, IsLawful, remembered}
use Rattle.iscsi_session.specs.Steps.{StepKind, Judge, Take, Ask, Tell, Step, step_at, Judging, Taking, Asking, Answering, is_serving, Work, reaches, take_step, judge, act, act_all, waiting_in, ask, tell, first_steps, ask_due, tell_due, taken_in, asked_in, served, one_by_one}
use Rattle.iscsi_session.specs.Runs.{Output, output, Starts, Leaves, Runs, is_failed, Stops, Judges}
use Rattle.iscsi_session.proofs.Steps.{judged_agrees, judged_same, turns_agree, taken_alike, asked_alike}
use Rattle.iscsi_session.proofs.Runs.{Run, LeadsTo, runs_by, stands_of, starts_again, starts_reaching, leaves_nothing, leaves_then, leaves_answering, leaves_as, leaves_reaching, leaves_stopped, step_done, step_fails, first_stopped, stopped, same_place, same_step, other_turn, idle, runs_as, no_failure, runs_then, runs_ended}

-- ---- the first of a line takes a step, where there is one

module _ (does : ℕ → Work → Work) where
  -- what it leaves
  abbrev pub LeavesFirst : Bool → List ℕ → Work → SessionState → Output → Output → TargetUnits → Type 0
  LeavesFirst goes_on [] work new before waiting after = (goes_on ≡ true) × Leaves work work new before waiting after
  LeavesFirst goes_on (k ∷ others) work new before waiting after = ((does k work).goes_on ≡ goes_on) × Leaves work (does k work) new before waiting after

  -- a step that answers this much
  pub record Sends (by : List ℕ → Past → Past) (answers : List ℕ → Past → List Answer) : Type 0 where
    pub none : (past : Past) → by [] past ≡ past
    pub does_so : (k : ℕ) (others : List ℕ) (work : Work) → does k work ≡ record work { past = by (k ∷ others) work.past }
    pub kept : (l : List ℕ) (past : Past) → ((by l past).params ≡ past.params) × ((by l past).answers ≡ past.answers ++ answers l past)

  sends_first : (by : List ℕ → Past → Past) (answers : List ℕ → Past → List Answer) (sends : Sends by answers) (l : List ℕ) (work : Work)
      (new : SessionState) (bytes items : List ℕ) (orders : List (List ℕ)) (units : TargetUnits) → work.units ≡ units → work.goes_on ≡ true
      → Stands (by l work.past) new → items ≡ bytes ++ flat_map spelling (answers l work.past)
      → LeavesFirst true l work new (output bytes orders) (output items orders) units
  sends_first by answers sends [] work new bytes items orders units same on s out = grind (arith, leaves_answering)
  sends_first by answers sends (k ∷ others) work new bytes items orders units same on s out = grind (arith, leaves_answering)

module _ (kind : StepKind) (turn : ℕ) (line : Past → List ℕ) (does : ℕ → Work → Work) where
  abbrev pub first_of : Run
  first_of fails place work = first_steps fails (step_at kind turn place) does (line work.past) work

  first_leads : (goes_on : Bool) (l : List ℕ) (old new : SessionState) (before waiting : Output) (units after : TargetUnits) (place : ℕ)
      (fails : Step → Bool) (work : Work) → line work.past ≡ l → fails (step_at kind turn place) ≡ false → Starts work old units
      → LeavesFirst does goes_on l (reaches (step_at kind turn place) work) new before waiting after
      → LeadsTo first_of None goes_on new before waiting after place fails work
  first_leads goes_on [] old new before waiting units after place fails work e un s left = grind (arith, leaves_as)
  first_leads goes_on (k ∷ others) old new before waiting units after place fails work e un s left = grind (arith, step_done, leaves_reaching)

  pub first_runs : {goes_on : Bool} {old new : SessionState} {before waiting : Output} {units after : TargetUnits}
      → ((work : Work) → Starts work old units → LeavesFirst does goes_on (line work.past) work new before waiting after)
      → Runs first_of None goes_on old new before waiting units after
  first_runs {goes_on} {old} {new} {before} {waiting} {units} {after} left = runs_by (λ place fails work told s.
      (let step = step_at kind turn place in
      first_leads goes_on (line work.past) old new before waiting units after place fails work refl (told step (same_place place)) s
      (left (reaches step work) (starts_reaching step work old units s))))

  -- there is none
  pub none_runs : {state : SessionState} {before : Output} {units : TargetUnits} → ((past : Past) → Stands past state → line past ≡ [])
      → Runs first_of None true state state before before units units
  none_runs {state} {before} {units} none = grind (arith, first_runs, stands_of, leaves_nothing)

  -- an allocation fails before it
  pub first_stops : {state : SessionState} {bytes items : List ℕ} → items ≡ bytes
      → ((past : Past) → Stands past state → (k : ℕ) × (others : List ℕ) × (line past ≡ k ∷ others)) → (orders : List (List ℕ)) (units : TargetUnits)
      → Runs first_of (Some (step_at kind turn)) false state state (output bytes orders) (output items orders) units units
  first_stops {state} {bytes} unchanged there orders units = rw unchanged (runs_by (λ place fails work told s.
      (let step = step_at kind turn place in
      let found = there work.past (stands_of work state units s) in
      let before = output bytes orders in record {
        to = record (reaches step work) { goes_on = false };
        is = grind (arith, step_fails, same_place, same_step, kind);
        on = refl;
        leaves = leaves_stopped step work work state before before units (leaves_nothing work state before units s);
        reached = (work.reached, refl);
      })))

  pub sent_runs : (by : List ℕ → Past → Past) (answers : List ℕ → Past → List Answer) → Sends does by answers → (old new : SessionState)
      (bytes items : List ℕ) (orders : List (List ℕ)) (units : TargetUnits)
      → ((past : Past) → Stands past old → Stands (by (line past) past) new × (items ≡ bytes ++ flat_map spelling (answers (line past) past)))
      → Runs first_of None true old new (output bytes orders) (output items orders) units units
  sent_runs by answers sends old new bytes items orders units sent = grind (arith, first_runs, stands_of, sends_first)

pub asks : Sends ask asked_by r2ts_by
unfolding ask
asks = record { none = λ past. refl; does_so = λ k others work. refl; kept = kept }
  where
    kept : (l : List ℕ) (past : Past) → ((asked_by l past).params ≡ past.params) × ((asked_by l past).answers ≡ past.answers ++ r2ts_by l past)
    kept [] past = (refl, sym (append-nil past.answers))
    kept (k ∷ others) past = (refl, refl)

pub tells : Sends tell answered_by told_by
unfolding tell
tells = record { none = λ past. refl; does_so = λ k others work. refl; kept = kept }
  where
    kept : (l : List ℕ) (past : Past) → ((answered_by l past).params ≡ past.params) × ((answered_by l past).answers ≡ past.answers ++ told_by l past)
    kept [] past = (refl, sym (append-nil past.answers))
    kept (k ∷ others) past = (refl, refl)

-- ---- the steps of a line, one after the other

-- the steps are of one kind; the code counts how many follow at most
pub record Line : Type 0 where
  pub kind : StepKind
  pub line : Past → List ℕ
  pub does : ℕ → Work → Work
  pub count : SessionState → ℕ
  pub size : Past → ℕ
  pub fits : (past : Past) → IsLawful past → count (remembered past) ≤ size past

module _ (l : Line) where
  -- the step of this turn, and all before it
  abbrev pub turn_of : ℕ → Run
  turn_of n = first_of l.kind n l.line l.does

  abbrev pub turns_of : ℕ → Run
  turns_of n fails place work = one_by_one fails (λ turn. step_at l.kind turn place) l.line l.does 0 n work

  unfoldable pub all_of : Run
  all_of fails place work = turns_of (l.size work.past) fails place work

  split : (fails : Step → Bool) (step : ℕ → Step) (turn n m j k : ℕ) (work : Work) → turn + n ≡ j → n + m ≡ k
      → one_by_one fails step l.line l.does turn k work
      ≡ one_by_one fails step l.line l.does j m (one_by_one fails step l.line l.does turn n work)
  split fails step turn zero m j k work at all = let here : turn ≡ j = omega arith in let rest : k ≡ m = omega arith in rw (here, rest) refl
  split fails step turn (suc n) m j zero work at all = absurd (omega arith)
  split fails step turn (suc n) m j (suc k) work at all =
      split fails step (suc turn) n m j k (first_steps fails (step turn) l.does (l.line work.past) work) (omega arith) (omega arith)

  -- so many steps were done
  pub record Ran (turns : ℕ) (old now : SessionState) (before waiting : Output) (units after : TargetUnits) : Type 0 where
    pub runs : Runs (turns_of turns) None true old now before waiting units after
    pub fewer : turns + l.count now ≤ l.count old

  pub none_ran : (old : SessionState) (before : Output) (units : TargetUnits) → Ran 0 old old before before units units
  none_ran old before units = grind (arith, runs_by, leaves_nothing)

  turn_behind : (n : ℕ) {failed : Option (ℕ → Step)} {goes_on : Bool} {old now next : SessionState} {before waiting items : Output}
      {units middle after : TargetUnits} → ((place k : ℕ) → k < n → is_failed failed place (step_at l.kind k place) ≡ false)
      → Runs (turns_of n) None true old now before waiting units middle → Runs (turn_of n) failed goes_on now next waiting items middle after
      → Runs (turns_of (suc n)) failed goes_on old next before items units after
  turn_behind n none so_far turn =
      runs_as (λ fails place work. sym (split fails (λ turn. step_at l.kind turn place) 0 n 1 n (suc n) work (omega arith) (omega arith)))
      (runs_then (λ place fails work told. turns_agree fails no_failure (λ turn. step_at l.kind turn place) l.line l.does 0 n work
      (λ k le lt. told (step_at l.kind k place) (same_place place) ∙ none place k (omega arith))) so_far turn)

  pub ran_more : {turns : ℕ} {old now next : SessionState} {before waiting items : Output} {units middle after : TargetUnits}
      → Ran turns old now before waiting units middle → Runs (turn_of turns) None true now next waiting items middle after → l.count next < l.count now
      → Ran (suc turns) old next before items units after
  ran_more {turns} ran turn less = grind (arith, turn_behind)

  -- no more than there are turns
  begins : (work : Work) (old : SessionState) (units : TargetUnits) → Starts work old units → l.count old ≤ l.size work.past
  begins work old units s = omega (arith, ap l.count s.remembered, l.fits work.past s.lawful)

  -- the line is empty, and nothing changes
  pub ran_idle : {turns : ℕ} {old now next : SessionState} {before waiting items : Output} {units middle after : TargetUnits}
      → Ran turns old now before waiting units middle
      → ((work : Work) → Starts work now middle → (l.line work.past ≡ []) × Leaves work work next waiting items after)
      → Runs all_of None true old next before items units after
  unfolding all_of
  ran_idle {turns} {old} {now} {next} {before} {waiting} {items} {units} {middle} {after} ran none = runs_by (λ place fails work told s.
      (let step : ℕ → Step = λ turn. step_at l.kind turn place in
      let to = turns_of turns fails place work in
      let so_far = ran.runs.leads place fails work told s in
      let on = ran.runs.ends place fails work told s in
      let found = none to (starts_again work to now before waiting middle so_far on) in
      let most = begins work old units s in
      let left = l.size work.past - turns in record {
        to = to;
        is = split fails step 0 turns left turns (l.size work.past) work (omega arith) (omega arith)
            ∙ idle fails step l.line l.does turns left to found.0;
        on = on;
        leaves = leaves_then work to to now next before waiting items middle after so_far found.1;
        reached = tt;
      }))

  -- the session ended with the next step, or an allocation failed before it
  pub ran_stopped : {turns : ℕ} {failed : Option (ℕ → Step)} {old now next : SessionState} {before waiting items : Output}
      {units middle after : TargetUnits} → Ran turns old now before waiting units middle → Runs (turn_of turns) failed false now next waiting items middle after
      → ((place k : ℕ) → k < turns → is_failed failed place (step_at l.kind k place) ≡ false) → ((work : Work) → Starts work now middle → 0 < l.count now)
      → Runs all_of failed false old next before items units after
  unfolding all_of
  ran_stopped {turns} {failed} {old} {now} {next} {before} {waiting} {items} {units} {middle} {after} ran turn none some =
      let r = turn_behind turns none ran.runs turn in
      runs_by (λ place fails work told s.
      (let step : ℕ → Step = λ turn. step_at l.kind turn place in
      let to = turns_of (suc turns) fails place work in
      let middle_work = turns_of turns no_failure place work in
      let so_far = ran.runs.leads place no_failure work (λ step of. refl) s in
      let on = ran.runs.ends place no_failure work (λ step of. refl) s in
      let more = some middle_work (starts_again work middle_work now before waiting middle so_far on) in
      let most = begins work old units s in
      let left = l.size work.past - suc turns in
      let off = r.ends place fails work told s in record {
        to = to;
        is = split fails step 0 (suc turns) left (suc turns) (l.size work.past) work (omega arith) (omega arith)
            ∙ stopped fails step l.line l.does (suc turns) left to off;
        on = off;
        leaves = r.leads place fails work told s;
        reached = r.reached place fails work told s;
      }))

  -- an allocation failed before the step of this turn
  pub ran_starved : {turns : ℕ} {old now : SessionState} {before : Output} {bytes : List ℕ} {orders : List (List ℕ)} {units after : TargetUnits}
      → Ran turns old now before (output bytes orders) units after → 0 < l.count now
      → ((past : Past) → Stands past now → (k : ℕ) × (others : List ℕ) × (l.line past ≡ k ∷ others))
      → Runs all_of (Some (step_at l.kind turns)) false old now before (output bytes orders) units after
  ran_starved {turns} {orders = orders} {after = after} ran some there =
      ran_stopped ran (first_stops l.kind turns l.line l.does refl there orders after)
      (λ place k lt. other_turn l.kind turns k place (λ e. absurd (omega arith))) (λ work s. some)

-- an allocation failed before the step of this kind and turn
pub stops_at : (kind : StepKind) (turn : ℕ) {is_kind : Step → Bool} {Leads : Option (ℕ → Step) → Type 0}
    → ((place : ℕ) → is_kind (step_at kind turn place) ≡ true) → Leads (Some (step_at kind turn)) → Stops is_kind Leads
stops_at kind turn of_kind leads = record { step = step_at kind turn; of_frame = same_place; of_kind = of_kind; leads = leads }

-- one of the steps that serve a frame, on units with these numbers
abbrev pub StopsServing : List ℕ → Run → SessionState → SessionState → Output → Output → Type 0
StopsServing luns run old new before items = Stops is_serving (λ failed. (units : TargetUnits) → luns ≡ numbers_of units.states
    → Runs run failed false old new before items units units)

-- ---- a frame is judged

pub judges : {v : Verdict} {frame : Frame} {old new : SessionState} {bytes items : List ℕ} {orders : List (List ℕ)}
    → ((past : Past) → Stands past old → v ≡ verdict past frame) → ((past : Past) → Stands past old → Stands (judged (verdict past frame) frame past) new)
    → ((past : Past) → Stands past old → items ≡ bytes ++ flat_map spelling (judged_answers (verdict past frame) past frame))
    → Judges v frame old new (output bytes orders) (output items orders)
judges is stands out = record { judged_is = is; stands = stands; out = out; orders = refl }

judge_leaves : (v : Verdict) (frame : Frame) (work : Work) (old new : SessionState) (before waiting : Output) (units : TargetUnits)
    → Judges v frame old new before waiting → Starts work old units
    → Leaves work (judge frame work) new before waiting units × ((judge frame work).goes_on ≡ not (violates v))
unfolding judge
judge_leaves v frame work old new before waiting units judges s = grind (arith, stands_of, judged_same, leaves_answering)

judged_runs : {v : Verdict} (frame : Frame) {old new : SessionState} {before waiting : Output} {units : TargetUnits} → Judges v frame old new before waiting
    → Runs (λ fails place. take_step fails (Judging place) (judge frame)) None (not (violates v)) old new before waiting units units
judged_runs {v} frame {old} {new} {before} {waiting} {units} judges =
    first_runs Judge 0 (λ past. 0 ∷ []) (λ k. judge frame) (λ work s.
    (let l = judge_leaves v frame work old new before waiting units judges s in (l.1, l.0)))

act_stopped : (fails : Step → Bool) (place : ℕ) (work : Work) → work.goes_on ≡ false → act_all fails place work ≡ work
unfolding act_all
act_stopped fails place work off = stopped fails (Taking place) due act 0 (waiting_in work.past) work off

abbrev taking_in : Frame → Run
taking_in frame fails place = taken_in fails place frame

-- an allocation failed before it
pub judging_stops : (luns : List ℕ) (frame : Frame) (old new : SessionState) (bytes items : List ℕ) (orders : List (List ℕ)) → new ≡ old → items ≡ bytes
    → StopsServing luns (taking_in frame) old new (output bytes orders) (output items orders)
unfolding taken_in
judging_stops luns frame old new bytes items orders same unchanged = stops_at Judge 0 (λ place. refl) (λ units numbers.
    rw same (runs_ended act_stopped (first_stops Judge 0 (λ past. 0 ∷ []) (λ k. judge frame) unchanged (λ past s. (0, [], refl)) orders units)))

-- the session ends with it
pub judging_ends : {v : Verdict} (frame : Frame) {old new : SessionState} {before waiting : Output} {units : TargetUnits}
    → Judges v frame old new before waiting → v ≡ Violating → Runs (taking_in frame) None false old new before waiting units units
unfolding taken_in
judging_ends frame {units = units} judges is = runs_ended act_stopped (rw is at (judged_runs frame {units = units} judges))

goes_on_by : (v : Verdict) → v ≢ Violating → not (violates v) ≡ true
goes_on_by Violating differ = absurd (differ refl)
goes_on_by _ differ = refl

-- the requests that are due act after it
pub taken_on : (v : Verdict) (frame : Frame) {failed : Option (ℕ → Step)} {goes_on : Bool} {old middle new : SessionState} {before waiting items : Output}
    {units : TargetUnits} → Judges v frame old middle before waiting → v ≢ Violating → ((place : ℕ) → is_failed failed place (Judging place) ≡ false)
    → Runs act_all failed goes_on middle new waiting items units units → Runs (taking_in frame) failed goes_on old new before items units units
unfolding taken_in
taken_on v frame {units = units} judges differ later acts =
    runs_then (λ place fails work told. judged_agrees fails no_failure place frame work (told (Judging place) (same_place place) ∙ later place))
    (rw (goes_on_by v differ) at (judged_runs frame {units = units} judges)) acts

pub taken_fails : (luns : List ℕ) (v : Verdict) (frame : Frame) {old middle new : SessionState} {before waiting items : Output}
    → Judges v frame old middle before waiting → v ≢ Violating
    → (turn : ℕ) × ((units : TargetUnits) → luns ≡ numbers_of units.states
    → Runs act_all (Some (λ place. Taking place turn)) false middle new waiting items units units) → StopsServing luns (taking_in frame) old new before items
taken_fails luns v frame judges differ acts =
    stops_at Take acts.0 (λ place. refl) (λ units numbers. taken_on v frame judges differ (λ place. refl) (acts.1 units numbers))

-- ---- a frame

asks_nothing : (fails : Step → Bool) (place : ℕ) (work : Work) → work.goes_on ≡ false → ask_due fails place work ≡ work
unfolding ask_due
asks_nothing fails place work off = first_stopped fails (Asking place) ask (asking work.past) work off

tells_nothing : (fails : Step → Bool) (place : ℕ) (work : Work) → work.goes_on ≡ false → tell_due fails place work ≡ work
unfolding tell_due
tells_nothing fails place work off = first_stopped fails (Answering place) tell (drained_functions work.past) work off

abbrev asking_in : Frame → Run
asking_in frame fails place = asked_in fails place frame

abbrev pub serving : Frame → Run
serving frame fails place = served fails place frame

module _ (frame : Frame) {failed : Option (ℕ → Step)} {old new : SessionState} {before items : Output} {units : TargetUnits} where
  pub taken_ended : Runs (taking_in frame) failed false old new before items units units → Runs (serving frame) failed false old new before items units units
  unfolding served asked_in
  taken_ended r = runs_ended tells_nothing (runs_ended asks_nothing r)

  pub asked_ended : Runs (asking_in frame) failed false old new before items units units → Runs (serving frame) failed false old new before items units units
  unfolding served
  asked_ended r = runs_ended tells_nothing r

  module _ {goes_on : Bool} {middle : SessionState} {waiting : Output} (judged : (place : ℕ) → is_failed failed place (Judging place) ≡ false)
      (acted : (place turn : ℕ) → is_failed failed place (Taking place turn) ≡ false) where
    pub asked_then : Runs (taking_in frame) None true old middle before waiting units units → Runs ask_due failed goes_on middle new waiting items units units
        → Runs (asking_in frame) failed goes_on old new before items units units
    unfolding asked_in
    asked_then = runs_then (λ place fails work told. taken_alike (λ units. units) (λ units. refl) fails no_failure place frame work
        (told (Judging place) (same_place place) ∙ judged place) (λ k. told (Taking place k) (same_place place) ∙ acted place k))

    pub told_then : ((place : ℕ) → is_failed failed place (Asking place) ≡ false) → Runs (asking_in frame) None true old middle before waiting units units
        → Runs tell_due failed goes_on middle new waiting items units units → Runs (serving frame) failed goes_on old new before items units units
    unfolding served
    told_then asked = runs_then (λ place fails work told. asked_alike (λ units. units) (λ units. refl) fails no_failure place frame work
        (told (Judging place) (same_place place) ∙ judged place) (λ k. told (Taking place k) (same_place place) ∙ acted place k)
        (told (Asking place) (same_place place) ∙ asked place))

-- an allocation failed before one of its first steps
pub taken_stops : (luns : List ℕ) (frame : Frame) (old new : SessionState) (before items : Output) → StopsServing luns (taking_in frame) old new before items
    → StopsServing luns (serving frame) old new before items
taken_stops luns frame old new before items stops = record {
  step = stops.step;
  of_frame = stops.of_frame;
  of_kind = stops.of_kind;
  leads = λ units numbers. taken_ended frame (stops.leads units numbers);
}

-- ---- an allocation failed after a frame was judged, whatever that was and whatever waited before

abbrev pub StopsJudged : List ℕ → SessionState → SessionState → List ℕ → List ℕ → List (List ℕ) → List (List ℕ) → Type 0
StopsJudged luns middle new waiting items orders after = (v : Verdict) (frame : Frame) (old : SessionState) (bytes : List ℕ)
    → Judges v frame old middle (output bytes orders) (output waiting orders) → v ≢ Violating
    → StopsServing luns (serving frame) old new (output bytes orders) (output items after)

module _ (luns : List ℕ) {middle new : SessionState} {waiting items : List ℕ} {orders after : List (List ℕ)} where
  pub act_stops : (turn : ℕ) × ((units : TargetUnits) → luns ≡ numbers_of units.states
      → Runs act_all (Some (λ place. Taking place turn)) false middle new (output waiting orders) (output items after) units units)
      → StopsJudged luns middle new waiting items orders after
  act_stops acts v frame old bytes judged on = taken_stops luns frame _ _ _ _ (taken_fails luns v frame judged on acts)

  module _ {acted : SessionState} {sent : List ℕ}
      (acts : (units : TargetUnits) → luns ≡ numbers_of units.states
      → Runs act_all None true middle acted (output waiting orders) (output sent after) units units) where
    pub ask_stops : ((ordered : List (List ℕ)) (units : TargetUnits)
        → Runs ask_due (Some (λ place. Asking place)) false acted new (output sent ordered) (output items ordered) units units)
        → StopsJudged luns middle new waiting items orders after
    ask_stops asks v frame old bytes judged on = stops_at Ask 0 (λ place. refl) (λ units numbers.
        asked_ended frame (asked_then frame (λ place. refl) (λ place turn. refl)
        (taken_on v frame judged on (λ place. refl) (acts units numbers)) (asks after units)))

    pub tell_stops : {asked : SessionState} {told : List ℕ} → ((ordered : List (List ℕ)) (units : TargetUnits)
        → Runs ask_due None true acted asked (output sent ordered) (output told ordered) units units)
        → ((ordered : List (List ℕ)) (units : TargetUnits)
        → Runs tell_due (Some (λ place. Answering place)) false asked new (output told ordered) (output items ordered) units units)
        → StopsJudged luns middle new waiting items orders after
    tell_stops asks tells v frame old bytes judged on = stops_at Tell 0 (λ place. refl) (λ units numbers.
        told_then frame (λ place. refl) (λ place turn. refl) (λ place. refl) (asked_then frame (λ place. refl) (λ place turn. refl)
        (taken_on v frame judged on (λ place. refl) (acts units numbers)) (asks after units)) (tells after units))
