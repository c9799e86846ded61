-- Steps one after the other: where the code is after so many, and where it stops.
use Rattle.std.proofs.Common.{◌≡◌, ◌≢◌, ℕ, zero, suc, ◌+◌, ◌<◌, List, [], ◌∷◌, ◌++◌, length, Bool, true, false, Option, refl, sym, ap, ◌∙◌, ◌==◌, subst, arith, append_assoc, append-nil, None}
use Rattle.std.specs.Prelude.{All, flat_map}
use Rattle.std.proofs.lemmas.Bool.{eq-eqb, ne_eqb}
use Rattle.std.proofs.lemmas.List.{length-append}
use Rattle.std.proofs.lemmas.List.Concat.{flat_map-append}
use Rattle.std.proofs.lemmas.List.Elements.{filter-append}
use Rattle.iscsi_session.specs.Comings.{TargetUnits}
use Rattle.iscsi_pdu.specs.Answer.{spelling}
use Rattle.iscsi_pdu.specs.declared.answer.Answer.{Answer}
use Rattle.iscsi_requests.specs.Requests.{Past, DataOut, SentR2t, due, queue, unfinished, functions, bearing, statuses, answering}
use Rattle.iscsi_requests.specs.State.{SessionState, IsLawful, Stands, waiting, standing, tasks_of}
use Rattle.iscsi_session.specs.Steps.{StepKind, Step, step_at, kind_number, is_step, Work, reaches, take_step, first_steps, one_by_one}
use Rattle.iscsi_session.specs.Runs.{Output, output, Starts, Leaves, FailsAs, IsReached, Runs}

-- ---- a session that was answered more, or has more data

pub lawful_data : (past : Past) (data_outs : List DataOut) (r2ts : List SentR2t) (answers : List Answer) → IsLawful past
    → All (λ d. d.command < length past.came) data_outs → All (λ r. r.command < length past.came) r2ts
    → IsLawful (record past { data_outs = data_outs; r2ts = r2ts; answers = answers })
unfolding due queue unfinished functions
lawful_data past data_outs r2ts answers lawful fed asked = grind arith

pub lawful_answering : (more : List Answer) (past : Past) → IsLawful past → IsLawful (answering more past)
lawful_answering more past lawful = lawful_data past past.data_outs past.r2ts (past.answers ++ more) lawful lawful.fed lawful.asked

pub statuses_answering : (more : List Answer) (past : Past) → statuses (answering more past) ≡ statuses past + bearing more
statuses_answering more past = grind (arith, filter-append, length-append)

pub tasks_answering : (more : List Answer) (past : Past) → tasks_of (answering more past) ≡ tasks_of past
unfolding tasks_of due queue standing
tasks_answering more past = refl

-- ---- where the code stands

pub stands_of : (work : Work) (state : SessionState) (units : TargetUnits) → Starts work state units → Stands work.past state
stands_of work state units s = record { lawful = s.lawful; remembered = s.remembered }

pub starts_again : (given work : Work) (state : SessionState) (before waiting : Output) (units : TargetUnits) → Leaves given work state before waiting units
    → work.goes_on ≡ true → Starts work state units
starts_again given work state before waiting units l goes_on = record { lawful = l.lawful; remembered = l.remembered; units = l.units; goes_on = goes_on }

-- the same session, whatever was reached
pub starts_reaching : (step : Step) (work : Work) (state : SessionState) (units : TargetUnits) → Starts work state units
    → Starts (reaches step work) state units
starts_reaching step work state units s = record { lawful = s.lawful; remembered = s.remembered; units = s.units; goes_on = s.goes_on }

pub leaves_nothing : (work : Work) (state : SessionState) (before : Output) (units : TargetUnits) → Starts work state units
    → Leaves work work state before before units
leaves_nothing work state before units s =
    grind (arith, append-nil work.past.answers, append-nil before.bytes, append-nil work.orders, append-nil before.orders)

-- twice after it
behind_both : {A : Type 0} (l before waiting a b : List A) → waiting ≡ before ++ a → l ≡ waiting ++ b → l ≡ before ++ (a ++ b)
behind_both {A} l before waiting a b first then_ = then_ ∙ ap (λ (x : List A). x ++ b) first ∙ append_assoc before a b

pub leaves_then : (given work next : Work) (state after : SessionState) (before waiting items : Output) (units units_after : TargetUnits)
    → Leaves given work state before waiting units → Leaves work next after waiting items units_after
    → Leaves given next after before items units_after
leaves_then given work next state after before waiting items units units_after a b = record {
  lawful = b.lawful;
  remembered = b.remembered;
  units = b.units;
  params = b.params ∙ a.params;
  more = a.more ++ b.more;
  answers = behind_both next.past.answers given.past.answers work.past.answers a.more b.more a.answers b.answers;
  spelled = grind (arith, behind_both, flat_map-append);
  functions = a.functions ++ b.functions;
  acted = behind_both next.orders given.orders work.orders a.functions b.functions a.acted b.acted;
  ordered = behind_both items.orders before.orders waiting.orders a.functions b.functions a.ordered b.ordered;
}

-- a step that answers this much, and orders nothing
pub leaves_answering : (given work : Work) (state : SessionState) (before waiting : Output) (units : TargetUnits) (more : List Answer)
    → Stands work.past state → work.past.params ≡ given.past.params → work.past.answers ≡ given.past.answers ++ more
    → waiting.bytes ≡ before.bytes ++ flat_map spelling more → waiting.orders ≡ before.orders → work.orders ≡ given.orders → work.units ≡ units
    → Leaves given work state before waiting units
leaves_answering given work state before waiting units more s params answers spelled ordered acted same = grind (arith, append-nil)

-- the same, but for the steps that were reached and whether it goes on
pub leaves_as : (given work given_too work_too : Work) (state : SessionState) (before waiting : Output) (units : TargetUnits)
    → given_too.past ≡ given.past → given_too.orders ≡ given.orders → work_too.past ≡ work.past → work_too.orders ≡ work.orders
    → work_too.units ≡ work.units → Leaves given work state before waiting units → Leaves given_too work_too state before waiting units
leaves_as given work given_too work_too state before waiting units g go w wo u l = grind arith

pub leaves_reaching : (step : Step) (work next : Work) (state : SessionState) (before waiting : Output) (units : TargetUnits)
    → Leaves (reaches step work) next state before waiting units → Leaves work next state before waiting units
leaves_reaching step work next state before waiting units l = grind (arith, leaves_as)

pub leaves_stopped : (step : Step) (given work : Work) (state : SessionState) (before waiting : Output) (units : TargetUnits)
    → Leaves given work state before waiting units → Leaves given (record (reaches step work) { goes_on = false }) state before waiting units
leaves_stopped step given work state before waiting units l = grind (arith, leaves_as)

-- ---- more waits after what did

pub same_output : (bytes bytes_too : List ℕ) (orders orders_too : List (List ℕ)) → bytes ≡ bytes_too → orders ≡ orders_too
    → output bytes orders ≡ output bytes_too orders_too
same_output bytes bytes_too orders orders_too e f = rw (e, f) refl

pub grows_none : (before : List ℕ) → (more : List ℕ) × (before ≡ before ++ more)
grows_none before = ([], sym (append-nil before))

pub grows_then : (before waiting items : List ℕ) → (more : List ℕ) × (waiting ≡ before ++ more) → (more : List ℕ) × (items ≡ waiting ++ more)
    → (more : List ℕ) × (items ≡ before ++ more)
grows_then before waiting items a b = (a.0 ++ b.0, b.1 ∙ ap (λ (l : List ℕ). l ++ b.0) a.1 ∙ append_assoc before a.0 b.0)

-- ---- one step

abbrev pub Run : Type 0
Run = (Step → Bool) → ℕ → Work → Work

pub step_done : (fails : Step → Bool) (step : Step) (does : Work → Work) (work : Work) → work.goes_on ≡ true → fails step ≡ false
    → take_step fails step does work ≡ does (reaches step work)
unfolding take_step
step_done fails step does work on un = rw (on, un) refl

pub step_fails : (fails : Step → Bool) (step : Step) (does : Work → Work) (work : Work) → work.goes_on ≡ true → fails step ≡ true
    → take_step fails step does work ≡ record (reaches step work) { goes_on = false }
unfolding take_step
step_fails fails step does work on un = rw (on, un) refl

-- ---- where a run leads

pub record LeadsTo (run : Run) (failed : Option (ℕ → Step)) (goes_on : Bool) (new : SessionState) (before waiting : Output) (after : TargetUnits)
    (place : ℕ) (fails : Step → Bool) (work : Work) : Type 0 where
  pub to : Work
  pub is : run fails place work ≡ to
  pub on : to.goes_on ≡ goes_on
  pub leaves : Leaves work to new before waiting after
  pub reached : IsReached failed place to

pub runs_by : {run : Run} {failed : Option (ℕ → Step)} {goes_on : Bool} {old new : SessionState} {before waiting : Output} {units after : TargetUnits}
    → ((place : ℕ) (fails : Step → Bool) (work : Work) → FailsAs failed place fails → Starts work old units
    → LeadsTo run failed goes_on new before waiting after place fails work) → Runs run failed goes_on old new before waiting units after
runs_by {run} {failed} {goes_on} {old} {new} {before} {waiting} {units} {after} there = record {
  leads = λ place fails work told s.
      (let t = there place fails work told s in subst (λ (v : Work). Leaves work v new before waiting after) (sym t.is) t.leaves);
  ends = λ place fails work told s. (let t = there place fails work told s in ap (λ (v : Work). v.goes_on) t.is ∙ t.on);
  reached = λ place fails work told s. (let t = there place fails work told s in subst (λ (v : Work). IsReached failed place v) (sym t.is) t.reached);
}

-- ---- a line that is empty, and a session that does not go on

pub first_stopped : (fails : Step → Bool) (step : Step) (does : ℕ → Work → Work) (requests : List ℕ) (work : Work) → work.goes_on ≡ false
    → first_steps fails step does requests work ≡ work
unfolding take_step
first_stopped fails step does [] work off = refl
first_stopped fails step does (request ∷ others) work off = rw off refl

pub stopped : (fails : Step → Bool) (step : ℕ → Step) (line : Past → List ℕ) (does : ℕ → Work → Work) (turn most : ℕ) (work : Work) → work.goes_on ≡ false
    → one_by_one fails step line does turn most work ≡ work
stopped fails step line does turn zero work off = refl
stopped fails step line does turn (suc most) work off = grind (arith, stopped fails step line does (suc turn) most work off, first_stopped)

pub idle : (fails : Step → Bool) (step : ℕ → Step) (line : Past → List ℕ) (does : ℕ → Work → Work) (turn most : ℕ) (work : Work) → line work.past ≡ []
    → one_by_one fails step line does turn most work ≡ work
idle fails step line does turn zero work none = refl
idle fails step line does turn (suc most) work none = grind (arith, idle fails step line does (suc turn) most work none)

-- ---- one after the other

pub same_place : (place : ℕ) → (place == place) ≡ true
same_place place = eq-eqb place place refl

pub same_step : (kind : StepKind) (turn place : ℕ) → is_step (step_at kind turn place) (step_at kind turn place) ≡ true
same_step kind turn place = rw (same_place (kind_number kind), same_place turn, same_place place) refl

pub other_turn : (kind : StepKind) (turn other place : ℕ) → turn ≢ other → is_step (step_at kind turn place) (step_at kind other place) ≡ false
other_turn kind turn other place differ = rw (same_place (kind_number kind), ne_eqb turn other differ) refl

-- ---- the same by another name

pub runs_as : {run all : Run} {failed : Option (ℕ → Step)} {goes_on : Bool} {old new : SessionState} {before waiting : Output} {units after : TargetUnits}
    → ((fails : Step → Bool) (place : ℕ) (work : Work) → all fails place work ≡ run fails place work)
    → Runs all failed goes_on old new before waiting units after → Runs run failed goes_on old new before waiting units after
runs_as {run} {all} same r = grind arith

-- ---- one run after another

abbrev pub no_failure : Step → Bool
no_failure step = false

pub runs_then : {first second : Run} {failed : Option (ℕ → Step)} {goes_on : Bool} {old middle new : SessionState} {before waiting items : Output}
    {units between after : TargetUnits}
    → ((place : ℕ) (fails : Step → Bool) (work : Work) → FailsAs failed place fails → first fails place work ≡ first no_failure place work)
    → Runs first None true old middle before waiting units between → Runs second failed goes_on middle new waiting items between after
    → Runs (λ fails place work. second fails place (first fails place work)) failed goes_on old new before items units after
runs_then {first} {second} {failed} {goes_on} {old} {middle} {new} {before} {waiting} {items} {units} {between} {after} same a b =
    runs_by (λ place fails work told s.
    (let none : FailsAs None place no_failure = λ step of. refl in
    let next = first no_failure place work in
    let l = a.leads place no_failure work none s in
    let starts = starts_again work next middle before waiting between l (a.ends place no_failure work none s) in record {
      to = second fails place next;
      is = ap (second fails place) (same place fails work told);
      on = b.ends place fails next told starts;
      leaves = leaves_then work next (second fails place next) middle new before waiting items between after l (b.leads place fails next told starts);
      reached = b.reached place fails next told starts;
    }))

-- the session has ended before it
pub runs_ended : {first second : Run} {failed : Option (ℕ → Step)} {old new : SessionState} {before waiting : Output} {units : TargetUnits}
    → ((fails : Step → Bool) (place : ℕ) (work : Work) → work.goes_on ≡ false → second fails place work ≡ work)
    → Runs first failed false old new before waiting units units
    → Runs (λ fails place work. second fails place (first fails place work)) failed false old new before waiting units units
runs_ended {first} stops a = runs_by (λ place fails work told s. record {
  to = first fails place work;
  is = stops fails place (first fails place work) (a.ends place fails work told s);
  on = a.ends place fails work told s;
  leaves = a.leads place fails work told s;
  reached = a.reached place fails work told s;
})
