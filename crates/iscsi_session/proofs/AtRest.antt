-- Sessions between two frames: how many requests they hold, and what the calls on them add.
use Rattle.std.proofs.Common.{◌≡◌, ℕ, zero, suc, ◌+◌, ◌*◌, ◌≤◌, List, [], ◌∷◌, length, Bool, true, false, cond, not, refl, arith, ◌-◌, ◌<◌, ◌==◌, Option, None, Result, Ok, Err, sym, ap, subst, ◌∙◌}
use Rattle.iscsi_pdu.specs.Header.{header_length, is_immediate}
use Rattle.iscsi_pdu.specs.Frames.{Frame}
use Rattle.iscsi_requests.specs.Requests.{Past, due, begun, frame_of, request_at, is_command, is_in, left, commands, others, numbers, numbered, held, queue, unfinished, pending as awaiting, functions, finished, removing, stamp, counted, over, taken, place_of}
use Rattle.iscsi_requests.specs.Functions.{drained_functions, FunctionReach, reached}
use Rattle.iscsi_requests.specs.Transfers.{asking}
use Rattle.iscsi_session.specs.Steps.{Step, Judging, Taking, Asking, Answering, Work, reaches, take_step, judge, act, ask, tell, first_steps, one_by_one, waiting_in, act_all, ask_due, tell_due, taken_in, asked_in, served, begun_work, answered_command, is_serving}
use Rattle.iscsi_session.specs.Weight.{request_weight, IsWithinLimits, open_requests, IsAtRest, Eases, Loads}
use Rattle.iscsi_session.proofs.Holding.{pending_in, fewer_still, filter_fewer, waits_in, pending_is, pending_finished, pending_removing, immediate_of, immediate_less}
use Rattle.iscsi_session.proofs.Added.{Adds, adds_none, adds_then, adds_less, judge_adds, act_adds, ask_adds, tell_adds, same_answering, spelled_more, removed_immediate}
use Rattle.std.specs.Prelude.{filter, flat_map, is_some, IfOk, OnErr}
use Rattle.std.specs.List.{range_with_len}
use Rattle.std.proofs.lemmas.Bool.{eq-eqb, ne_eqb, cases_eq, or_right}
use Rattle.std.proofs.lemmas.List.{length-append, length-map}
use Rattle.std.proofs.lemmas.List.Elements.{All-filter}
use Rattle.std.proofs.lemmas.List.Filters.{length-filter_both}
use Rattle.iscsi_pdu.specs.Answer.{spelling}
use Rattle.iscsi_pdu.specs.declared.answer.Answer.{Answer}
use Rattle.iscsi_order.specs.Window as order
use Rattle.iscsi_order.specs.Window.{window, taken as taken_numbers}
use Rattle.scsi_sense.specs.Done.{Outcome}
use Rattle.scsi_unit.specs.DiskCommands.{most_given}
use Rattle.scsi_unit.specs.Units.{numbers_of}
use Rattle.iscsi_session.specs.Comings.{TargetUnits}
use Rattle.iscsi_login.specs.Values.{AreInRange}
use Rattle.iscsi_login.specs.declared.session_params.SessionParams.{SessionParams}
use Rattle.iscsi_answers.specs.Answers.{command_answers}
use Rattle.iscsi_requests.specs.State.{SessionState, AreDistinct, IsLawful, Stands, remembered}
use Rattle.iscsi_session.specs.Runs.{Output, Starts, is_failed, Runs, Stops, AnswersAs}
use Rattle.iscsi_session.proofs.Answered.{none_due, queue_first}
use Rattle.iscsi_requests.proofs.Left.{filter_cong, in_at, in_left_back, distinct_filter, distinct_left, passes_in, below_of, in_filter, in_filter_back, distinct_front}
use Rattle.iscsi_session.proofs.Kept.{unfinished_without, queue_unfinished, functions_without, functions_distinct, functions_below, command_not_pending, Below}
use Rattle.iscsi_session.proofs.Moved.{lawful_finished, is_done}
use Rattle.iscsi_session.proofs.Telling.{pending_finished as waits_finished}
use Rattle.iscsi_order.proofs.Standing.{front_within}
use Rattle.iscsi_session.proofs.Accepted.{begun_lawful, handed_is, counted_append, in_queue}
use Rattle.iscsi_session.proofs.Over.{split, acted_counted, due_as}
use Rattle.iscsi_session.proofs.Runs.{lawful_answering}
use Rattle.iscsi_session.proofs.Taken.{distinct_taken}
use Rattle.iscsi_session.proofs.Room.{command_long}

-- ---- one after the other

step_by : (on fail : Bool) (n i : ℕ) (step : Step) (does : Work → Work) (work : Work) → IsWithinLimits work.past
    → Adds n i work.past (does (reaches step work)).past
    → Adds n i work.past (cond (not on) work (cond fail (record (reaches step work) { goes_on = false }) (does (reaches step work)))).past
step_by false fail n i step does work w next = adds_none n i work.past w
step_by true true n i step does work w next = adds_none n i work.past w
step_by true false n i step does work w next = next

step_adds : (n i : ℕ) (fails : Step → Bool) (step : Step) (does : Work → Work) (work : Work) → IsWithinLimits work.past
    → Adds n i work.past (does (reaches step work)).past → Adds n i work.past (take_step fails step does work).past
unfolding take_step
step_adds n i fails step does work w next = step_by work.goes_on (fails step) n i step does work w next

abbrev AddsLittle : (Past → List ℕ) → (ℕ → Work → Work) → Type 0
AddsLittle line does = (work : Work) (k : ℕ) (rest : List ℕ) → line work.past ≡ k ∷ rest → IsWithinLimits work.past → Adds 48 0 work.past (does k work).past

first_adds : (n : ℕ) (fails : Step → Bool) (step : Step) (line : Past → List ℕ) (does : ℕ → Work → Work) (l : List ℕ) (work : Work) → line work.past ≡ l
    → ((k : ℕ) (rest : List ℕ) → line work.past ≡ k ∷ rest → Adds n 0 work.past (does k (reaches step work)).past) → IsWithinLimits work.past
    → Adds n 0 work.past (first_steps fails step does l work).past
first_adds n fails step line does [] work is little w = adds_none n 0 work.past w
first_adds n fails step line does (k ∷ rest) work is little w = step_adds n 0 fails step (does k) work w (little k rest is)

all_add : (fails : Step → Bool) (step : ℕ → Step) (line : Past → List ℕ) (does : ℕ → Work → Work) (turn most : ℕ) (work : Work) → AddsLittle line does
    → IsWithinLimits work.past → Adds (most * 48) 0 work.past (one_by_one fails step line does turn most work).past
all_add fails step line does turn zero work little w = adds_none (0 * 48) 0 work.past w
all_add fails step line does turn (suc most) work little w =
    let next = first_steps fails (step turn) does (line work.past) work in
    let one = first_adds 48 fails (step turn) line does (line work.past) work refl (λ k rest is. little (reaches (step turn) work) k rest is w) w in
    let others = all_add fails step line does (suc turn) most next little one.within in
    adds_less (48 + most * 48) (suc most * 48) (0 + 0) 0 work.past _ (omega arith) (omega arith)
    (adds_then 48 (most * 48) 0 0 work.past next.past _ one others)

pub served_adds : (fails : Step → Bool) (place : ℕ) (frame : Frame) (work : Work) → length frame.header ≡ header_length
    → AreInRange work.past.params.values → IsWithinLimits work.past → pending_in work.past ≤ 40
    → Adds (2 * request_weight) 1 work.past (served fails place frame work).past
unfolding served asked_in taken_in act_all ask_due tell_due
served_adds fails place frame work whole range w few =
    let judging = take_step fails (Judging place) (judge frame) work in
    let first = step_adds (request_weight + 99) 1 fails (Judging place) (judge frame) work w (judge_adds frame (reaches (Judging place) work) whole w) in
    let fuel = waiting_in judging.past in
    let acts = one_by_one fails (Taking place) due act 0 fuel judging in
    let second = all_add fails (Taking place) due act 0 fuel judging act_adds first.within in
    let so_far = adds_then (request_weight + 99) (fuel * 48) 1 0 work.past judging.past acts.past first second in
    let same : AreInRange acts.past.params.values = subst (λ (p : SessionParams). AreInRange p.values) (sym so_far.params) range in
    let third = first_adds 98304 fails (Asking place) asking ask (asking acts.past) acts refl
    (λ k rest is. ask_adds (reaches (Asking place) acts) k rest is same second.within) second.within in
    let asks = first_steps fails (Asking place) ask (asking acts.past) acts in
    let fourth = first_adds 48 fails (Answering place) drained_functions tell (drained_functions asks.past) asks refl
    (λ k rest is. tell_adds (reaches (Answering place) asks) k rest is third.within) third.within in
    grind (arith, adds_then, adds_less)

-- ---- how many are pending

-- of numbers below a limit
few_below : (p : ℕ → Bool) (limit a n : ℕ) → ((k : ℕ) → p k ≡ true → k < limit) → length (filter p (range_with_len a n)) ≤ limit - a
few_below p limit a zero below = omega arith
few_below p limit a (suc n) below = grind (arith, few_below p limit (a + 1) n below)

held_few : (past : Past) → IsLawful past → length (held past) ≤ (numbers past).finished + window - (numbers past).handed
unfolding held
held_few past lawful =
    let come : ℕ → Bool = order.has_come (numbered past.came) in
    omega (
      arith,
      length-map (filter come (range_with_len (numbers past).handed window)) (place_of past.came),
      few_below come ((numbers past).finished + window) (numbers past).handed window (λ k h. lawful.window.within k h),
    )

one_out : (k : ℕ) (names : List ℕ) → is_in k names ≡ true → length (left (k ∷ []) names) + 1 ≤ length names
unfolding left
one_out k [] e = absurd cc
one_out k (x ∷ names) e = grind (arith, one_out k names, cases_eq, filter_fewer, eq-eqb, ne_eqb)

few_distinct : (some all : List ℕ) → AreDistinct some → ((k : ℕ) → is_in k some ≡ true → is_in k all ≡ true) → length some ≤ length all
few_distinct [] all distinct within = omega arith
few_distinct (k ∷ some) all distinct within =
    let there = within k (rw (eq-eqb k k refl) refl) in
    let fewer = few_distinct some (left (k ∷ []) all) distinct.1 (λ j h. in_left_back j (k ∷ []) all (within j (behind j h)) (apart j h)) in
    omega (arith, fewer, one_out k all there)
  where
    behind : (j : ℕ) → is_in j some ≡ true → is_in j (k ∷ some) ≡ true
    behind j h = or_right (k == j) (is_in j some) h

    apart : (j : ℕ) → is_in j some ≡ true → is_in j (k ∷ []) ≡ false
    apart j h = grind arith

-- those that wait are not over
done_counted : (past : Past) → IsLawful past
    → counted past.came (left (awaiting past) past.finished) + counted past.came (filter (waits_in past) (functions past)) ≤ counted past.came past.finished
unfolding left
done_counted past lawful =
    let open_still = filter (waits_in past) (functions past) in
    let kept = filter (λ k. not (not (waits_in past k))) past.finished in
    let numbered_too : ℕ → Bool = λ k. is_some (request_at past.came k).number in
    omega (
      arith,
      split (λ k. not (waits_in past k)) past.came past.finished,
      few_distinct (filter numbered_too open_still) (filter numbered_too kept)
          (distinct_filter numbered_too open_still (distinct_filter (waits_in past) (functions past) (functions_distinct past)))
          (λ k h. among k (in_filter k numbered_too open_still h) (passes_in k numbered_too open_still h)),
    )
  where
    among : (k : ℕ) → is_in k (filter (waits_in past) (functions past)) ≡ true → is_some (request_at past.came k).number ≡ true
        → is_in k (filter (λ j. is_some (request_at past.came j).number) (filter (λ j. not (not (waits_in past j))) past.finished)) ≡ true
    among k there has = grind (arith, in_filter_back, passes_in, waits_finished)

-- with those that are over, the queue and the functions that wait have all that are taken, where none is due
taken_counted : (past : Past) → IsLawful past → due past ≡ []
    → counted past.came (over past) + counted past.came (queue past) + counted past.came (filter (waits_in past) (functions past)) ≤ (numbers past).handed
taken_counted past lawful idle =
    let came = past.came in
    let a = split (λ k. is_command (frame_of came k)) came past.finished in
    let b = acted_counted past lawful.removed_commands in
    let c : counted came (commands came past.finished) + counted came (queue past) ≡ counted came (left past.removed (commands came past.acted)) = sym
    (counted_append came (commands came past.finished) (queue past)) ∙ ap (counted came) lawful.queued in
    let d : counted came (others came past.finished) ≡ counted came (others came past.acted) = ap (counted came) lawful.at_once in
    let e : counted came (taken came) ≡ counted came past.acted + counted came (due past) = grind (arith, counted_append) in
    let f = counted_append came (left (awaiting past) past.finished) (filter (λ k. is_in k past.removed) past.acted) in
    let g = done_counted past lawful in
    omega arith

queue_came : (past : Past) → IsLawful past → (k : ℕ) → is_in k (queue past) ≡ true → k < length past.came
queue_came past lawful k e = below_of (length past.came) k past.acted lawful.below (in_queue past lawful k e)

queue_distinct : (past : Past) → IsLawful past → AreDistinct (queue past)
unfolding queue
queue_distinct past lawful = grind (arith, distinct_left, distinct_filter, distinct_front, distinct_taken)

-- those of the queue that are for immediate delivery are among all that are not finished
queue_immediate : (past : Past) (q : ℕ → Bool) → IsLawful past → length (filter q (queue past)) ≤ length (filter q (unfinished past))
queue_immediate past q lawful = grind (arith, few_distinct, distinct_filter, queue_distinct, in_filter_back, queue_unfinished, in_filter, passes_in)

-- of requests that came, those with a number and those for immediate delivery
both_kinds : (past : Past) (names : List ℕ) → IsLawful past → Below past names
    → length names ≡ counted past.came names + length (filter (λ k. is_immediate (frame_of past.came k).header) names)
both_kinds past names lawful below =
    let p : ℕ → Bool = λ k. is_some (request_at past.came k).number in
    let q : ℕ → Bool = λ k. not (p k) in
    let both : length (filter p names) + length (filter q names) ≡ length names = length-filter_both p q (λ k. refl) names in
    let same : filter q names ≡ filter (λ k. is_immediate (frame_of past.came k).header) names = grind (arith, filter_cong, flipped) in
    omega (arith, both, ap (λ (l : List ℕ). length l) same)
  where
    flipped : (a b : Bool) → a ≡ not b → not a ≡ b
    flipped a b e = grind arith

pub rest_few : (past : Past) → IsWithinLimits past → due past ≡ [] → pending_in past ≤ 40
rest_few past w idle =
    let imm : ℕ → Bool = λ k. is_immediate (frame_of past.came k).header in
    let few = w.few in
    let none : length (due past) ≡ 0 = ap (λ (l : List ℕ). length l) idle in
    omega (
      arith,
      held_few past w.lawful,
      taken_counted past w.lawful idle,
      both_kinds past (queue past) w.lawful (λ i d lt. queue_came past w.lawful _ (in_at (queue past) i d lt)),
      both_kinds past (filter (waits_in past) (functions past)) w.lawful
          (All-filter (waits_in past) (λ k. k < length past.came) (functions past) (functions_below past)),
      queue_immediate past imm w.lawful,
      fewer_still (waits_in past) imm (functions past),
      front_within (numbers past) w.lawful.window,
      handed_is past,
      none,
      few,
    )

-- ---- the state

rest_pending : (past : Past) (state : SessionState) → Stands past state → open_requests state ≡ pending_in past
rest_pending past state s = ap open_requests s.remembered ∙ pending_is past s.lawful

stands_at_rest : (state : SessionState) (r : IsAtRest state) → Stands r.past state
stands_at_rest state r = record { lawful = r.within.lawful; remembered = r.remembered }

pub few_pending : (state : SessionState) → IsAtRest state → open_requests state ≤ 40
few_pending state r = omega (arith, rest_few r.past r.within r.idle, rest_pending r.past state (stands_at_rest state r))

-- a session at its beginning
pub begun_rests : (params : SessionParams) → IsAtRest (remembered (begun params))
unfolding due left taken unfinished functions
begun_rests params = grind (arith, begun_lawful params)

-- ---- a command is done

finished_immediate : (past : Past) (k : ℕ) (others : List ℕ) → queue past ≡ k ∷ others → IsLawful past → immediate_of (finished k past) ≤ immediate_of past
finished_immediate past k others is lawful = grind (arith, immediate_less, unfinished_without, functions_without, command_not_pending, is_done)

done_within : (past : Past) (k : ℕ) (others : List ℕ) (done : Outcome) → queue past ≡ k ∷ others → IsWithinLimits past
    → IsWithinLimits (answered_command done k past)
done_within past k others done is w =
    let more = command_answers (stamp (finished k past)) past.params.values (frame_of past.came k) done in
    let few = w.few in
    record {
      lawful = lawful_answering more (finished k past) (lawful_finished past w.lawful k others is);
      headers = w.headers;
      few = omega (arith, few, (same_answering more (finished k past)).1, finished_immediate past k others is w.lawful);
    }

pub done_eases : (old new : SessionState) (frame : Frame) (rest : List Frame) (done : Outcome) (before waiting : List ℕ) → old.tasks.queue ≡ frame ∷ rest
    → AreInRange old.params.values → length done.given ≤ most_given
    → ((past : Past) (k : ℕ) (others : List ℕ) → Stands past old → queue past ≡ k ∷ others → AnswersAs done k past new before waiting)
    → IsAtRest old → Eases old new before waiting
done_eases old new frame rest done before waiting is range given answers r =
    let past = r.past in
    let s = stands_at_rest old r in
    let found = queue_first past old frame rest s is in
    let k = found.0 in
    let more = command_answers (stamp (finished k past)) past.params.values (frame_of past.came k) done in
    let all = answers past k found.1 s found.2 in
    let after = all.stands in
    let in_range : AreInRange past.params.values = subst (λ (x : SessionState). AreInRange x.params.values) r.remembered range in
    record {
      rests = record {
        past = answered_command done k past;
        within = done_within past k found.1 done found.2 r.within;
        idle = due_as past (answered_command done k past) refl refl ∙ r.idle;
        remembered = after.remembered;
      };
      lighter = omega (
        arith,
        ap (λ (l : List ℕ). length l) all.out,
        length-append before (flat_map spelling more),
        command_long (stamp (finished k past)) past.params.values (frame_of past.came k) done in_range given,
        rest_pending past old s,
        rest_pending (answered_command done k past) new after,
        (same_answering more (finished k past)).0,
        pending_finished past k found.1 r.within.lawful found.2,
      );
    }

pub eases_none : (old : SessionState) (before : List ℕ) → IsAtRest old → Eases old old before before
eases_none old before r = record { rests = r; lighter = omega arith }

pub eases_then : (old middle new : SessionState) (before waiting items : List ℕ) → Eases old middle before waiting → Eases middle new waiting items
    → Eases old new before items
eases_then old middle new before waiting items a b = grind arith

-- ---- commands are removed

pub removing_eases : (reach : FunctionReach) (old new : SessionState) (waiting : List ℕ)
    → ((past : Past) → Stands past old → Stands (removing (reached reach past) past) new) → IsAtRest old → Eases old new waiting waiting
removing_eases reach old new waiting stands r =
    let past = r.past in
    let names = reached reach past in
    let s = stands_at_rest old r in
    let after = stands past s in
    let few = r.within.few in
    record {
      rests = record {
        past = removing names past;
        within = record {
          lawful = after.lawful;
          headers = r.within.headers;
          few = omega (arith, few, removed_immediate past names);
        };
        idle = due_as past (removing names past) refl refl ∙ r.idle;
        remembered = after.remembered;
      };
      lighter = omega (
        arith,
        rest_pending past old s,
        rest_pending (removing names past) new after,
        pending_removing past names,
      );
    }

-- ---- a frame

run_loads : (frame : Frame) (failed : Option (ℕ → Step)) (goes_on : Bool) (old new : SessionState) (before waiting : Output) (units : TargetUnits)
    → Runs (λ fails place. served fails place frame) failed goes_on old new before waiting units units → length frame.header ≡ header_length
    → (goes_on ≡ true → new.tasks.due ≡ []) → AreInRange old.params.values → IsAtRest old → Loads goes_on old new before.bytes waiting.bytes
run_loads frame failed goes_on old new before waiting units runs whole idle range r =
    let past = r.past in
    let work = begun_work past units in
    let fails : Step → Bool = is_failed failed 0 in
    let starts : Starts work old units = record { lawful = r.within.lawful; remembered = r.remembered; units = refl; goes_on = refl } in
    let leaves = runs.leads 0 fails work (λ step of. refl) starts in
    let few = rest_few past r.within r.idle in
    let after = (served fails 0 frame work).past in
    let s : Stands after new = record { lawful = leaves.lawful; remembered = leaves.remembered } in
    let in_range : AreInRange past.params.values = subst (λ (x : SessionState). AreInRange x.params.values) r.remembered range in
    let adds = served_adds fails 0 frame work whole in_range r.within few in
    let added = adds.added in
    record {
      rests = grind (arith, none_due);
      heavier = omega (
        arith,
        added,
        ap (λ (l : List Answer). length (flat_map spelling l)) leaves.answers,
        spelled_more past.answers leaves.more,
        ap (λ (l : List ℕ). length l) leaves.spelled,
        length-append before.bytes (flat_map spelling leaves.more),
        rest_pending past old (stands_at_rest old r),
        rest_pending after new s,
      );
    }

abbrev pub goes_on_by : {E : Type 0} → Result Bool E → Bool
goes_on_by (Ok goes_on) = goes_on
goes_on_by (Err e) = false

pub serve_loads : {E : Type 0} (result : Result Bool E) (frame : Frame) (luns : List ℕ) (old new : SessionState) (before waiting : Output) (units : TargetUnits)
    → luns ≡ numbers_of units.states
    → IfOk result (λ goes_on. (units : TargetUnits) → luns ≡ numbers_of units.states
    → Runs (λ fails place. served fails place frame) None goes_on old new before waiting units units)
    → OnErr result (Stops is_serving (λ failed. (units : TargetUnits) → luns ≡ numbers_of units.states
    → Runs (λ fails place. served fails place frame) failed false old new before waiting units units))
    → IfOk result (λ goes_on. goes_on ≡ true → new.tasks.due ≡ []) → length frame.header ≡ header_length → AreInRange old.params.values → IsAtRest old
    → Loads (goes_on_by result) old new before.bytes waiting.bytes
serve_loads (Ok goes_on) frame luns old new before waiting units numbers ok err idle whole range r = grind (arith, run_loads)
serve_loads (Err e) frame luns old new before waiting units numbers ok err idle whole range r = grind (arith, run_loads)

-- a session that begins has no requests
pub begun_pending : (params : SessionParams) → open_requests (remembered (begun params)) ≡ 0
unfolding held due queue functions left taken taken_numbers
begun_pending params = pending_is (begun params) (begun_lawful params)
