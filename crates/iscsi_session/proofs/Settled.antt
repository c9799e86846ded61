-- A request acts, and a command is done, as steps of a session's work.
use Rattle.std.proofs.Common.{◌≡◌, ◌≤◌, map, ℕ, suc, ◌<◌, List, [], ◌∷◌, length, Bool, true, false, not, cond, Some, None, refl, sym, ap, ◌∙◌, arith, append-nil, subst, Option}
use Rattle.scsi_unit.specs.Units.{numbers_of, UnitStates}
use Rattle.iscsi_session.specs.Comings.{TargetUnits, Coming, CameAs, lend, next_coming}
use Rattle.iscsi_pdu.specs.Frames.{Frame}
use Rattle.iscsi_requests.specs.Requests.{Past, frame_of, due, queue, bears_status, bearing}
use Rattle.iscsi_requests.specs.State.{SessionState, IsLawful, Stands, standing, bare, bare_frames, tasks_of, place_for, whole_at, payload_at, is_waiting, is_waiting_by, waiting}
use Rattle.iscsi_session.specs.declared.act.Act.{Act}
use Rattle.iscsi_session.specs.declared.act.Act.TheVariants.{Idle, Taken, Ended}
use Rattle.iscsi_session.specs.Acts.{ends}
use Rattle.iscsi_session.specs.Steps.{Step, Take, Do, Taking, Work, act, act_all, waiting_in, is_doing, Doing, finish, ready, ready_in, settled}
use Rattle.iscsi_session.specs.Runs.{Output, Starts, Leaves, Runs, ActsAs, ActsFirst, output, StepsFirst, Stops, IsSettled, AnswersAs}
use Rattle.iscsi_session.proofs.Feeding.{whole_is, payload_is, first_unfinished}
use Rattle.iscsi_session.proofs.Parts.{due_is, parts, queue_is}
use Rattle.iscsi_session.proofs.Weights.{waiting_fits, waiting_some}
use Rattle.iscsi_session.proofs.Answered.{acted_same}
use Rattle.iscsi_session.proofs.Runs.{runs_as, stands_of, leaves_nothing, leaves_answering}
use Rattle.iscsi_session.proofs.Stages.{LeavesFirst, first_runs, Line, Ran, none_ran, turn_of, all_of, ran_more, ran_idle, ran_stopped, ran_starved, stops_at}
use Rattle.std.specs.Prelude.{filter, drop}
use Rattle.std.proofs.lemmas.List.{length-map}
use Rattle.std.proofs.lemmas.List.Elements.{filter-append}
use Rattle.scsi_sense.specs.Done.{Outcome}
use Rattle.scsi_sense.specs.Nexus.{NexusName}
use Rattle.scsi_unit.specs.CameOut.{CameOut}
use Rattle.iscsi_pdu.specs.declared.stamp.Stamp.{Stamp}
use Rattle.iscsi_login.specs.declared.session_params.SessionParams.{SessionParams}
use Rattle.iscsi_login.specs.declared.values.Values.{Values}
use Rattle.iscsi_transfer.specs.declared.data_in.Piece.{Piece}
use Rattle.iscsi_answers.specs.Answers.{data_in, data_answers, scsi_answer, command_answers}
use Rattle.iscsi_session.specs.Commands.{carried_out}
use Rattle.iscsi_requests.specs.Transfers.{payload_of, is_whole_of}
use Rattle.iscsi_session.proofs.Came.{came_none}

-- ---- what an act leaves

act_leaves : (work : Work) (k : ℕ) (a : Act) (new : SessionState) (before waiting : Output) (units : TargetUnits) → work.units ≡ units
    → ActsAs (numbers_of work.units.states) k work.past a new before waiting → Leaves work (act k work) new before waiting units
unfolding act
act_leaves work k a new before waiting units same acts = grind (arith, acted_same, acts)

act_goes_on : (work : Work) (k : ℕ) → (act k work).goes_on ≡ not (ends work.past.params (frame_of work.past.came k))
unfolding act
act_goes_on work k = refl

-- what a call leaves in which the first that is due acts
pub record Acts (luns : List ℕ) (a : Act) (old new : SessionState) (before waiting : Output) : Type 0 where
  pub first : (past : Past) → Stands past old → ActsFirst luns (due past) past a old new before waiting

pub acts : {luns : List ℕ} {a : Act} {old new : SessionState} {before waiting : Output}
    → ((past : Past) → Stands past old → ActsFirst luns (due past) past a old new before waiting) → Acts luns a old new before waiting
acts first = record { first = first }

-- where these are the numbers of the units that it works on
acts_here : (luns : List ℕ) (a : Act) (work : Work) (old new : SessionState) (before waiting : Output) (units : TargetUnits) → luns ≡ numbers_of units.states
    → Acts luns a old new before waiting → Starts work old units
    → ActsFirst (numbers_of work.units.states) (due work.past) work.past a old new before waiting
acts_here luns a work old new before waiting units numbers acts s = grind (arith, acts, stands_of)

-- ---- all that is due

abbrev pub act_of : Bool → Act
act_of goes_on = cond goes_on Taken Ended

ended_by : (ended goes_on : Bool) → act_of goes_on ≡ cond ended Ended Taken → not ended ≡ goes_on
ended_by ended goes_on e = grind arith

no_idle : (goes_on : Bool) → act_of goes_on ≡ Idle → ⊥
no_idle goes_on e = grind arith

acted_first : (l : List ℕ) (goes_on : Bool) (work : Work) (old new : SessionState) (before waiting : Output) (units : TargetUnits)
    → work.units ≡ units → ActsFirst (numbers_of work.units.states) l work.past (act_of goes_on) old new before waiting
    → LeavesFirst act goes_on l work new before waiting units
acted_first [] goes_on work old new before waiting units same acts = absurd (no_idle goes_on acts.0)
acted_first (k ∷ others) goes_on work old new before waiting units same acts =
    grind (arith, act_goes_on work k, act_leaves work k (act_of goes_on) new before waiting units same acts)

some_ended : (l luns : List ℕ) (work : Work) (old new : SessionState) (before waiting : Output) → ActsFirst luns l work.past Ended old new before waiting
    → 0 < length l
some_ended [] luns work old new before waiting acts = absurd (no_idle false acts.0)
some_ended (k ∷ others) luns work old new before waiting acts = omega arith

found_idle : (l luns : List ℕ) (work : Work) (old new : SessionState) (before waiting : Output) → ActsFirst luns l work.past Idle old new before waiting
    → (l ≡ []) × (new ≡ old) × (waiting ≡ before)
found_idle [] luns work old new before waiting acts = (refl, acts.1, acts.2)
found_idle (k ∷ others) luns work old new before waiting acts = grind arith

-- the acts of all that is due
abbrev pub acting : Line
acting = record {
  kind = Take;
  line = due;
  does = act;
  count = λ state. waiting state.tasks;
  size = waiting_in;
  fits = λ past lawful. waiting_fits past;
}

acts_all : (fails : Step → Bool) (place : ℕ) (work : Work) → all_of acting fails place work ≡ act_all fails place work
unfolding all_of act_all
acts_all fails place work = refl

abbrev pub RanActs : ℕ → SessionState → SessionState → Output → Output → TargetUnits → Type 0
RanActs turns old now before waiting units = Ran acting turns old now before waiting units units

pub none_acted : (old : SessionState) (before : Output) (units : TargetUnits) → RanActs 0 old old before before units
none_acted old before units = none_ran acting old before units

module _ (luns : List ℕ) (turns : ℕ) (old now next : SessionState) (before waiting items : Output) (units : TargetUnits)
    (numbers : luns ≡ numbers_of units.states)
    (ran : RanActs turns old now before waiting units) where
  acts_turn : {goes_on : Bool} → Acts luns (act_of goes_on) now next waiting items → Runs (turn_of acting turns) None goes_on now next waiting items units units
  acts_turn {goes_on} acts = first_runs Take turns due act (λ work s.
      acted_first (due work.past) goes_on work now next waiting items units s.units
      (acts_here luns (act_of goes_on) work now next waiting items units numbers acts s))

  pub acted_more : Acts luns Taken now next waiting items → acting.count next < acting.count now → RanActs (suc turns) old next before items units
  acted_more acts fewer = ran_more acting ran (acts_turn {goes_on = true} acts) fewer

  pub all_acted : Acts luns Idle now next waiting items → Runs act_all None true old next before items units units
  all_acted acts = runs_as acts_all (ran_idle acting ran (λ work s.
      (let f = found_idle (due work.past) _ work now next waiting items (acts_here luns Idle work now next waiting items units numbers acts s) in
      (f.0, rw (f.1, f.2) (leaves_nothing work now waiting units s)))))

  pub acting_ends : Acts luns Ended now next waiting items → Runs act_all None false old next before items units units
  acting_ends acts = runs_as acts_all (ran_stopped acting ran (acts_turn {goes_on = false} acts) (λ place k lt. refl) (λ work s.
      waiting_some now.tasks (omega (
        arith,
        ap (λ (l : List Frame). length l) (due_is work.past now (stands_of work now units s)),
        length-map (due work.past) (frame_of (standing work.past)),
        some_ended (due work.past) _ work now next waiting items (acts_here luns Ended work now next waiting items units numbers acts s),
      ))))

due_there : (past : Past) (l : List ℕ) → 0 < length (map (frame_of (standing past)) l) → (k : ℕ) × (others : List ℕ) × (l ≡ k ∷ others)
due_there past [] some = absurd (omega arith)
due_there past (k ∷ others) some = (k, others, refl)

pub acting_stops : (turns : ℕ) (old now : SessionState) (before : Output) (bytes : List ℕ) (orders : List (List ℕ)) (units : TargetUnits)
    → RanActs turns old now before (output bytes orders) units → 0 < length now.tasks.due
    → Runs act_all (Some (λ place. Taking place turns)) false old now before (output bytes orders) units units
acting_stops turns old now before bytes orders units ran some = runs_as acts_all (ran_starved acting ran (waiting_some now.tasks some) (λ past s.
    due_there past (due past) (omega (arith, ap (λ (l : List Frame). length l) (due_is past now s), some))))

pub act_stops : (luns : List ℕ) (turn : ℕ) (old now next : SessionState) (before waiting items : Output) → next ≡ now → items ≡ waiting
    → ((units : TargetUnits) → luns ≡ numbers_of units.states → Runs act_all (Some (λ place. Taking place turn)) false old now before waiting units units)
    → (turn : ℕ) × ((units : TargetUnits) → luns ≡ numbers_of units.states
    → Runs act_all (Some (λ place. Taking place turn)) false old next before items units units)
act_stops luns turn old now next before waiting items same is runs = (turn, λ units numbers. rw (same, is) (runs units numbers))

-- ---- one answer of a command bears status

data_bears_none : (numbers : Stamp) (frame : Frame) (sent : List ℕ) (pieces : List (ℕ × Piece))
    → filter bears_status (map (data_in numbers frame sent) pieces) ≡ []
data_bears_none numbers frame sent [] = refl
data_bears_none numbers frame sent (piece ∷ pieces) = data_bears_none numbers frame sent pieces

pub command_bears : (numbers : Stamp) (values : Values) (frame : Frame) (done : Outcome) → bearing (command_answers numbers values frame done) ≡ 1
unfolding data_answers scsi_answer
command_bears numbers values frame done = grind (arith, filter-append, data_bears_none)

-- ---- the line is empty

pub none_steps : (does : ℕ → Work → Work) (l : List ℕ) (work : Work) (state : SessionState) (waiting : Output) (units : TargetUnits) → l ≡ []
    → work.units ≡ units → StepsFirst does l work false state state waiting waiting units
none_steps does [] work state waiting units none same = (refl, refl, refl, sym same)
none_steps does (request ∷ others) work state waiting units none same = absurd cc

-- ---- the first of the queue waits for data, or does not

waits_by : (b : Bool) (past : Past) (k : ℕ) (l : List ℕ) → is_whole_of past k ≡ b → not b ≡ true → ready_in past (k ∷ l) ≡ []
waits_by b past k l e h = grind arith

none_ready_in : (past : Past) (state : SessionState) (l : List ℕ) → Stands past state → queue past ≡ l
    → is_waiting_by (bare_frames past.came l) state.transfers.list ≡ true → ready_in past l ≡ []
none_ready_in past state [] s is e = refl
none_ready_in past state (k ∷ l) s is e = grind (arith, waits_by, whole_is, first_unfinished)

pub none_ready : (work : Work) (state : SessionState) (units : TargetUnits) → Starts work state units → is_waiting state ≡ true → ready work.past ≡ []
unfolding ready
none_ready work state units s e =
    let st = stands_of work state units s in
    none_ready_in work.past state (queue work.past) st refl
    (ap (λ (l : List Frame). is_waiting_by l state.transfers.list) (sym (queue_is work.past state st)) ∙ e)

goes_by : (b : Bool) (past : Past) (k : ℕ) (l : List ℕ) → is_whole_of past k ≡ b → not b ≡ false → ready_in past (k ∷ l) ≡ k ∷ l
goes_by b past k l e h = grind arith

all_ready_in : (past : Past) (state : SessionState) (l : List ℕ) → Stands past state → queue past ≡ l
    → is_waiting_by (bare_frames past.came l) state.transfers.list ≡ false
    → (k : ℕ) × (others : List ℕ) × (l ≡ k ∷ others) × (ready_in past l ≡ l)
all_ready_in past state [] s is e = absurd cc
all_ready_in past state (k ∷ l) s is e = grind (arith, goes_by, whole_is, first_unfinished)

all_ready : (past : Past) (state : SessionState) → Stands past state → is_waiting state ≡ false
    → (k : ℕ) × (others : List ℕ) × (queue past ≡ k ∷ others) × (ready past ≡ queue past)
unfolding ready
all_ready past state s e =
    all_ready_in past state (queue past) s refl (ap (λ (l : List Frame). is_waiting_by l state.transfers.list) (sym (queue_is past state s)) ∙ e)

some_by : (l : List Frame) (state : SessionState) → is_waiting_by l state.transfers.list ≡ false → 0 < length l
some_by [] state e = absurd cc
some_by (frame ∷ l) state e = omega arith

some_queued : (state : SessionState) → is_waiting state ≡ false → 0 < length state.tasks.queue
some_queued state e = some_by state.tasks.queue state e

pub not_waiting : (state : SessionState) (frame : Frame) (rest : List Frame) → state.tasks.queue ≡ frame ∷ rest
    → whole_at state.transfers.list (place_for frame state.transfers.list) ≡ true → is_waiting state ≡ false
not_waiting state frame rest first whole = grind arith

-- ---- a command is done

-- what the call that answers it leaves
abbrev Answers : SessionState → SessionState → List ℕ → List ℕ → Outcome → Type 0
Answers old new before waiting done = (past : Past) (k : ℕ) (others : List ℕ) → Stands past old → queue past ≡ k ∷ others
    → AnswersAs done k past new before waiting

finish_leaves : (work : Work) (k : ℕ) (others : List ℕ) (old new : SessionState) (before waiting : List ℕ) (units after : UnitStates)
    (comings : List Coming) (came : CameOut) (done : Outcome)
    → Starts work old (lend units comings) → queue work.past ≡ k ∷ others → next_coming work.past.params.target comings ≡ came
    → (after, done) ≡ carried_out came units work.past.params.nexus (frame_of work.past.came k) (payload_of work.past k) → Answers old new before waiting done
    → Leaves work (finish k work) new (output before []) (output waiting []) (lend after (drop 1 comings))
unfolding finish
finish_leaves work k others old new before waiting units after comings came done s is next carried answers = grind (arith, stands_of, leaves_answering)

-- the payload that the code has of it
abbrev payload_in : SessionState → Frame → List ℕ
payload_in state frame = payload_at state.transfers.list (place_for frame state.transfers.list)

-- the data that it brought is in the payload
carried_bare : (came : CameOut) (units : UnitStates) (nexus : NexusName) (frame : Frame) (payload : List ℕ)
    → carried_out came units nexus (bare frame) payload ≡ carried_out came units nexus frame payload
unfolding carried_out
carried_bare came units nexus frame payload = refl

pub answers_bare : (numbers : Stamp) (values : Values) (frame : Frame) (done : Outcome)
    → command_answers numbers values (bare frame) done ≡ command_answers numbers values frame done
unfolding data_answers scsi_answer
answers_bare numbers values frame done = refl

-- what it was carried out on, and how it came out
module _ (old new : SessionState) (before waiting : List ℕ) (units after : UnitStates) (comings : List Coming) (came : CameOut) (frame : Frame)
    (rest : List Frame) (nexus : NexusName) (done : Outcome) (first : old.tasks.queue ≡ frame ∷ rest) (named : nexus ≡ old.params.nexus)
    (next : next_coming old.params.target comings ≡ came) (carried : (after, done) ≡ carried_out came units nexus frame (payload_in old frame))
    (answers : Answers old new before waiting done) where
  finish_first : (l : List ℕ) (work : Work) → queue work.past ≡ l → Starts work old (lend units comings)
      → StepsFirst finish l work true old new (output before []) (output waiting []) (lend after (drop 1 comings))
  finish_first [] work is s =
      absurd (let none = sym first ∙ queue_is work.past old (stands_of work old (lend units comings) s)
      ∙ ap (bare_frames work.past.came) is in cc)
  finish_first (k ∷ others) work is s =
      let st = stands_of work old (lend units comings) s in
      let heads : frame ∷ rest ≡ bare (frame_of work.past.came k) ∷ bare_frames work.past.came others = sym first
      ∙ queue_is work.past old st ∙ ap (bare_frames work.past.came) is in
      let same : frame ≡ bare (frame_of work.past.came k) = cc in
      let params = (parts work.past old st).params_is in
      let agreed : nexus ≡ work.past.params.nexus = named ∙ ap (λ (x : SessionParams). x.nexus) params in
      let payload : payload_in old (frame_of work.past.came k) ≡ payload_of work.past k = payload_is work.past old k st
      (first_unfinished work.past k others st.lawful is) in (
        refl,
        finish_leaves work k others old new before waiting units after comings came done s is
            (ap (λ (x : SessionParams). next_coming x.target comings) (sym params) ∙ next)
            (carried ∙ ap (λ (n : NexusName). carried_out came units n frame (payload_in old frame)) agreed
            ∙ ap (λ (f : Frame). carried_out came units work.past.params.nexus f (payload_in old f)) same
            ∙ carried_bare came units work.past.params.nexus (frame_of work.past.came k) (payload_in old (frame_of work.past.came k))
            ∙ ap (carried_out came units work.past.params.nexus (frame_of work.past.came k)) payload) answers,
      )

  pub finish_steps : (work : Work) → Starts work old (lend units comings) → whole_at old.transfers.list (place_for frame old.transfers.list) ≡ true
      → StepsFirst finish (ready work.past) work true old new (output before []) (output waiting []) (lend after (drop 1 comings))
  finish_steps work s whole =
      grind (arith, all_ready work.past old (stands_of work old (lend units comings) s) (not_waiting old frame rest first whole), finish_first)

-- ---- settling

pub queue_fits : (past : Past) → IsLawful past → length (tasks_of past).queue ≤ length (queue past)
unfolding tasks_of
queue_fits past lawful = omega (arith, length-map (queue past) (λ k. bare (frame_of past.came k)))

-- the doing of all that is in the queue
abbrev pub settling : Line
settling = record {
  kind = Do;
  line = ready;
  does = finish;
  count = λ state. length state.tasks.queue;
  size = λ past. length (queue past);
  fits = queue_fits;
}

finished_first : (l : List ℕ) (work : Work) (old new : SessionState) (before waiting : Output) (after : TargetUnits) → work.goes_on ≡ true
    → StepsFirst finish l work true old new before waiting after
    → LeavesFirst finish true l work new before waiting after
unfolding finish
finished_first [] work old new before waiting after on s = absurd (let no = s.0 in cc)
finished_first (request ∷ others) work old new before waiting after on s = (on, s.1)

found_none : (l : List ℕ) (work : Work) (old new : SessionState) (before waiting : Output) (units after : TargetUnits) → Starts work old units
    → StepsFirst finish l work false old new before waiting after → (l ≡ []) × Leaves work work new before waiting after
found_none [] work old new before waiting units after s is =
    grind (arith, append-nil work.past.answers, append-nil before.bytes, append-nil work.orders, append-nil before.orders)
found_none (request ∷ others) work old new before waiting units after s is = absurd (let no = is.0 in cc)

abbrev pub FinishesOne : Bool → SessionState → SessionState → Output → Output → TargetUnits → TargetUnits → Type 0
FinishesOne more old new before waiting units after = (work : Work) → Starts work old units
    → StepsFirst finish (ready work.past) work more old new before waiting after

abbrev pub RanDone : ℕ → SessionState → SessionState → Output → Output → TargetUnits → TargetUnits → Type 0
RanDone turns old now before waiting units after = Ran settling turns old now before waiting units after

pub settled_more : (turns : ℕ) (more : Bool) (old now next : SessionState) (before waiting items : Output) (units middle after : TargetUnits)
    → RanDone turns old now before waiting units middle → FinishesOne more now next waiting items middle after → more ≡ true
    → length next.tasks.queue < length now.tasks.queue → RanDone (suc turns) old next before items units after
settled_more turns more old now next before waiting items units middle after ran steps is fewer =
    let F : Bool → Type 0 = λ b. FinishesOne b now next waiting items middle after in
    let one = subst F is steps in
    ran_more settling ran (first_runs Do turns ready finish (λ work s.
    finished_first (ready work.past) work now next waiting items after s.goes_on (one work s))) fewer

settles_all : (fails : Step → Bool) (place : ℕ) (work : Work) → all_of settling fails place work ≡ settled fails place work
unfolding all_of settled
settles_all fails place work = refl

pub all_settled : (turns : ℕ) (more : Bool) (old now next : SessionState) (before waiting items : Output) (units middle after : TargetUnits)
    → RanDone turns old now before waiting units middle → FinishesOne more now next waiting items middle after → more ≡ false
    → Runs settled None true old next before items units after
all_settled turns more old now next before waiting items units middle after ran steps is =
    let F : Bool → Type 0 = λ b. FinishesOne b now next waiting items middle after in
    let one = subst F is steps in
    runs_as settles_all (ran_idle settling ran (λ work s.
    found_none (ready work.past) work now next waiting items middle after s (one work s)))

pub settling_stops : (turns : ℕ) (old now : SessionState) (before : Output) (bytes : List ℕ) (units after : TargetUnits)
    → RanDone turns old now before (output bytes []) units after → is_waiting now ≡ false
    → Runs settled (Some (λ place. Doing place turns)) false old now before (output bytes []) units after
settling_stops turns old now before bytes units after ran more = runs_as settles_all (ran_starved settling ran (some_queued now more) (λ past s.
    (let r = all_ready past now s more in (r.0, r.1, r.3 ∙ r.2))))

pub settle_stops : (turns : ℕ) (old now next : SessionState) (before waiting items : Output) (target : Option ℕ) (units middle after : UnitStates)
    → next ≡ now → items ≡ waiting → after ≡ middle
    → CameAs target (λ given left. Runs settled (Some (λ place. Doing place turns)) false old now before waiting given left) units middle
    → Stops is_doing (λ failed. CameAs target (λ given left. Runs settled failed false old next before items given left) units after)
settle_stops turns old now next before waiting items target units middle after same is also runs =
    stops_at Do turns (λ place. refl) (rw (same, is, also) runs)

-- ---- nothing can be done

pub settled_is : (state : SessionState) → is_waiting state ≡ true → IsSettled state
settled_is state waits units bytes = came_none state.params.target _ units units (λ comings.
    all_settled 0 false state state state (output bytes []) (output bytes []) (output bytes []) (lend units comings) (lend units comings) (lend units comings)
    (none_ran settling state (output bytes []) (lend units comings))
    (λ work s. none_steps finish (ready work.past) work state (output bytes []) (lend units comings)
    (none_ready work state (lend units comings) s waits) s.units) refl)
