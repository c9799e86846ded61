-- The steps of a session that a frame sets off, done on the session and on its target's units.
use Rattle.std.specs.Prelude.{ℕ, zero, suc, ◌+◌, ◌*◌, List, [], ◌∷◌, ◌++◌, length, drop, Bool, true, false, ◌&&◌, not, ◌==◌, if◌then◌else◌}
use Rattle.scsi_sense.specs.Done.{Outcome}
use Rattle.scsi_unit.specs.Units.{numbers_of}
use Rattle.iscsi_session.specs.Comings.{TargetUnits, lend, next_coming}
use Rattle.iscsi_pdu.specs.Frames.{Frame}
use Rattle.iscsi_requests.specs.Requests.{Past, frame_of, held, due, queue, finished, stamp, answering}
use Rattle.iscsi_requests.specs.Transfers.{payload_of, is_whole_of, asking, asked}
use Rattle.iscsi_requests.specs.Functions.{drained_functions, answered_function}
use Rattle.iscsi_requests.specs.Judging.{verdict, judged, violates}
use Rattle.iscsi_session.specs.Acts.{acted, ordered, ends}
use Rattle.iscsi_answers.specs.Answers.{command_answers}
use Rattle.iscsi_session.specs.Commands.{carried_out}

-- What a step does: it judges a frame, takes a request, asks for data by R2Ts, answers a function, or does a command.
pub data StepKind : Type 0 where
  Judge : StepKind
  Take : StepKind
  Ask : StepKind
  Tell : StepKind
  Do : StepKind

-- The place is that of the frame among those of its connection. The turn counts the requests that become ready with
-- this frame, and then the commands that are done, each from 0 on. Every other step has turn 0: a frame makes R2Ts of
-- one command due at most, or brings the last data that one Task Management Function Request waits for.
pub record Step : Type 0 where
  pub place : ℕ
  pub kind : StepKind
  pub turn : ℕ

-- the step of this kind and turn that the frame of this place sets off
abbrev pub step_at : StepKind → ℕ → ℕ → Step
step_at kind turn place = record { place = place; kind = kind; turn = turn }

abbrev pub Judging : ℕ → Step
Judging place = step_at Judge 0 place

abbrev pub Taking : ℕ → ℕ → Step
Taking place turn = step_at Take turn place

abbrev pub Asking : ℕ → Step
Asking place = step_at Ask 0 place

abbrev pub Answering : ℕ → Step
Answering place = step_at Tell 0 place

abbrev pub Doing : ℕ → ℕ → Step
Doing place turn = step_at Do turn place

-- kinds are compared by their numbers
abbrev pub kind_number : StepKind → ℕ
kind_number Judge = 0
kind_number Take = 1
kind_number Ask = 2
kind_number Tell = 3
kind_number Do = 4

abbrev pub is_kind : StepKind → StepKind → Bool
is_kind a b = kind_number a == kind_number b

abbrev pub is_step : Step → Step → Bool
is_step a b = is_kind a.kind b.kind && a.turn == b.turn && a.place == b.place

-- the frame of this place sets it off
abbrev pub is_of : ℕ → Step → Bool
is_of place step = step.place == place

-- a command is done; every other step serves a frame
abbrev pub is_doing : Step → Bool
is_doing step = is_kind step.kind Do

abbrev pub is_serving : Step → Bool
is_serving step = not (is_doing step)

-- a session and its target's units, while steps are done
pub record Work : Type 0 where
  pub past : Past
  pub units : TargetUnits
  -- no violation, no Logout that closes, no failed allocation so far
  pub goes_on : Bool
  -- the steps that were reached, in order
  pub reached : List Step
  -- the headers of the Task Management Function Requests that acted, in order
  pub orders : List (List ℕ)

abbrev pub begun_work : Past → TargetUnits → Work
begun_work past units = record { past = past; units = units; goes_on = true; reached = []; orders = [] }

abbrev pub reaches : Step → Work → Work
reaches step work = record work { reached = work.reached ++ step ∷ [] }

-- one step: done, unless an allocation failed just before it; then the session stops there
unfoldable pub take_step : (Step → Bool) → Step → (Work → Work) → Work → Work
take_step fails step act work =
    if not work.goes_on then work
    else if fails step then record (reaches step work) { goes_on = false }
    else act (reaches step work)

-- ---- what each step does

-- a frame is judged: a violation ends the session, and a frame that is rejected is answered
unfoldable pub judge : Frame → Work → Work
judge frame work = record work { past = judged (verdict work.past frame) frame work.past; goes_on = not (violates (verdict work.past frame)) }

-- a request acts: a Logout that closes ends the session
unfoldable pub act : ℕ → Work → Work
act k work = record work {
  past = acted (numbers_of work.units.states) k work.past;
  goes_on = not (ends work.past.params (frame_of work.past.came k));
  orders = work.orders ++ ordered k work.past;
}

-- all due R2Ts of a command are sent
unfoldable pub ask : ℕ → Work → Work
ask k work = record work { past = asked k work.past }

-- a function whose data has come is answered
unfoldable pub tell : ℕ → Work → Work
tell k work = record work { past = answered_function k work.past }

-- a command is done and answered; it counts as finished before its answers are stamped
abbrev pub answered_command : Outcome → ℕ → Past → Past
answered_command done k past = answering (command_answers (stamp (finished k past)) past.params.values (frame_of past.came k) done) (finished k past)

unfoldable pub finish : ℕ → Work → Work
finish k work =
    let came = next_coming work.past.params.target work.units.comings in
    let p = carried_out came work.units.states work.past.params.nexus (frame_of work.past.came k) (payload_of work.past k) in
    record work { past = answered_command p.1 k work.past; units = lend p.0 (drop 1 work.units.comings) }

-- ---- one after the other

-- the first of these takes a step, if there is one
abbrev pub first_steps : (Step → Bool) → Step → (ℕ → Work → Work) → List ℕ → Work → Work
first_steps fails step does [] work = work
first_steps fails step does (k ∷ others) work = take_step fails step (does k) work

-- the first of a line takes a step, and the line is looked at again, at most this many times
abbrev pub one_by_one : (Step → Bool) → (ℕ → Step) → (Past → List ℕ) → (ℕ → Work → Work) → ℕ → ℕ → Work → Work
one_by_one fails step line does turn zero work = work
one_by_one fails step line does turn (suc most) work =
    one_by_one fails step line does (suc turn) most (first_steps fails (step turn) does (line work.past) work)

-- how many acts follow at most: each request that has not acted, and one number that it may plug
abbrev pub waiting_in : Past → ℕ
waiting_in past = (length (held past) + length (due past)) * 2

-- the requests that are due act
unfoldable pub act_all : (Step → Bool) → ℕ → Work → Work
act_all fails place work = one_by_one fails (Taking place) due act 0 (waiting_in work.past) work

-- the R2Ts that are due are sent
unfoldable pub ask_due : (Step → Bool) → ℕ → Work → Work
ask_due fails place work = first_steps fails (Asking place) ask (asking work.past) work

-- the function whose data has come is answered
unfoldable pub tell_due : (Step → Bool) → ℕ → Work → Work
tell_due fails place work = first_steps fails (Answering place) tell (drained_functions work.past) work

-- a frame is judged, and the requests that became ready act
unfoldable pub taken_in : (Step → Bool) → ℕ → Frame → Work → Work
taken_in fails place frame work = act_all fails place (take_step fails (Judging place) (judge frame) work)

-- and the R2Ts that became due are sent
unfoldable pub asked_in : (Step → Bool) → ℕ → Frame → Work → Work
asked_in fails place frame work = ask_due fails place (taken_in fails place frame work)

-- and the function that waited for its data is answered
unfoldable pub served : (Step → Bool) → ℕ → Frame → Work → Work
served fails place frame work = tell_due fails place (asked_in fails place frame work)

-- the first command of the queue can be done if its data is whole
abbrev pub ready_in : Past → List ℕ → List ℕ
ready_in past [] = []
ready_in past (k ∷ others) = if is_whole_of past k then k ∷ others else []

unfoldable pub ready : Past → List ℕ
ready past = ready_in past (queue past)

-- the commands that were taken are done, up to the first whose data is not whole
unfoldable pub settled : (Step → Bool) → ℕ → Work → Work
settled fails place work = one_by_one fails (Doing place) ready finish 0 (length (queue work.past)) work
