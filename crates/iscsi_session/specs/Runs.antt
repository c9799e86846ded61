-- What a call of a session leads to: all its steps are done, or those before one that failed.
use Rattle.std.specs.Prelude.{◌≡◌, ℕ, List, [], ◌∷◌, ◌++◌, flat_map, Bool, true, false, Option, Some, None, if◌then◌else◌, ⊤}
use Rattle.scsi_unit.specs.Units.{UnitStates}
use Rattle.iscsi_session.specs.Comings.{TargetUnits, CameAs}
use Rattle.iscsi_pdu.specs.Frames.{Frame}
use Rattle.iscsi_pdu.specs.Answer.{spelling}
use Rattle.iscsi_pdu.specs.declared.answer.Answer.{Answer}
use Rattle.iscsi_requests.specs.Requests.{Past, frame_of, stamp, finished}
use Rattle.iscsi_requests.specs.declared.verdict.Verdict.{Verdict}
use Rattle.iscsi_requests.specs.Judging.{verdict, judged, judged_answers}
use Rattle.iscsi_session.specs.Acts.{ordered, acted, act_answers, ends}
use Rattle.iscsi_session.specs.declared.act.Act.{Act}
use Rattle.iscsi_session.specs.declared.act.Act.TheVariants.{Idle, Taken, Ended}
use Rattle.iscsi_requests.specs.State.{SessionState, IsLawful, Stands, remembered}
use Rattle.iscsi_answers.specs.Answers.{command_answers}
use Rattle.scsi_sense.specs.Done.{Outcome}
use Rattle.iscsi_session.specs.Steps.{Step, is_step, is_of, Work, settled, answered_command}

-- the code is in the state of this work, whose session goes on
pub record Starts (work : Work) (state : SessionState) (target : TargetUnits) : Type 0 where
  pub lawful : IsLawful work.past
  pub remembered : state ≡ remembered work.past
  pub units : work.units ≡ target
  pub goes_on : work.goes_on ≡ true

-- what a session has for others: the bytes that wait to be sent, and the orders that its target is to carry out
pub record Output : Type 0 where
  pub bytes : List ℕ
  pub orders : List (List ℕ)

abbrev pub output : List ℕ → List (List ℕ) → Output
output bytes orders = record { bytes = bytes; orders = orders }

-- the code is in the state of this work; what it answered and ordered beyond the given work waits after what waited
-- before
pub record Leaves (given work : Work) (state : SessionState) (before waiting : Output) (target : TargetUnits) : Type 0 where
  pub lawful : IsLawful work.past
  pub remembered : state ≡ remembered work.past
  pub units : work.units ≡ target
  pub params : work.past.params ≡ given.past.params
  pub more : List Answer
  pub answers : work.past.answers ≡ given.past.answers ++ more
  pub spelled : waiting.bytes ≡ before.bytes ++ flat_map spelling more
  pub functions : List (List ℕ)
  pub acted : work.orders ≡ given.orders ++ functions
  pub ordered : waiting.orders ≡ before.orders ++ functions

-- ---- which step fails

-- no step, or for the frame of each place this one
abbrev pub is_failed : Option (ℕ → Step) → ℕ → Step → Bool
is_failed None place step = false
is_failed (Some failed) place step = is_step (failed place) step

-- of the steps that the frame of this place sets off, exactly these fail
abbrev pub FailsAs : Option (ℕ → Step) → ℕ → (Step → Bool) → Type 0
FailsAs failed place fails = (step : Step) → is_of place step ≡ true → fails step ≡ is_failed failed place step

-- the step that failed was reached last
abbrev pub IsReached : Option (ℕ → Step) → ℕ → Work → Type 0
IsReached None place work = ⊤
IsReached (Some failed) place work = (before : List Step) × (work.reached ≡ before ++ failed place ∷ [])

-- ---- the call

-- Whatever state the code was in, it is in the state to which these steps lead; the session goes on, or not.
pub record Runs (run : (Step → Bool) → ℕ → Work → Work) (failed : Option (ℕ → Step)) (goes_on : Bool) (old new : SessionState) (before waiting : Output)
    (units after : TargetUnits) : Type 0 where
  pub leads : (place : ℕ) (fails : Step → Bool) (work : Work) → FailsAs failed place fails → Starts work old units
      → Leaves work (run fails place work) new before waiting after
  pub ends : (place : ℕ) (fails : Step → Bool) (work : Work) → FailsAs failed place fails → Starts work old units → (run fails place work).goes_on ≡ goes_on
  pub reached : (place : ℕ) (fails : Step → Bool) (work : Work) → FailsAs failed place fails → Starts work old units
      → IsReached failed place (run fails place work)

-- a session of which no command can be done now, whatever its target's units are and whatever waits
abbrev pub IsSettled : SessionState → Type 0
IsSettled state = (units : UnitStates) (bytes : List ℕ)
    → CameAs state.params.target (λ given after. Runs settled None true state state (output bytes []) (output bytes []) given after) units units

-- an allocation failed before one of the steps, which are of this kind, and nothing of that step was done
pub record Stops (is_kind : Step → Bool) (Leads : Option (ℕ → Step) → Type 0) : Type 0 where
  -- the step, for the frame of each place
  pub step : ℕ → Step
  pub of_frame : (place : ℕ) → is_of place (step place) ≡ true
  pub of_kind : (place : ℕ) → is_kind (step place) ≡ true
  pub leads : Leads (Some step)

-- ---- one step

-- A frame is judged to be this, and this is what that leaves.
pub record Judges (v : Verdict) (frame : Frame) (old new : SessionState) (before waiting : Output) : Type 0 where
  pub judged_is : (past : Past) → Stands past old → v ≡ verdict past frame
  pub stands : (past : Past) → Stands past old → Stands (judged (verdict past frame) frame past) new
  pub out : (past : Past) → Stands past old → waiting.bytes ≡ before.bytes ++ flat_map spelling (judged_answers (verdict past frame) past frame)
  pub orders : waiting.orders ≡ before.orders

-- the first of a line took a step, if there is one
abbrev pub StepsFirst : (ℕ → Work → Work) → List ℕ → Work → Bool → SessionState → SessionState → Output → Output → TargetUnits → Type 0
StepsFirst does [] work more old new before waiting after = (more ≡ false) × (new ≡ old) × (waiting ≡ before) × (after ≡ work.units)
StepsFirst does (k ∷ others) work more old new before waiting after = (more ≡ true) × Leaves work (does k work) new before waiting after

-- What the act of this request leaves, if these are the numbers of the target's units.
pub record ActsAs (luns : List ℕ) (k : ℕ) (past : Past) (a : Act) (new : SessionState) (before waiting : Output) : Type 0 where
  pub act : a ≡ (if ends past.params (frame_of past.came k) then Ended else Taken)
  pub stands : Stands (acted luns k past) new
  pub out : waiting.bytes ≡ before.bytes ++ flat_map spelling (act_answers luns k past)
  pub orders : waiting.orders ≡ before.orders ++ ordered k past

-- the first of these acts, if there is one
abbrev pub ActsFirst : List ℕ → List ℕ → Past → Act → SessionState → SessionState → Output → Output → Type 0
ActsFirst luns [] past a old new before waiting = (a ≡ Idle) × (new ≡ old) × (waiting ≡ before)
ActsFirst luns (k ∷ others) past a old new before waiting = ActsAs luns k past a new before waiting

-- What a command leaves that was done with this outcome.
pub record AnswersAs (done : Outcome) (k : ℕ) (past : Past) (new : SessionState) (before waiting : List ℕ) : Type 0 where
  pub stands : Stands (answered_command done k past) new
  pub out : waiting ≡ before ++ flat_map spelling (command_answers (stamp (finished k past)) past.params.values (frame_of past.came k) done)
