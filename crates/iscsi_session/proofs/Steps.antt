-- What every run of steps keeps, and where two runs are alike.
use Rattle.std.proofs.Common.{◌≡◌, ℕ, zero, suc, length, List, [], ◌∷◌, ◌++◌, Bool, refl, sym, ap, ◌∙◌, append_assoc, append-nil, arith, ◌+◌, ◌<◌, ◌≤◌}
use Rattle.std.specs.Prelude.{⊤}
use Rattle.scsi_unit.specs.Units.{numbers_of}
use Rattle.iscsi_session.specs.Comings.{TargetUnits}
use Rattle.iscsi_pdu.specs.Frames.{Frame}
use Rattle.iscsi_pdu.specs.declared.answer.Answer.{Answer}
use Rattle.iscsi_requests.specs.Requests.{Past, queue, due}
use Rattle.iscsi_requests.specs.Judging.{verdict, judged_answers, judged}
use Rattle.iscsi_session.specs.Acts.{acted, act_answers}
use Rattle.iscsi_requests.specs.Functions.{drained_functions, told_answers}
use Rattle.iscsi_session.specs.Steps.{Step, Judging, Taking, Asking, Answering, Doing, Work, reaches, take_step, judge, act, ask, finish, first_steps, one_by_one, waiting_in, act_all, ask_due, tell, tell_due, taken_in, asked_in, served, ready, settled}
use Rattle.iscsi_requests.specs.Transfers.{asking, r2t_answers, r2ts_of}
use Rattle.iscsi_session.proofs.Answered.{acted_same}
use Rattle.iscsi_requests.specs.declared.verdict.Verdict.{Verdict}
use Rattle.iscsi_requests.specs.declared.verdict.Verdict.TheVariants.{Ignored, Dropped, Rejected, Violating, Accepted, Feeding}
use Rattle.iscsi_session.proofs.Feeding.{fed_same}

-- ---- what the judging of a frame leaves of the parameters and the answers

pub judged_same : (v : Verdict) (frame : Frame) (past : Past)
    → ((judged v frame past).params ≡ past.params) × ((judged v frame past).answers ≡ past.answers ++ judged_answers v past frame)
judged_same Accepted frame past = (refl, sym (append-nil past.answers))
judged_same Feeding frame past = grind (arith, fed_same, append-nil)
judged_same (Rejected reason) frame past = (refl, refl)
judged_same Ignored frame past = (refl, sym (append-nil past.answers))
judged_same Dropped frame past = (refl, sym (append-nil past.answers))
judged_same Violating frame past = (refl, sym (append-nil past.answers))

-- ---- what each step keeps, a run keeps

module _ (P : Work → Type 0) (passes : (step : Step) (goes_on : Bool) (work : Work) → P work → P (record (reaches step work) { goes_on = goes_on })) where
  abbrev pub KeptBy : (Past → List ℕ) → (ℕ → Work → Work) → Type 0
  KeptBy line does = (work : Work) (k : ℕ) (rest : List ℕ) → line work.past ≡ k ∷ rest → P work → P (does k work)

  step_keeps : (fails : Step → Bool) (step : Step) (does : Work → Work) (work : Work) → (P (reaches step work) → P (does (reaches step work))) → P work
      → P (take_step fails step does work)
  unfolding take_step
  step_keeps fails step does work keeps ok = grind arith

  first_keeps : (fails : Step → Bool) (step : Step) (line : Past → List ℕ) (does : ℕ → Work → Work) (l : List ℕ) (work : Work) → line work.past ≡ l
      → KeptBy line does → P work → P (first_steps fails step does l work)
  first_keeps fails step line does [] work is keeps ok = ok
  first_keeps fails step line does (k ∷ rest) work is keeps ok = step_keeps fails step (does k) work (keeps (reaches step work) k rest is) ok

  pub all_keep : (fails : Step → Bool) (step : ℕ → Step) (line : Past → List ℕ) (does : ℕ → Work → Work) (turn most : ℕ) (work : Work)
      → KeptBy line does → P work → P (one_by_one fails step line does turn most work)
  all_keep fails step line does turn zero work keeps ok = ok
  all_keep fails step line does turn (suc most) work keeps ok =
      all_keep fails step line does (suc turn) most (first_steps fails (step turn) does (line work.past) work) keeps
      (first_keeps fails (step turn) line does (line work.past) work refl keeps ok)

  pub served_keeps : (fails : Step → Bool) (place : ℕ) (frame : Frame) (work : Work) → ((w : Work) → P w → P (judge frame w)) → KeptBy due act
      → KeptBy asking ask → KeptBy drained_functions tell → P work → P (served fails place frame work)
  unfolding served asked_in taken_in act_all ask_due tell_due
  served_keeps fails place frame work judges acts asks tells ok =
      let first = take_step fails (Judging place) (judge frame) work in
      let acted = one_by_one fails (Taking place) due act 0 (waiting_in first.past) first in
      let asked = first_steps fails (Asking place) ask (asking acted.past) acted in
      first_keeps fails (Answering place) drained_functions tell (drained_functions asked.past) asked refl tells
      (first_keeps fails (Asking place) asking ask (asking acted.past) acted refl asks
      (all_keep fails (Taking place) due act 0 (waiting_in first.past) first acts
      (step_keeps fails (Judging place) (judge frame) work (judges (reaches (Judging place) work)) ok)))

  pub settled_keeps : (fails : Step → Bool) (place : ℕ) (work : Work) → KeptBy ready finish → P work → P (settled fails place work)
  unfolding settled
  settled_keeps fails place work finishes ok = all_keep fails (Doing place) ready finish 0 (length (queue work.past)) work finishes ok

-- ---- two runs alike: on units that may differ, and where the same steps fail

abbrev pub on_units : (TargetUnits → TargetUnits) → Work → Work
on_units u work = record work { units = u work.units }

module _ (u : TargetUnits → TargetUnits) (f g : Step → Bool) (P : Work → Type 0)
    (passes : (step : Step) (goes_on : Bool) (work : Work) → P work → P (record (reaches step work) { goes_on = goes_on })) where
  abbrev pub Alike : (Work → Work) → Type 0
  Alike does = (work : Work) → P work → does (on_units u work) ≡ on_units u (does work)

  step_alike : (step : Step) (does : Work → Work) (work : Work) → f step ≡ g step → Alike does → P work
      → take_step f step does (on_units u work) ≡ on_units u (take_step g step does work)
  unfolding take_step
  step_alike step does work same alike ok = grind arith

  first_alike : (step : Step) (does : ℕ → Work → Work) (l : List ℕ) (work : Work) → f step ≡ g step → ((k : ℕ) → Alike (does k)) → P work
      → first_steps f step does l (on_units u work) ≡ on_units u (first_steps g step does l work)
  first_alike step does [] work same alike ok = refl
  first_alike step does (k ∷ rest) work same alike ok = step_alike step (does k) work same (alike k) ok

  all_alike : (step : ℕ → Step) (line : Past → List ℕ) (does : ℕ → Work → Work) (turn most : ℕ) (work : Work)
      → ((k : ℕ) → turn ≤ k → k < turn + most → f (step k) ≡ g (step k))
      → ((k : ℕ) (w : Work) → P w → P (does k w)) → ((k : ℕ) → Alike (does k)) → P work
      → one_by_one f step line does turn most (on_units u work) ≡ on_units u (one_by_one g step line does turn most work)
  all_alike step line does turn zero work same keeps alike ok = refl
  all_alike step line does turn (suc most) work same keeps alike ok =
      ap (one_by_one f step line does (suc turn) most) (first_alike (step turn) does (line work.past) work (same turn (omega arith) (omega arith)) alike ok)
      ∙ all_alike step line does (suc turn) most (first_steps g (step turn) does (line work.past) work)
      (λ k le lt. same k (omega arith) (omega arith)) keeps alike
      (first_keeps P passes g (step turn) line does (line work.past) work refl (λ w k rest is. keeps k w) ok)

  pub settled_alike : (place : ℕ) (work : Work) → ((k : ℕ) → f (Doing place k) ≡ g (Doing place k)) → ((k : ℕ) (w : Work) → P w → P (finish k w))
      → ((k : ℕ) → Alike (finish k)) → P work → settled f place (on_units u work) ≡ on_units u (settled g place work)
  unfolding settled
  settled_alike place work same keeps alike ok =
      all_alike (Doing place) ready finish 0 (length (queue work.past)) work (λ k le lt. same k) keeps alike ok

-- of the units a frame asks for their numbers alone
module _ (u : TargetUnits → TargetUnits) (numbers : (units : TargetUnits) → numbers_of (u units).states ≡ numbers_of units.states) (f g : Step → Bool) where
  abbrev Any : Work → Type 0
  Any work = ⊤

  pub taken_alike : (place : ℕ) (frame : Frame) (work : Work) → f (Judging place) ≡ g (Judging place) → ((k : ℕ) → f (Taking place k) ≡ g (Taking place k))
      → taken_in f place frame (on_units u work) ≡ on_units u (taken_in g place frame work)
  unfolding taken_in act_all judge act
  taken_alike place frame work judges acts =
      let first = take_step g (Judging place) (judge frame) work in
      ap (λ (w : Work). one_by_one f (Taking place) due act 0 (waiting_in w.past) w)
      (step_alike u f g Any (λ step on w ok. tt) (Judging place) (judge frame) work judges (λ w ok. refl) tt)
      ∙ all_alike u f g Any (λ step on w ok. tt) (Taking place) due act 0 (waiting_in first.past) first (λ k le lt. acts k) (λ k w ok. tt)
      (λ k w ok. ap (λ (luns : List ℕ). record (on_units u (act k w)) { past = acted luns k w.past }) (numbers w.units)) tt

  pub asked_alike : (place : ℕ) (frame : Frame) (work : Work) → f (Judging place) ≡ g (Judging place) → ((k : ℕ) → f (Taking place k) ≡ g (Taking place k))
      → f (Asking place) ≡ g (Asking place) → asked_in f place frame (on_units u work) ≡ on_units u (asked_in g place frame work)
  unfolding asked_in ask_due ask
  asked_alike place frame work judges acts asks =
      let taken = taken_in g place frame work in
      ap (λ (w : Work). first_steps f (Asking place) ask (asking w.past) w) (taken_alike place frame work judges acts)
      ∙ first_alike u f g Any (λ step on w ok. tt) (Asking place) ask (asking taken.past) taken asks (λ k w ok. refl) tt

  pub served_alike : (place : ℕ) (frame : Frame) (work : Work) → f (Judging place) ≡ g (Judging place) → ((k : ℕ) → f (Taking place k) ≡ g (Taking place k))
      → f (Asking place) ≡ g (Asking place) → f (Answering place) ≡ g (Answering place)
      → served f place frame (on_units u work) ≡ on_units u (served g place frame work)
  unfolding served tell_due tell
  served_alike place frame work judges acts asks tells =
      let asked = asked_in g place frame work in
      ap (λ (w : Work). first_steps f (Answering place) tell (drained_functions w.past) w) (asked_alike place frame work judges acts asks)
      ∙ first_alike u f g Any (λ step on w ok. tt) (Answering place) tell (drained_functions asked.past) asked tells (λ k w ok. refl) tt

-- ---- two ways to fail that agree on the steps

pub judged_agrees : (f g : Step → Bool) (place : ℕ) (frame : Frame) (work : Work) → f (Judging place) ≡ g (Judging place)
    → take_step f (Judging place) (judge frame) work ≡ take_step g (Judging place) (judge frame) work
judged_agrees f g place frame work same =
    step_alike (λ units. units) f g (λ w. ⊤) (λ step on w ok. tt) (Judging place) (judge frame) work same (λ w ok. refl) tt

pub turns_agree : (f g : Step → Bool) (step : ℕ → Step) (line : Past → List ℕ) (does : ℕ → Work → Work) (turn most : ℕ) (work : Work)
    → ((k : ℕ) → turn ≤ k → k < turn + most → f (step k) ≡ g (step k))
    → one_by_one f step line does turn most work ≡ one_by_one g step line does turn most work
turns_agree f g step line does turn most work same =
    all_alike (λ units. units) f g (λ w. ⊤) (λ step on w ok. tt) step line does turn most work same (λ k w ok. tt) (λ k w ok. refl) tt

pub served_agrees : (f g : Step → Bool) (place : ℕ) (frame : Frame) (work : Work) → f (Judging place) ≡ g (Judging place)
    → ((k : ℕ) → f (Taking place k) ≡ g (Taking place k)) → f (Asking place) ≡ g (Asking place) → f (Answering place) ≡ g (Answering place)
    → served f place frame work ≡ served g place frame work
served_agrees f g = served_alike (λ units. units) (λ units. refl) f g

pub settled_agrees : (f g : Step → Bool) (place : ℕ) (work : Work) → ((k : ℕ) → f (Doing place k) ≡ g (Doing place k))
    → settled f place work ≡ settled g place work
settled_agrees f g place work same =
    settled_alike (λ units. units) f g (λ w. ⊤) (λ step on w ok. tt) place work same (λ k w ok. tt) (λ k w ok. refl) tt

-- ---- the parameters stay, and answers only come after them

pub record Extends (given work : Work) : Type 0 where
  pub params : work.past.params ≡ given.past.params
  pub more : List Answer
  pub answers : work.past.answers ≡ given.past.answers ++ more

extends_same : (work : Work) → Extends work work
extends_same work = record { params = refl; more = []; answers = sym (append-nil work.past.answers) }

extends_then : {given work next : Work} (more : List Answer) → next.past.params ≡ work.past.params → next.past.answers ≡ work.past.answers ++ more
    → Extends given work → Extends given next
extends_then {given} more params answers e = grind (arith, append_assoc)

extends_on : (given : Work) (step : Step) (goes_on : Bool) (work : Work) → Extends given work → Extends given (record (reaches step work) { goes_on = goes_on })
extends_on given step goes_on work e = record { params = e.params; more = e.more; answers = e.answers }

pub served_extends : (fails : Step → Bool) (place : ℕ) (frame : Frame) (work : Work) → Extends work (served fails place frame work)
unfolding judge act ask tell
served_extends fails place frame work =
    served_keeps (Extends work) (extends_on work) fails place frame work
    (λ w e. (let kept = judged_same (verdict w.past frame) frame w.past in extends_then (judged_answers (verdict w.past frame) w.past frame) kept.0 kept.1 e))
    (λ w k rest is e. (let luns = numbers_of w.units.states in let kept = acted_same luns k w.past in
    extends_then (act_answers luns k w.past) kept.0 kept.1 e))
    (λ w k rest is e. extends_then (r2t_answers (r2ts_of w.past k)) refl refl e) (λ w k rest is e. extends_then (told_answers w.past k) refl refl e) (extends_same work)

pub settled_extends : (fails : Step → Bool) (place : ℕ) (work : Work) → Extends work (settled fails place work)
unfolding finish
settled_extends fails place work =
    settled_keeps (Extends work) (extends_on work) fails place work (λ w k rest is e. extends_then _ refl refl e) (extends_same work)
