-- Laws of every login, over the sequence of its requests.
use Rattle.std.specs.Prelude.{◌≡◌, ℕ, ◌+◌, ◌*◌, ◌≤◌, List, [], ◌∷◌, ◌++◌, length, take, drop, flat_map, true, false, Option, Some, None, ⊤}
use Rattle.iscsi_pdu.specs.Frames.{Frame}
use Rattle.iscsi_pdu.specs.LoginResponse.{login_text}
use Rattle.iscsi_pdu.specs.declared.stage.Stage.{Stage}
use Rattle.iscsi_pdu.specs.declared.login_response.LoginStep.{LoginStep}
use Rattle.iscsi_pdu.specs.declared.login_response.LoginStep.TheVariants as steps
use Rattle.iscsi_text.specs.Cut.{parts_cut}
use Rattle.iscsi_login.specs.Directory.{KnownTargets}
use Rattle.iscsi_login.specs.LoginState.{LoginState}
use Rattle.iscsi_login.specs.Rules.{interrupts, reads_text}
use Rattle.iscsi_login.specs.Login.{longest_piece, brought, step_of, answered, accepted, advanced, remembered}

-- the step in the answer to a request, by what is remembered of those before it
abbrev pub step_told : KnownTargets → LoginState → Frame → LoginStep
step_told directory login request = step_of request.header (brought directory login request).due

-- the stage that a step enters: T is agreed
abbrev pub agreed : LoginStep → Option Stage
agreed (steps.Enters stage) = Some stage
agreed steps.Continued = None
agreed steps.Stays = None

-- after these requests, none of those that follow agrees to a T
abbrev pub NoneAgrees : KnownTargets → LoginState → List Frame → Type 0
NoneAgrees directory login [] = ⊤
NoneAgrees directory login (request ∷ more) = (agreed (step_told directory login request) ≡ None) × NoneAgrees directory (advanced directory login request) more

-- The stage is the one of the last T that was agreed (RFC 7143 §11.13.6, §11.13.7).
abbrev pub StageIsLastAgreed : Type 0
StageIsLastAgreed = (directory : KnownTargets) (handle : ℕ) (before : List Frame) (request : Frame) (later : List Frame) (stage : Stage)
    → agreed (step_told directory (remembered directory handle before) request) ≡ Some stage
    → NoneAgrees directory (advanced directory (remembered directory handle before) request) later
    → (remembered directory handle (before ++ request ∷ later)).stage ≡ Some stage

-- after these requests, none of those that follow ends a text, and none has text or C while an answer is due
abbrev pub NoneIsWhole : KnownTargets → LoginState → List Frame → Type 0
NoneIsWhole directory login [] = ⊤
NoneIsWhole directory login (request ∷ more) =
    (reads_text login request ≡ false) × (interrupts login request ≡ false) × NoneIsWhole directory (advanced directory login request) more

-- The text kept is what came since the last whole text (RFC 7143 §6.2).
abbrev pub KeptIsSinceWhole : Type 0
KeptIsSinceWhole = (directory : KnownTargets) (handle : ℕ) (before : List Frame) (whole : Frame) (later : List Frame)
    → reads_text (remembered directory handle before) whole ≡ true → NoneIsWhole directory (advanced directory (remembered directory handle before) whole) later
    → (remembered directory handle (before ++ whole ∷ later)).kept ≡ flat_map (λ request. request.body) later

-- The text that is due is the rest of the last whole answer. A piece of it was sent with each request since (own:
-- 8192 bytes).
abbrev pub DueIsTheRest : Type 0
DueIsTheRest = (directory : KnownTargets) (handle : ℕ) (before : List Frame) (whole : Frame) (later : List Frame)
    → NoneIsWhole directory (advanced directory (remembered directory handle before) whole) later
    → (remembered directory handle (before ++ whole ∷ later)).due
    ≡ drop (longest_piece * (length later + 1)) (brought directory (remembered directory handle before) whole).due

-- the texts of the next answers, one for each of these headers, as long as no other text is read
abbrev pub texts_sent : LoginState → List (List ℕ) → List (List ℕ)
texts_sent login [] = []
texts_sent login (header ∷ headers) = login_text (accepted header login.due) ∷ texts_sent (answered login header) headers

-- The texts of the answers are the pieces of the text that is due (own: cut at the multiples of 8192 bytes).
abbrev pub TextsAreCut : Type 0
TextsAreCut = (login : LoginState) (headers : List (List ℕ)) → length headers ≤ length (parts_cut longest_piece login.due)
    → texts_sent login headers ≡ take (length headers) (parts_cut longest_piece login.due)
