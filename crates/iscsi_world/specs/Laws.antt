-- Laws of the World, for every history.
use Rattle.std.specs.Prelude.{◌≡◌, ◌≢◌, ◌⊎◌, ℕ, ◌+◌, ◌<◌, List, [], ◌∷◌, ◌++◌, Bool, true, false, not, ◌==◌, Option, Some, None, map, slice_get, ⊤}
use Rattle.std.specs.List.{AllByRecursion, list_all}
use Rattle.iscsi_pdu.specs.Frames.{Frame}
use Rattle.iscsi_pdu.specs.declared.login_response.LoginResponse.{LoginResponse}
use Rattle.iscsi_login.specs.Session.{older}
use Rattle.iscsi_login.specs.Login.{login}
use Rattle.iscsi_login.specs.declared.session_params.SessionParams.{SessionParams}
use Rattle.iscsi_login.specs.declared.reply.Reply.TheVariants.{Full}
use Rattle.scsi_unit.specs.Failed.{has_failed}
use Rattle.scsi_unit.specs.State.{UnitState}
use Rattle.iscsi_session.specs.Comings.{Coming}
use Rattle.iscsi_session.specs.Requests.{Past, taken, unfinished, functions}
use Rattle.iscsi_session.specs.Transfers.{tag_of}
use Rattle.iscsi_session.specs.State.{AreDistinct}
use Rattle.iscsi_session.specs.Laws.{FinishedInOrder, TagsDiffer}
use Rattle.iscsi_world.specs.History.{Event, Open, Bytes, Gone, Mark, History, happening, marked}
use Rattle.iscsi_world.specs.Life.{Life, LoggingIn, is_over, out_of}
use Rattle.iscsi_world.specs.World.{Setting, World, present, past_of, units_at, reads_life, live, requests_of, lookup_for, close, world}
use Rattle.iscsi_world.specs.Machine.{Machine, IsSound, ReflectsSoundness, WhereSound, IsSure}
use Rattle.iscsi_world.specs.Stands.{Stands}

-- a life before and after bytes came on any connection: it may have more answers, unless it was over
pub record GoesOn (before after : Life) : Type 0 where
  pub connection : after.connection ≡ before.connection
  pub over : is_over after.phase ≡ is_over before.phase
  pub still : is_over before.phase ≡ true → after ≡ before
  pub answered : (more : List ℕ) × (out_of after ≡ out_of before ++ more)

abbrev pub LivesGoOn : List Life → List Life → Type 0
LivesGoOn [] [] = ⊤
LivesGoOn (x ∷ xs) (y ∷ ys) = GoesOn x y × LivesGoOn xs ys
LivesGoOn _ _ = ⊥

-- What was answered stays answered, also if allocations failed, and however the commands came out. Bytes begin and
-- end no life, and each life goes on from what it was.
abbrev pub AnswersStay : Type 0
AnswersStay = (s : Setting) (h : History) (marks : List Mark) (comings : List Coming) (c : ℕ) (piece : List ℕ)
    → LivesGoOn (world s h).lives (world s (h ++ happening marks comings (Bytes c piece) ∷ [])).lives

-- A target whose stores cannot fail is sound.
abbrev pub SureIsSound : Type 0
SureIsSound = (machine : Machine) → IsSure machine → IsSound machine

-- A machine is sound before a call that reflects the soundness of each target, if it is sound after it. So where the
-- call keeps any machine standing, it keeps one standing that is sound.
pub record SoundTargetsWereSound : Type 0 where
  pub back : (old new : Machine) → ReflectsSoundness old new → IsSound new → IsSound old
  pub stands : (s : Setting) (sent then_sent : ℕ → ℕ) (old new : Machine) (h later : History) → ReflectsSoundness old new
      → (Stands s sent old h → Stands s then_sent new later) → WhereSound old (Stands s sent old h) → WhereSound new (Stands s then_sent new later)

-- ---- sessions

-- the piece of an event consists of bytes
abbrev pub HasBytes : Event → Type 0
HasBytes (Open c) = ⊤
HasBytes (Bytes c piece) = AllByRecursion (λ byte. byte < 256) piece
HasBytes (Gone c) = ⊤

-- each request is taken once, and what is finished was taken, in this order
abbrev pub FinishesAsTaken : Option Past → Type 0
FinishesAsTaken None = ⊤
FinishesAsTaken (Some past) = AreDistinct (taken past.came) × FinishedInOrder past

-- In each session that goes on, what is finished was taken: each request at most once, and in the order in which they
-- were taken. This holds of every history, wherever allocations failed.
abbrev pub SessionsFinishAsTaken : Type 0
SessionsFinishAsTaken = (s : Setting) (h : History) (c : ℕ) → AllByRecursion (λ happening. HasBytes happening.event) h
    → FinishesAsTaken (past_of (present c (world s h)))

-- RFC 7143 §11.2.1.8: no two SCSI Commands or Task Management Function Requests that are not finished have one tag
pub record HasDistinctTags (past : Past) : Type 0 where
  pub commands : AreDistinct (map (tag_of past.came) (unfinished past))
  pub functions : AreDistinct (map (tag_of past.came) (functions past))
  pub apart : TagsDiffer past

abbrev pub HaveDistinctTags : Option Past → Type 0
HaveDistinctTags None = ⊤
HaveDistinctTags (Some past) = HasDistinctTags past

-- In each session that goes on, no two requests that are live have one tag, whatever has happened.
abbrev pub LiveTagsAreDistinct : Type 0
LiveTagsAreDistinct = (s : Setting) (h : History) (c : ℕ) → AllByRecursion (λ happening. HasBytes happening.event) h
    → HaveDistinctTags (past_of (present c (world s h)))

-- The end of a session and a Gone change no answer and no session of another connection. A session ends after a
-- violation, a step that failed or a Logout.
pub record OthersStay : Type 0 where
  pub closed : (c d : ℕ) (w : World) → d ≢ c → present d (close c w) ≡ present d w
  pub gone : (s : Setting) (h : History) (marks : List Mark) (c d : ℕ) → d ≢ c → present d (world s (h ++ marked marks (Gone c) ∷ [])) ≡ present d (world s h)

-- ---- the end of another session

-- the connection logs in
abbrev pub LogsIn : ℕ → World → Type 0
LogsIn c w = (life : Life) → present c w ≡ Some life → life.phase ≡ LoggingIn

-- In an event connection c logs in, and its last Login request begins a session. The older session of the same nexus
-- with the same target, that of connection d, ends (RFC 7143 §6.3.5).
pub record Reinstates (s : Setting) (c d : ℕ) (before after : World) : Type 0 where
  pub logs_in : LogsIn c before
  pub earlier : List Frame
  pub request : Frame
  pub response : LoginResponse
  pub session : SessionParams
  pub requests : requests_of (present c after) ≡ earlier ++ request ∷ []
  pub begins : login (c + 1) earlier (lookup_for s.directory (live before) request) request ≡ Full response session
  pub older : older session (live before) ≡ Some d

-- none of the marks is of this connection
abbrev pub are_elsewhere : ℕ → List Mark → Bool
are_elsewhere d marks = list_all (λ mark. not (mark.connection == d)) marks

-- Bytes end no session but that of their own connection, whatever they are and whatever their event does. Each other
-- connection that was read goes on being read. The exceptions: an allocation failed for it, or its session is
-- reinstated.
abbrev pub OthersGoOn : Type 0
OthersGoOn = (s : Setting) (h : History) (marks : List Mark) (comings : List Coming) (c d : ℕ) (piece : List ℕ) → d ≢ c
    → are_elsewhere d marks ≡ true → reads_life (present d (world s h)) ≡ true
    → let after = world s (h ++ happening marks comings (Bytes c piece) ∷ []) in
    (reads_life (present d after) ≡ true) ⊎ Reinstates s c d (world s h) after

-- ---- units

-- own: there is a unit, and a write, a cut or a sync of it failed since it was opened
abbrev pub failed_in : Option UnitState → Bool
failed_in None = false
failed_in (Some unit) = has_failed unit.device

-- the unit at this place among those of a target
abbrev pub has_failed_at : ℕ → ℕ → World → Bool
has_failed_at target place w = failed_in (slice_get (units_at (Some target) w.units) place)

-- A unit of which a write, a cut or a sync failed has failed ever after, whatever happens: nothing opens it again.
abbrev pub FailedUnitsStayFailed : Type 0
FailedUnitsStayFailed = (s : Setting) (h more : History) (target place : ℕ) → has_failed_at target place (world s h) ≡ true
    → has_failed_at target place (world s (h ++ more)) ≡ true
