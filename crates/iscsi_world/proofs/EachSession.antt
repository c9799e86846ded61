-- What is true of each session and kept by each step of it is true whatever has happened.
use Rattle.std.proofs.Common.{◌≡◌, ◌≢◌, ℕ, List, [], ◌∷◌, ◌++◌, Bool, true, false, cond, Option, Some, refl, sym, ap, ◌∙◌, subst, arith}
use Rattle.std.specs.List.{AllByRecursion, fold}
use Rattle.iscsi_pdu.specs.Frames.{Frame}
use Rattle.iscsi_pdu.specs.declared.answer.Answer.{Answer}
use Rattle.iscsi_pdu.specs.declared.answer.Answer.TheVariants as answers
use Rattle.iscsi_login.specs.Session.{is_same_target, older}
use Rattle.iscsi_login.specs.declared.session_params.SessionParams.{SessionParams}
use Rattle.iscsi_login.specs.declared.reply.Reply.{Reply}
use Rattle.iscsi_login.specs.declared.reply.Reply.TheVariants.{GoOn, Full, Refused}
use Rattle.iscsi_session.specs.Requests.{Past, begun as begun_past}
use Rattle.iscsi_session.specs.Steps.{Work, served, settled}
use Rattle.iscsi_world.specs.History.{Event, Open, Bytes, Gone, Mark, History}
use Rattle.iscsi_world.specs.Life.{Life, Closing, born, past_in, ended_in}
use Rattle.iscsi_world.specs.World.{Setting, World, present, changed, past_of, live, close, reaching, end, answered, begun, begins, end_older, replied, log_in, work_of, fails, with_past, worked_on, worked, losing, reset, serve, brought, longer, bring, happen, begun_event, happened, new_world, world}
use Rattle.iscsi_world.specs.Laws.{HasBytes}
use Rattle.iscsi_world.proofs.Framed.{AreBytes, Fits, IsFramed, bytes_joined, new_framed}
use Rattle.iscsi_world.proofs.Lives.{IsPlaced, open_placed, ended_placed, answered_placed, begun_placed, worked_placed, longer_placed, present-was, present-changed_other, present-lives, present-end, present-end_other, found_born, changed_twice}
use Rattle.iscsi_world.proofs.Walks.{Walk, EventWalk, on-brought}

-- its bytes are bytes, and this is so of its session, where it has one
abbrev pub Has : (Past → Type 0) → Life → Type 0
Has Q life = AreBytes life.bytes × ((past : Past) → past_in life.phase ≡ Some past → Q past)

-- the present life of each connection
abbrev pub Each : (ℕ → Past → Type 0) → World → Type 0
Each Q w = (d : ℕ) (life : Life) → present d w ≡ Some life → Has (Q d) life

has_past : (Q : ℕ → Past → Type 0) (c : ℕ) (w : World) (past : Past) (o : Option Life) → present c w ≡ o → Each Q w → past_of o ≡ Some past → Q c past
has_past Q c w past o at each is = grind arith

pub each_past : (Q : ℕ → Past → Type 0) (c : ℕ) (w : World) (past : Past) → Each Q w → past_of (present c w) ≡ Some past → Q c past
each_past Q c w past each is = has_past Q c w past (present c w) refl each is

-- what is so of the sessions as they are
pub each_now : (R Q : ℕ → Past → Type 0) (w : World) → Each R w → ((d : ℕ) (past : Past) → past_of (present d w) ≡ Some past → Q d past) → Each Q w
each_now R Q w each known d life at = ((each d life at).0, λ past is. known d past (ap past_of at ∙ is))

pub each_as : (R Q : ℕ → Past → Type 0) (w : World) → ((d : ℕ) (past : Past) → R d past → Q d past) → Each R w → Each Q w
each_as R Q w further each d life at = let h = each d life at in (h.0, λ past is. further d past (h.1 past is))

pub each_lives : (Q : ℕ → Past → Type 0) (w v : World) → v.lives ≡ w.lives → Each Q w → Each Q v
each_lives Q w v same each d life at = each d life (sym (present-lives d v w same) ∙ at)

same_past : (x y : Past) → Some x ≡ Some y → x ≡ y
same_past x y e = cc

-- ---- a session at work

-- R is so before something is done to connection c, and Q after it
module _ (R Q : ℕ → Past → Type 0) (c : ℕ) (w : World) (others : (d : ℕ) (past : Past) → d ≢ c → R d past → Q d past) (each : Each R w) where
  pub each_put : (f : Life → Life) → IsPlaced f → ((life : Life) → Has (R c) life → Has (Q c) (f life)) → Each Q (changed f c w)
  each_put f placed here d life at = grind (arith, present-was, present-changed_other)

  pub each_worked_on : (work : Work) → Q c work.past → Each Q (worked_on c work w)
  each_worked_on work known = each_lives Q (changed (with_past work.past) c w) (worked_on c work w) refl
      (each_put (with_past work.past) (worked_placed work.past) (λ life h. (h.0, λ past is. subst (Q c) (same_past work.past past is) known)))

  worked_by : (b : Bool) (work : Work) → (b ≡ true → Q c work.past) → Each Q (cond b (worked_on c work w) (close c (worked_on c work w)))
  unfolding close changed
  worked_by true work known = each_worked_on work (known refl)
  worked_by false work known = each_lives Q (changed (λ life. ended_in Closing (with_past work.past life)) c w) (close c (worked_on c work w))
      (changed_twice (with_past work.past) (ended_in Closing) c w.lives (worked_placed work.past))
      (each_put (λ life. ended_in Closing (with_past work.past life)) (open_placed _ (λ life. refl) (λ life. refl)) (λ life h. (h.0, λ past is. absurd cc)))

  -- one that does not go on is closed
  pub each_worked : (work : Work) → (work.goes_on ≡ true → Q c work.past) → Each Q (worked c work w)
  unfolding worked
  each_worked work known = worked_by work.goes_on work known

-- ---- the steps

module _ (Q : ℕ → Past → Type 0) where
  each_changed : (f : Life → Life) (c : ℕ) (w : World) → IsPlaced f → ((life : Life) → Has (Q c) life → Has (Q c) (f life)) → Each Q w → Each Q (changed f c w)
  each_changed f c w placed here each = each_put Q Q c w (λ d past differ q. q) each f placed here

  each_ended : (c : ℕ) (w : World) → Each Q w → Each Q (changed (ended_in Closing) c w)
  each_ended c w each = each_changed (ended_in Closing) c w ended_placed (λ life h. (h.0, λ past is. absurd cc)) each

  each_close : (c : ℕ) (w : World) → Each Q w → Each Q (close c w)
  unfolding close
  each_close c w each = each_lives Q (changed (ended_in Closing) c w) (close c w) refl (each_ended c w each)

  each_older : (o : Option ℕ) (w : World) → Each Q w → Each Q (end_older o w)
  each_older o w each = grind (arith, each_ended)

  each_answered : (answer : Answer) (c : ℕ) (w : World) → Each Q w → Each Q (changed (answered answer) c w)
  each_answered answer c w each = each_changed (answered answer) c w (answered_placed answer) (λ life h. h) each

  each_replied : (reply : Reply) (c : ℕ) (w : World) → ((session : SessionParams) → Q c (begun_past session)) → Each Q w → Each Q (replied reply c w)
  each_replied (GoOn response) c w new each = each_answered (answers.LoginResponse response) c w each
  each_replied (Refused response) c w new each =
      each_close c (changed (answered (answers.LoginResponse response)) c w) (each_answered (answers.LoginResponse response) c w each)
  each_replied (Full response session) c w new each =
      let answer = answers.LoginResponse response in
      each_older (older session (live w)) (begins session answer c w)
      (each_lives Q (changed (begun session answer) c w) (begins session answer c w) refl
      (each_changed (begun session answer) c w (begun_placed session answer)
      (λ life h. (h.0, λ past is. subst (Q c) (same_past (begun_past session) past is) (new session))) each))

  each_logs_in : (s : Setting) (c : ℕ) (request : Frame) (w : World) → ((session : SessionParams) → Q c (begun_past session)) → Each Q w
      → Each Q (log_in s c request w)
  unfolding log_in
  each_logs_in s c request w new each = grind (arith, each_replied, each_changed)

  each_reset : (header : List ℕ) (target : ℕ) (w : World) → Each Q w → Each Q (reset header target w)
  unfolding reset
  each_reset header target w each = each_lives Q w (reset header target w) refl each

  -- what a session does keeps it
  pub each_walk : (marks : List Mark) {IsKnown : ℕ → Frame → Type 0} {IsTarget : ℕ → Type 0}
      → ((c place : ℕ) (frame : Frame) (work : Work) → IsKnown c frame → Q c work.past → (served (fails marks c) place frame work).goes_on ≡ true
      → Q c (served (fails marks c) place frame work).past)
      → ((c target place : ℕ) (work : Work) → IsTarget target → Q c work.past → (settled (fails marks c) place work).goes_on ≡ true
      → Q c (settled (fails marks c) place work).past)
      → ((d target : ℕ) (header : List ℕ) (work : Work) → is_same_target work.past.params.target (Some target) ≡ true → IsTarget target
      → Q d work.past → Q d (losing header work).past)
      → Walk marks (λ w v. Each Q w → Each Q v) IsKnown IsTarget
  each_walk marks serves settles loses = record {
    same = λ w each. each;
    then_ = λ w v u first second each. second (first each);
    serves = λ c past frame place w at known each. each_worked Q Q c w (λ d past differ q. q) each (served (fails marks c) place frame (work_of past w))
        (serves c place frame (work_of past w) known (each_past Q c w past each at));
    settles = λ c target past place w at same own each. each_worked Q Q c w (λ d past differ q. q) each (settled (fails marks c) place (work_of past w))
        (settles c target place (work_of past w) own (each_past Q c w past each at));
    loses = λ d target past header w at same own each. each_worked_on Q Q d w (λ e past differ q. q) each (losing header (work_of past w))
        (loses d target header (work_of past w) same own (each_past Q d w past each at));
    resets = λ header target w own each. each_reset header target w each;
  }

  -- ---- whatever has happened

  each_open : (c : ℕ) (w : World) → Each Q w → Each Q (record w { lives = w.lives ++ born c ∷ [] })
  unfolding present
  each_open c w each d life at = grind (arith, found_born)

  each_end : (c : ℕ) (w : World) → Each Q w → Each Q (end c w)
  each_end c w each d life at = grind (arith, present-end, present-end_other)

  each_longer : (c : ℕ) (piece : List ℕ) (w : World) → AreBytes piece → Each Q w → Each Q (changed (longer piece) c w)
  each_longer c piece w bytes each =
      each_changed (longer piece) c w (longer_placed piece) (λ life h. (bytes_joined life.bytes piece h.0 bytes, h.1)) each

  brought_framed : (o : Option Life) (c : ℕ) (w : World) (piece : List ℕ) → present c w ≡ o → Each Q w → AreBytes piece
      → AllByRecursion IsFramed (brought o piece)
  brought_framed o c w piece at each bytes = grind (arith, new_framed)

  -- where a new session has it, and a frame of a session keeps it
  module _ (s : Setting) (new : (c : ℕ) (session : SessionParams) → Q c (begun_past session))
      (serves : (marks : List Mark) (c place : ℕ) (frame : Frame) (session : Past) (w : World) → past_of (present c w) ≡ Some session → Fits frame
      → Each Q w → Each Q (serve marks c place session.params.target frame w)) where
    each_event : (marks : List Mark) (c : ℕ) → EventWalk s marks c (λ w v. Each Q w → Each Q v) (λ c frame. Fits frame)
    each_event marks c = record {
      same = λ w each. each;
      then_ = λ w v u first second each. second (first each);
      closes = each_close c;
      reaches = λ points w each. each_lives Q w (reaching c points w) refl each;
      logs_in = λ request life w at is each. each_logs_in s c request w (new c) each;
      serves = λ place frame life session w at is fits each. serves marks c place frame session w (ap past_of at ∙ ap past_in is) fits each;
    }

    each_happen : (marks : List Mark) (w : World) (event : Event) → HasBytes event → Each Q w → Each Q (happen s marks w event)
    unfolding bring
    each_happen marks w (Open c) bytes each = each_open c w each
    each_happen marks w (Bytes c piece) bytes each =
        on-brought (each_event marks c) (changed (longer piece) c w) (brought (present c w) piece)
        (brought_framed (present c w) c w piece refl each bytes) (each_longer c piece w bytes each)
    each_happen marks w (Gone c) bytes each = each_end c w each

    each_fold : (w : World) (h : History) → AllByRecursion (λ happening. HasBytes happening.event) h → Each Q w → Each Q (fold (happened s) w h)
    each_fold w [] bytes each = each
    each_fold w (x ∷ h) bytes each = each_fold (happened s w x) h bytes.1
        (each_happen x.marks (begun_event x.comings w) x.event bytes.0 (each_lives Q w (begun_event x.comings w) refl each))

    pub each_world : (h : History) → AllByRecursion (λ happening. HasBytes happening.event) h → Each Q (world s h)
    unfolding world present
    each_world h bytes = each_fold (new_world s) h bytes (λ d life at. absurd cc)
