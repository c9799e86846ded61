-- What an event of bytes leaves of the World: it begins and ends no life, and each goes on from what it was.
use Rattle.std.proofs.Common.{◌≡◌, ℕ, ◌+◌, List, [], ◌∷◌, ◌++◌, map, Bool, true, false, cond, Option, Some, None, refl, sym, ap, ◌∙◌, append_assoc, append-nil, arith}
use Rattle.std.specs.Prelude.{flat_map, ⊤}
use Rattle.std.proofs.lemmas.List.Sums.{fold-append}
use Rattle.iscsi_pdu.specs.Answer.{spelling}
use Rattle.iscsi_pdu.specs.Frames.{Frame}
use Rattle.iscsi_pdu.specs.declared.answer.Answer.{Answer}
use Rattle.iscsi_pdu.specs.declared.answer.Answer.TheVariants as answers
use Rattle.iscsi_login.specs.Session.{older}
use Rattle.iscsi_login.specs.Login.{login}
use Rattle.iscsi_login.specs.declared.session_params.SessionParams.{SessionParams}
use Rattle.iscsi_login.specs.declared.reply.Reply.{Reply}
use Rattle.iscsi_login.specs.declared.reply.Reply.TheVariants.{GoOn, Full, Refused}
use Rattle.iscsi_session.specs.Requests.{Past}
use Rattle.iscsi_session.specs.Steps.{Work, served, settled}
use Rattle.iscsi_session.proofs.Steps.{Extends, served_extends, settled_extends}
use Rattle.iscsi_world.specs.History.{Mark, Point, History, Happening}
use Rattle.iscsi_world.specs.Life.{Life, Phase, LoggingIn, FullFeature, Closing, logs_in, is_over, reads, past_in, session_answers, out_of, ended_in}
use Rattle.iscsi_world.specs.World.{Setting, World, present, changed, past_of, live, close, reaching, answered, asked, begun, begins, requests_of, lookup_for, end_older, replied, log_in, work_of, fails, with_past, worked_on, worked, brought, longer, bring, happened, new_world, world, losing, reset}
use Rattle.iscsi_world.specs.Runs.{RowState, open_row, row_of}
use Rattle.iscsi_world.specs.Laws.{GoesOn, LivesGoOn, AnswersStay, LogsIn}
use Rattle.iscsi_world.proofs.Working.{answers_grow}
use Rattle.iscsi_world.proofs.Following.{Asks, asks_same, LivesFollow, Continues, is_open_here, lives_same, lives_then, lives_go, lives_changed}
use Rattle.iscsi_world.proofs.Walks.{Walk, EventWalk, IsAny, IsAnyFrame, any_arrivals, logs_there, on-serve, on-brought}
use Rattle.iscsi_world.proofs.Choices.{cond_false}
use Rattle.iscsi_world.proofs.Lives.{present-changed_other, present-lives, present_is, IsPlaced, ended_placed, answered_placed, asked_placed, begun_placed, worked_placed, present-placed, present-changed_none, present-was}
use Rattle.iscsi_world.proofs.Linked.{out-ended, out-more, present-reaching}

pub open_life : (c : ℕ) (w : World) (life : Life) → present c w ≡ Some life → is_over life.phase ≡ false
open_life c w life at = is_open_here c life (present_is c w life at)

out-asked : (life : Life) (request : Frame) → out_of (asked request life) ≡ out_of life
unfolding out_of
out-asked life request = refl

pub out-longer : (life : Life) (piece : List ℕ) → out_of (longer piece life) ≡ out_of life
unfolding out_of
out-longer life piece = refl

pub world-push : (s : Setting) (history : History) (h : Happening) → world s (history ++ h ∷ []) ≡ happened s (world s history) h
unfolding world
world-push s history h = fold-append (happened s) (new_world s) history (h ∷ [])

pub open_is : (life : Life) → is_over life.phase ≡ false → row_of life ≡ open_row life.connection
open_is life e = cond_false (is_over life.phase) _ _ e

abbrev pub rows_in : World → List RowState
rows_in w = map row_of w.lives

-- ---- the World

-- after a login a life makes no more Login requests
abbrev pub IsPastLogin : Life → Life → Type 0
IsPastLogin x y = logs_in x.phase ≡ false → (logs_in y.phase ≡ false) × (y.requests ≡ x.requests)

-- a present life has the same bytes, and is read only where it was
abbrev pub Stays : Option Life → Option Life → Type 0
Stays None None = ⊤
Stays None (Some y) = ⊥
Stays (Some x) None = ⊥
Stays (Some x) (Some y) = (y.bytes ≡ x.bytes) × (reads y.phase ≡ true → reads x.phase ≡ true) × IsPastLogin x y

stays_same : (o : Option Life) → Stays o o
stays_same o = grind arith

stays_then : (a b c : Option Life) → Stays a b → Stays b c → Stays a c
stays_then a b c g h = grind arith

-- f of a life keeps its bytes besides
record Keeps (f : Life → Life) (x : Life) : Type 0 where
  goes : Continues f x
  bytes : (f x).bytes ≡ x.bytes
  reads_so : reads (f x).phase ≡ true → reads x.phase ≡ true
  past_login : IsPastLogin x (f x)

-- each life goes on, and what was reached stays so
pub record Prolongs (w v : World) : Type 0 where
  pub lives : LivesFollow w.lives v.lives
  pub stays : (d : ℕ) → Stays (present d w) (present d v)
  pub reached : (more : List Mark) × (v.reached ≡ w.reached ++ more)

pub on-same : (w : World) → Prolongs w w
on-same w = record { lives = lives_same w.lives; stays = λ d. stays_same (present d w); reached = ([], sym (append-nil w.reached)) }

pub on-then : (w v u : World) → Prolongs w v → Prolongs v u → Prolongs w u
on-then w v u a b = grind (arith, lives_then, append_assoc)

changed_stays : (f : Life → Life) (c : ℕ) (w : World) (o : Option Life) → present c w ≡ o → IsPlaced f
    → ((life : Life) → present c w ≡ Some life → Keeps f life) → Stays o (present c (changed f c w))
changed_stays f c w o at placed each = grind (arith, present-changed_none, present-placed)

lives_of : (f : Life → Life) (c : ℕ) (w : World) → ((life : Life) → present c w ≡ Some life → Continues f life) → LivesFollow w.lives (changed f c w).lives
unfolding changed present
lives_of f c w each = lives_changed f c w.lives each

reached_same : (f : Life → Life) (c : ℕ) (w : World) → (changed f c w).reached ≡ w.reached ++ []
unfolding changed
reached_same f c w = sym (append-nil w.reached)

on-changed : (f : Life → Life) (c : ℕ) (w : World) → IsPlaced f → ((life : Life) → present c w ≡ Some life → Keeps f life) → Prolongs w (changed f c w)
on-changed f c w placed each = record {
  lives = lives_of f c w (λ life at. (each life at).goes);
  stays = grind (arith, changed_stays, present-changed_other);
  reached = ([], reached_same f c w);
}

on-cond : (b : Bool) (v u w : World) → Prolongs w v → Prolongs w u → Prolongs w (cond b v u)
on-cond b v u w d e = grind arith

-- the same lives
with_lives : (w v u : World) → Prolongs w v → u.lives ≡ v.lives → (more : List Mark) → u.reached ≡ v.reached ++ more → Prolongs w u
with_lives w v u a e more r = grind (arith, present-lives, append_assoc)

-- nothing more is answered
silent : (f : Life → Life) (life : Life) → Asks life (f life) → is_over (f life).phase ≡ false → out_of (f life) ≡ out_of life → Continues f life
silent f life asks open_ same = grind (arith, append-nil)

ended_keeps : (life : Life) → Keeps (ended_in Closing) life
ended_keeps life = record {
  goes = silent (ended_in Closing) life (asks_same life (ended_in Closing life) refl refl) refl
      (out-ended life Closing refl);
  bytes = refl;
  reads_so = λ e. absurd cc;
  past_login = λ past. (refl, refl);
}

-- ---- the steps

pub on-close : (c : ℕ) (w : World) → Prolongs w (close c w)
unfolding close
on-close c w = with_lives w (changed (ended_in Closing) c w) (close c w)
    (on-changed (ended_in Closing) c w ended_placed (λ life at. ended_keeps life)) refl [] (sym (append-nil _))

pub on-reaching : (c : ℕ) (points : List Point) (w : World) → Prolongs w (reaching c points w)
on-reaching c points w = grind (arith, lives_same, present-reaching)

-- one more answer, where no session has begun or one begins with it
answered_continues : (answer : Answer) (life : Life) → is_over life.phase ≡ false → session_answers life.phase ≡ [] → Continues (answered answer) life
answered_continues answer life open_ none = record {
  connection = refl;
  is_open = open_;
  answered = (
    flat_map spelling (answer ∷ []),
    out-more life (answered answer life) (answer ∷ [])
        (ap (λ (l : List Answer). (life.answers ++ answer ∷ []) ++ l) none ∙ append-nil (life.answers ++ answer ∷ [])
        ∙ ap (λ (l : List Answer). l ++ answer ∷ []) (sym (ap (λ (l : List Answer). life.answers ++ l) none ∙ append-nil life.answers))),
  );
  asks = asks_same life (answered answer life) refl refl;
}

-- ---- a login

logs_in_is : (phase : Phase) → phase ≡ LoggingIn → (is_over phase ≡ false) × (session_answers phase ≡ [])
logs_in_is phase e = rw e (refl, refl)

on-answered : (answer : Answer) (c : ℕ) (w : World) → LogsIn c w → Prolongs w (changed (answered answer) c w)
on-answered answer c w logs = on-changed (answered answer) c w (answered_placed answer) (λ life at.
    (let is = logs_in_is life.phase (logs life at) in
    record { goes = answered_continues answer life is.0 is.1; bytes = refl; reads_so = λ e. e; past_login = λ past. (past, refl) }))

begun_continues : (session : SessionParams) (answer : Answer) (life : Life) → life.phase ≡ LoggingIn → Continues (begun session answer) life
begun_continues session answer life e = record {
  connection = refl;
  is_open = refl;
  answered = (
    flat_map spelling (answer ∷ []),
    out-more life (begun session answer life) (answer ∷ [])
        (append-nil (life.answers ++ answer ∷ [])
        ∙ ap (λ (l : List Answer). l ++ answer ∷ []) (sym (ap (λ (p : Phase). life.answers ++ session_answers p) e ∙ append-nil life.answers))),
  );
  asks = asks_same life (begun session answer life) refl refl;
}

begun_keeps : (session : SessionParams) (answer : Answer) (life : Life) → life.phase ≡ LoggingIn → Keeps (begun session answer) life
begun_keeps session answer life e =
    record { goes = begun_continues session answer life e; bytes = refl; reads_so = λ r. ap reads e; past_login = λ past. (refl, refl) }

on-begins : (session : SessionParams) (answer : Answer) (c : ℕ) (w : World) → LogsIn c w → Prolongs w (begins session answer c w)
on-begins session answer c w logs =
    with_lives w (changed (begun session answer) c w) (begins session answer c w)
    (on-changed (begun session answer) c w (begun_placed session answer) (λ life at. begun_keeps session answer life (logs life at))) refl []
    (sym (append-nil _))

pub on-end_older : (o : Option ℕ) (w : World) → Prolongs w (end_older o w)
on-end_older None w = on-same w
on-end_older (Some d) w = on-changed (ended_in Closing) d w ended_placed (λ life at. ended_keeps life)

pub on-replied : (reply : Reply) (c : ℕ) (w : World) → LogsIn c w → Prolongs w (replied reply c w)
on-replied (GoOn response) c w logs = on-answered (answers.LoginResponse response) c w logs
on-replied (Refused response) c w logs =
    let v = changed (answered (answers.LoginResponse response)) c w in
    on-then w v (close c v) (on-answered (answers.LoginResponse response) c w logs) (on-close c v)
on-replied (Full response session) c w logs =
    let v = begins session (answers.LoginResponse response) c w in
    on-then w v (end_older (older session (live w)) v) (on-begins session (answers.LoginResponse response) c w logs) (on-end_older (older session (live w)) v)

pub asked_logs : (c : ℕ) (request : Frame) (w : World) → LogsIn c w → LogsIn c (changed (asked request) c w)
asked_logs c request w logs = grind (arith, present-was)

on-log_in : (s : Setting) (c : ℕ) (request : Frame) (w : World) → LogsIn c w → Prolongs w (log_in s c request w)
unfolding log_in
on-log_in s c request w logs =
    let v = changed (asked request) c w in
    on-then w v (log_in s c request w)
    (on-changed (asked request) c w (asked_placed request) (λ life at. record {
      goes =
          silent (asked request) life (record { connection = refl; more = request ∷ []; requests = refl })
          (logs_in_is life.phase (logs life at)).0 (out-asked life request);
      bytes = refl;
      reads_so = λ e. e;
      past_login = λ past. absurd (cc (past, ap logs_in (logs life at)));
    }))
    (on-replied (login (c + 1) (requests_of (present c w)) (lookup_for s.directory (live w) request) request) c v (asked_logs c request w logs))

-- ---- a session

past_phase : (phase : Phase) (past : Past) → past_in phase ≡ Some past → phase ≡ FullFeature past
past_phase phase past at = grind arith

past_continues : (c : ℕ) (w : World) (past then_ : Past) (life : Life) (more : List Answer) → present c w ≡ Some life
    → past_of (present c w) ≡ Some past → then_.answers ≡ past.answers ++ more → Continues (with_past then_) life
past_continues c w past then_ life more there at grow =
    let phase : life.phase ≡ FullFeature past = past_phase life.phase past (sym (ap past_of there) ∙ at) in
    record {
      connection = refl;
      is_open = refl;
      answered = (flat_map spelling more, out-more life (with_past then_ life) more (answers_grow life life.phase past then_ more phase grow));
      asks = asks_same life (with_past then_ life) refl refl;
    }

past_keeps : (c : ℕ) (w : World) (past then_ : Past) (life : Life) (more : List Answer) → present c w ≡ Some life
    → past_of (present c w) ≡ Some past → then_.answers ≡ past.answers ++ more → Keeps (with_past then_) life
past_keeps c w past then_ life more there at grow = record {
  goes = past_continues c w past then_ life more there at grow;
  bytes = refl;
  reads_so = λ e. ap reads (past_phase life.phase past (sym (ap past_of there) ∙ at));
  past_login = λ past. (refl, refl);
}

-- the steps were done on the session of the connection
on-worked_on : (c : ℕ) (past : Past) (work : Work) (w : World) → past_of (present c w) ≡ Some past → (more : List Answer)
    → work.past.answers ≡ past.answers ++ more → Prolongs w (worked_on c work w)
on-worked_on c past work w at more grow =
    with_lives w (changed (with_past work.past) c w) (worked_on c work w)
    (on-changed (with_past work.past) c w (worked_placed work.past) (λ life there. past_keeps c w past work.past life more there at grow)) refl _ refl

on-worked : (c : ℕ) (past : Past) (work : Work) (w : World) → past_of (present c w) ≡ Some past → (more : List Answer)
    → work.past.answers ≡ past.answers ++ more → Prolongs w (worked c work w)
unfolding worked
on-worked c past work w at more grow =
    let first = on-worked_on c past work w at more grow in
    on-cond work.goes_on (worked_on c work w) (close c (worked_on c work w)) w first
    (on-then w (worked_on c work w) (close c (worked_on c work w)) first (on-close c (worked_on c work w)))

pub on-reset : (header : List ℕ) (target : ℕ) (w : World) → Prolongs w (reset header target w)
unfolding reset
on-reset header target w = with_lives w w (reset header target w) (on-same w) refl [] (sym (append-nil w.reached))

-- ---- all that a piece of bytes sets off

pub goes_walk : (marks : List Mark) → Walk marks Prolongs IsAnyFrame IsAny
goes_walk marks = record {
  same = on-same;
  then_ = on-then;
  serves = λ c past frame place w at known.
      (let e : Extends (work_of past w) (served (fails marks c) place frame (work_of past w)) = served_extends (fails marks c) place frame (work_of past w) in
      on-worked c past (served (fails marks c) place frame (work_of past w)) w at e.more e.answers);
  settles = λ c target past place w at same own.
      (let e : Extends (work_of past w) (settled (fails marks c) place (work_of past w)) = settled_extends (fails marks c) place (work_of past w) in
      on-worked c past (settled (fails marks c) place (work_of past w)) w at e.more e.answers);
  loses = λ d target past header w at same own. on-worked_on d past (losing header (work_of past w)) w at [] (sym (append-nil past.answers));
  resets = λ header target w own. on-reset header target w;
}

pub goes : (s : Setting) (marks : List Mark) (c : ℕ) → EventWalk s marks c Prolongs IsAnyFrame
goes s marks c = record {
  same = on-same;
  then_ = on-then;
  closes = on-close c;
  reaches = on-reaching c;
  logs_in = λ request life w at is. on-log_in s c request w (logs_there c w life at is);
  serves = λ place frame life session w at is known. on-serve (goes_walk marks) c place session.params.target frame w known (λ target own. tt);
}

pub on-bring : (s : Setting) (marks : List Mark) (c : ℕ) (piece : List ℕ) (w : World) → LivesFollow w.lives (bring s marks c piece w).lives
unfolding bring
on-bring s marks c piece w =
    let v = changed (longer piece) c w in
    let behind = on-brought (goes s marks c) v (brought (present c w) piece) (any_arrivals c (brought (present c w) piece)) in
    lives_then w.lives v.lives (bring s marks c piece w).lives (lives_of (longer piece) c w
    (λ life at. silent (longer piece) life (asks_same life (longer piece life) refl refl) (open_life c w life at) (out-longer life piece))) behind.lives

pub answers_stay : AnswersStay
answers_stay s h marks comings c piece = search (arith, world-push, lives_go, on-bring)

-- ---- the rows

row_goes : (x y : Life) → GoesOn x y → row_of y ≡ row_of x
row_goes x y goes = grind arith

rows_go : (xs ys : List Life) → LivesGoOn xs ys → map row_of ys ≡ map row_of xs
rows_go [] [] go = refl
rows_go [] (y ∷ ys) go = absurd go
rows_go (x ∷ xs) [] go = absurd go
rows_go (x ∷ xs) (y ∷ ys) go = cc (row_goes x y go.0, rows_go xs ys go.1)

pub rows-bring : (s : Setting) (marks : List Mark) (c : ℕ) (piece : List ℕ) (w : World) → rows_in (bring s marks c piece w) ≡ rows_in w
rows-bring s marks c piece w = rows_go w.lives (bring s marks c piece w).lives (lives_go w.lives _ (on-bring s marks c piece w))
