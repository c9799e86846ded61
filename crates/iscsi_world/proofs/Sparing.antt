-- What comes on one connection lets the others go on.
use Rattle.std.proofs.Common.{◌≡◌, ◌≢◌, ℕ, zero, suc, ◌+◌, List, [], ◌∷◌, ◌++◌, map, length, Bool, true, false, not, eqb, Option, Some, None, refl, sym, ap, ◌∙◌, subst, inl, inr, arith}
use Rattle.std.specs.Prelude.{◌⊎◌, find}
use Rattle.std.proofs.lemmas.Bool.Decides.{eqb_tells}
use Rattle.iscsi_pdu.specs.Frames.{Frame}
use Rattle.iscsi_pdu.specs.declared.answer.Answer.TheVariants as answers
use Rattle.iscsi_pdu.specs.declared.login_response.LoginResponse.{LoginResponse}
use Rattle.iscsi_login.specs.Session.{older}
use Rattle.iscsi_login.specs.Login.{login}
use Rattle.iscsi_login.specs.declared.session_params.SessionParams.{SessionParams}
use Rattle.iscsi_login.specs.declared.reply.Reply.{Reply}
use Rattle.iscsi_login.specs.declared.reply.Reply.TheVariants.{GoOn, Full, Refused}
use Rattle.iscsi_session.specs.Requests.{Past, queue}
use Rattle.iscsi_session.specs.Steps.{Step, Doing, Work, first_steps, one_by_one, ready, finish, served, settled}
use Rattle.iscsi_session.specs.Comings.{Coming}
use Rattle.iscsi_session.proofs.Runs.{step_done}
use Rattle.iscsi_world.specs.History.{Point, Mark, connections}
use Rattle.iscsi_world.specs.Life.{Life, LoggingIn, Closing, logs_in, session_in, ended_in}
use Rattle.iscsi_world.specs.World.{Setting, World, is_present, present, changed, reads_life, session_of, past_of, live, close, reaching, is_marked, answered, asked, begun, begins, end_older, requests_of, lookup_for, replied, log_in, fails, work_of, with_past, worked_on, worked, losing, reset, serve, brought, longer, bring, begun_event}
use Rattle.iscsi_world.specs.Laws.{LogsIn, Reinstates, are_elsewhere, OthersGoOn}
use Rattle.iscsi_world.proofs.Choices.{eqb_self}
use Rattle.iscsi_world.proofs.Lives.{some_is, present-changed_other, present-lives, IsPlaced, answered_placed, asked_placed, begun_placed, worked_placed, longer_placed, present-placed, present-changed_none}
use Rattle.iscsi_world.proofs.Linked.{present-close, present-close_other, present-reaching}
use Rattle.iscsi_world.proofs.Working.{present_worked_other}
use Rattle.iscsi_world.proofs.Standing.{present-begun}
use Rattle.iscsi_world.proofs.LoggingIn.{map_sessions}
use Rattle.iscsi_world.proofs.Marks.{unmarked}
use Rattle.iscsi_world.proofs.Walks.{Walk, EventWalk, IsAny, IsAnyFrame, any_arrivals, logs_there, on-serve, on-brought}
use Rattle.iscsi_world.proofs.Keeping.{Prolongs, Stays, goes_walk, on-end_older, world-push}
use Rattle.iscsi_pdu.specs.declared.answer.Answer.{Answer}

-- ---- a session that is settled goes on, where no allocation fails

first_goes : (fails : Step → Bool) (step : Step) (does : ℕ → Work → Work) (requests : List ℕ) (work : Work) → fails step ≡ false
    → ((k : ℕ) (w : Work) → w.goes_on ≡ true → (does k w).goes_on ≡ true) → work.goes_on ≡ true
    → (first_steps fails step does requests work).goes_on ≡ true
first_goes fails step does requests work free goes on = grind (arith, step_done)

all_go : (fails : Step → Bool) (step : ℕ → Step) (line : Past → List ℕ) (does : ℕ → Work → Work) (turn most : ℕ) (work : Work)
    → ((s : Step) → fails s ≡ false) → ((k : ℕ) (w : Work) → w.goes_on ≡ true → (does k w).goes_on ≡ true) → work.goes_on ≡ true
    → (one_by_one fails step line does turn most work).goes_on ≡ true
all_go fails step line does turn zero work free goes on = on
all_go fails step line does turn (suc most) work free goes on =
    all_go fails step line does (suc turn) most (first_steps fails (step turn) does (line work.past) work) free goes
    (first_goes fails (step turn) does (line work.past) work (free (step turn)) goes on)

settled_goes : (fails : Step → Bool) (place : ℕ) (work : Work) → ((s : Step) → fails s ≡ false) → work.goes_on ≡ true
    → (settled fails place work).goes_on ≡ true
unfolding settled finish
settled_goes fails place work free on = all_go fails (Doing place) ready finish 0 (length (queue work.past)) work free (λ k w goes. goes) on

-- ---- a frame of a session

worked_other : (e d : ℕ) (work : Work) (w : World) → d ≢ e → present d (worked e work w) ≡ present d w
unfolding worked
worked_other e d work w differ = grind (arith, present_worked_other, present-close_other)

reads_worked : (o : Option Life) (d : ℕ) (past : Past) (work : Work) (w : World) → present d w ≡ o → past_of o ≡ Some past
    → reads_life (present d (worked_on d work w)) ≡ true
reads_worked None d past work w at has = absurd cc
reads_worked (Some life) d past work w at has =
    ap reads_life (present-lives d (worked_on d work w) (changed (with_past work.past) d w) refl
    ∙ present-placed (with_past work.past) (worked_placed work.past) d w life at)

settled_reads : (d : ℕ) (past : Past) (work : Work) (w : World) → past_of (present d w) ≡ Some past → work.goes_on ≡ true
    → reads_life (present d (worked d work w)) ≡ true
unfolding worked
settled_reads d past work w has on = grind (arith, reads_worked)

-- it goes on being read
abbrev Spares : ℕ → World → World → Type 0
Spares d w v = reads_life (present d w) ≡ true → reads_life (present d v) ≡ true

no_mark : (d : ℕ) (marks : List Mark) (point : Point) → are_elsewhere d marks ≡ true → is_marked marks d point ≡ false
no_mark d marks point free =
    unmarked (λ mark. not (eqb mark.connection d)) marks (record { connection = d; point = point }) free (ap not (eqb_self d))

spares : (d : ℕ) (marks : List Mark) → are_elsewhere d marks ≡ true → Walk marks (Spares d) (λ c frame. d ≢ c) IsAny
unfolding reset
spares d marks free = record {
  same = λ w r. r;
  then_ = λ w v u first second r. second (first r);
  serves = λ c past frame place w at differ r. ap reads_life (worked_other c d (served (fails marks c) place frame (work_of past w)) w differ) ∙ r;
  settles = grind (arith, settled_reads, settled_goes, no_mark, worked_other);
  loses = λ e target past header w at same own r.
      (let work = losing header (work_of past w) in elim (eqb_tells d e) [
        | inl here ↦ ap (λ (k : ℕ). reads_life (present k (worked_on e work w))) here.1 ∙ reads_worked (present e w) e past work w refl at
        | inr differ ↦ ap reads_life (present_worked_other w e d work differ.1) ∙ r
      ]);
  resets = λ header target w own r. ap reads_life (present-lives d (reset header target w) w refl) ∙ r;
}

-- ---- the event

-- only the lives count
live-lives : (w v : World) → w.lives ≡ v.lives → live w ≡ live v
unfolding live present
live-lives w v same = ap (λ (lives : List Life). map (λ c. session_of (find (is_present c) lives)) connections) same

-- of another connection, since the event began: where the connection at work logs in, no session has changed
record Spared (s : Setting) (c d : ℕ) (w v : World) : Type 0 where
  fresh : (life : Life) → present c v ≡ Some life → life.phase ≡ LoggingIn → (live v ≡ live w) × LogsIn c w × (reads_life (present d v) ≡ true)
  on : (reads_life (present d v) ≡ true) ⊎ Reinstates s c d w v

close-lives : (c : ℕ) (w : World) → (close c w).lives ≡ (changed (ended_in Closing) c w).lives
unfolding close
close-lives c w = refl

module _ (s : Setting) (c d : ℕ) (w : World) (differ : d ≢ c) where
  -- a later World, with as many Login requests on the connection at work
  led_on : (v u : World) → requests_of (present c u) ≡ requests_of (present c v) → Spares d v u
      → (reads_life (present d v) ≡ true) ⊎ Reinstates s c d w v → (reads_life (present d u) ≡ true) ⊎ Reinstates s c d w u
  led_on v u same forth spared = grind arith

  past_kept : (x : Life) (o : Option Life) → Stays (Some x) o → logs_in x.phase ≡ false
      → (requests_of o ≡ x.requests) × ((y : Life) → o ≡ Some y → y.phase ≡ LoggingIn → ⊥)
  past_kept x o stays past = grind arith

  -- after the login
  behind : (v u : World) (x : Life) → Prolongs v u → present c v ≡ Some x → logs_in x.phase ≡ false → Spares d v u → Spared s c d w v → Spared s c d w u
  behind v u x goes at past forth spared = grind arith

  closes : (v : World) → Spared s c d w v → Spared s c d w (close c v)
  closes v spared = closes_by (present c v) refl
    where
      further : (requests_of (present c (close c v)) ≡ requests_of (present c v)) → (reads_life (present d (close c v)) ≡ true) ⊎ Reinstates s c d w (close c v)
      further same = led_on v (close c v) same (λ r. ap reads_life (present-close_other c d v differ) ∙ r) spared.on

      closes_by : (o : Option Life) → present c v ≡ o → Spared s c d w (close c v)
      closes_by None at =
          let none : present c (close c v) ≡ None = present-lives c (close c v) (changed (ended_in Closing) c v) (close-lives c v)
          ∙ present-changed_none (ended_in Closing) c v at in
          record { fresh = λ life there is. absurd (cc (none, there)); on = further (ap requests_of none ∙ sym (ap requests_of at)) }
      closes_by (Some x) at =
          let now = present-close c v x at in
          record {
            fresh = λ life there is. (let same : ended_in Closing x ≡ life = cc in absurd (cc (ap (λ (l : Life). l.phase) same, is)));
            on = further (ap requests_of now ∙ sym (ap requests_of at));
          }

  reaches_ : (points : List Point) (v : World) → Spared s c d w v → Spared s c d w (reaching c points v)
  reaches_ points v spared = grind (arith, present-reaching, live-lives)

  -- ---- a Login request

  live-changed : (f : Life → Life) (v : World) (x : Life) → present c v ≡ Some x → IsPlaced f → session_of (Some (f x)) ≡ session_of (Some x)
      → live (changed f c v) ≡ live v
  unfolding live
  live-changed f v x at placed same = map_sessions v (changed f c v) connections (λ e. elim (eqb_tells e c) [
    | inl is ↦ ap (λ (k : ℕ). session_of (present k (changed f c v))) is.1 ∙ ap session_of (present-placed f placed c v x at) ∙ same
        ∙ sym (ap session_of at) ∙ ap (λ (k : ℕ). session_of (present k v)) (sym is.1)
    | inr other ↦ ap session_of (present-changed_other f c e v placed.on other.1)
  ])

  -- the connection logs in, and another one is read
  record Asking_ (v : World) (x : Life) : Type 0 where
    at : present c v ≡ Some x
    is : x.phase ≡ LoggingIn
    live_ : live v ≡ live w
    before : LogsIn c w
    reads_ : reads_life (present d v) ≡ true

  still_logs : (v : World) (x : Life) → Asking_ v x → Spared s c d w v
  still_logs v x a = record { fresh = λ life there is. (a.live_, a.before, a.reads_); on = inl a.reads_ }

  changed_logs : (f : Life → Life) (v : World) (x : Life) → IsPlaced f → (f x).phase ≡ x.phase → Asking_ v x → Asking_ (changed f c v) (f x)
  changed_logs f v x placed phase a = record {
    at = present-placed f placed c v x a.at;
    is = phase ∙ a.is;
    live_ = live-changed f v x a.at placed (ap session_in phase) ∙ a.live_;
    before = a.before;
    reads_ = ap reads_life (present-changed_other f c d v placed.on differ) ∙ a.reads_;
  }

  older_by : (v : World) (x : Life) (request : Frame) (response : LoginResponse) (session : SessionParams) (o : Option ℕ) → Asking_ v x
      → login (c + 1) x.requests (lookup_for s.directory (live w) request) request ≡ Full response session → older session (live w) ≡ o
      → Spared s c d w (end_older o (begins session (answers.LoginResponse response) c (changed (asked request) c v)))
  older_by v x request response session o a begins_ e =
      let answer = answers.LoginResponse response in
      let u = changed (asked request) c v in
      let m = begun session answer (asked request x) in
      let y = begins session answer c u in
      let now : present c y ≡ Some m = present-lives c y (changed (begun session answer) c u) refl
      ∙ present-placed (begun session answer) (begun_placed session answer) c u (asked request x)
      (present-placed (asked request) (asked_placed request) c v x a.at) in
      let reads_y : reads_life (present d y) ≡ true = ap reads_life (present-lives d y (changed (begun session answer) c u) refl
      ∙ present-changed_other (begun session answer) c d u (λ l. refl) differ ∙ present-changed_other (asked request) c d v (λ l. refl) differ) ∙ a.reads_ in
      let kept = past_kept m (present c (end_older o y))
      (subst (λ (p : Option Life). Stays p (present c (end_older o y))) now ((on-end_older o y).stays c)) refl in
      record { fresh = λ life there is. absurd (kept.1 life there is); on = ended o y reads_y kept.0 e }
    where
      ended : (o : Option ℕ) (y : World) → reads_life (present d y) ≡ true → requests_of (present c (end_older o y)) ≡ x.requests ++ request ∷ []
          → older session (live w) ≡ o → (reads_life (present d (end_older o y)) ≡ true) ⊎ Reinstates s c d w (end_older o y)
      ended None y r requests e = inl r
      ended (Some k) y r requests e = grind (arith, present-changed_other)

  answered_logs : (v : World) (x : Life) (request : Frame) (answer : Answer) → Asking_ v x
      → Spared s c d w (changed (answered answer) c (changed (asked request) c v))
  answered_logs v x request answer a = still_logs _ _ (changed_logs (answered answer) (changed (asked request) c v) (asked request x)
      (answered_placed answer) refl (changed_logs (asked request) v x (asked_placed request) refl a))

  replied_ : (v : World) (x : Life) (request : Frame) (reply : Reply) → Asking_ v x
      → login (c + 1) x.requests (lookup_for s.directory (live w) request) request ≡ reply → Spared s c d w (replied reply c (changed (asked request) c v))
  replied_ v x request (GoOn response) a e = answered_logs v x request (answers.LoginResponse response) a
  replied_ v x request (Refused response) a e = closes _ (answered_logs v x request (answers.LoginResponse response) a)
  replied_ v x request (Full response session) a e =
      rw (changed_logs (asked request) v x (asked_placed request) refl a).live_ (older_by v x request response session (older session (live w)) a e refl)

  logs_in_ : (request : Frame) (x : Life) (v : World) → present c v ≡ Some x → x.phase ≡ LoggingIn → Spared s c d w v → Spared s c d w (log_in s c request v)
  unfolding log_in
  logs_in_ request x v at is spared =
      let f = spared.fresh x at is in
      let a : Asking_ v x = record { at = at; is = is; live_ = f.0; before = f.1; reads_ = f.2 } in
      let reply = login (c + 1) x.requests (lookup_for s.directory (live w) request) request in
      let same : login (c + 1) (requests_of (present c v)) (lookup_for s.directory (live v) request) request ≡ reply = grind arith in
      subst (λ (given : Reply). Spared s c d w (replied given c (changed (asked request) c v))) (sym same) (replied_ v x request reply a refl)

  -- ---- all that comes

  spared_walk : (marks : List Mark) → are_elsewhere d marks ≡ true → EventWalk s marks c (λ v u. Spared s c d w v → Spared s c d w u) IsAnyFrame
  spared_walk marks free = record {
    same = λ v spared. spared;
    then_ = λ v u z first second spared. second (first spared);
    closes = closes;
    reaches = reaches_;
    logs_in = logs_in_;
    serves = λ place frame life session v at is known spared. behind v (serve marks c place session.params.target frame v) life
        (on-serve (goes_walk marks) c place session.params.target frame v tt (λ target own. tt)) at (ap logs_in is)
        (on-serve (spares d marks free) c place session.params.target frame v differ (λ target own. tt)) spared;
  }

  -- the longer bytes
  longer_by : (o : Option Life) (piece : List ℕ) (v : World) → present c v ≡ o → live v ≡ live w
      → ((life : Life) → present c v ≡ Some life → life.phase ≡ LoggingIn → LogsIn c w) → reads_life (present d v) ≡ true
      → Spared s c d w (changed (longer piece) c v)
  longer_by None piece v at same logs r = grind (arith, present-changed_none, present-changed_other)
  longer_by (Some x) piece v at same logs r =
      let still = ap reads_life (present-changed_other (longer piece) c d v (λ l. refl) differ) ∙ r in
      record {
        fresh = λ life there is. (
          live-changed (longer piece) v x at (longer_placed piece) refl ∙ same,
          logs x at (ap (λ (l : Life). l.phase)
              (some_is (longer piece x) life (sym (present-placed (longer piece) (longer_placed piece) c v x at) ∙ there)) ∙ is),
          still,
        );
        on = inl still;
      }

  brings : (marks : List Mark) (comings : List Coming) (piece : List ℕ) → are_elsewhere d marks ≡ true → reads_life (present d w) ≡ true
      → Spared s c d w (bring s marks c piece (begun_event comings w))
  unfolding bring
  brings marks comings piece free r =
      let v = begun_event comings w in
      on-brought (spared_walk marks free) (changed (longer piece) c v) (brought (present c v) piece) (any_arrivals c (brought (present c v) piece))
      (longer_by (present c v) piece v refl (live-lives v w refl) (λ life at is. logs_there c w life (sym (present-begun comings c w) ∙ at) is)
      (ap reads_life (present-begun comings d w) ∙ r))

pub others_go_on : OthersGoOn
others_go_on s h marks comings c d piece differ free r = grind (arith, world-push, brings)
