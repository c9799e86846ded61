-- A Login request does to the World what it does to the code.
use Rattle.std.proofs.Common.{◌≡◌, ◌≢◌, ℕ, ◌+◌, ◌<◌, List, [], ◌∷◌, ◌++◌, map, get_or, Bool, true, cond, Option, Some, None, refl, sym, ap, ◌∙◌, subst, arith}
use Rattle.std.proofs.lemmas.List.{length-map, append-nil, get_or-map}
use Rattle.std.proofs.lemmas.List.Sums.{fold-append}
use Rattle.std.proofs.lemmas.List.Quantifiers.{position-Some}
use Rattle.iscsi_pdu.specs.Frames.{Frame}
use Rattle.iscsi_pdu.specs.Answer.{spelling}
use Rattle.iscsi_pdu.specs.declared.answer.Answer.{Answer}
use Rattle.iscsi_pdu.specs.declared.answer.Answer.TheVariants as answers
use Rattle.scsi_unit.specs.Units.{join}
use Rattle.iscsi_login.specs.Session.{is_of, older}
use Rattle.iscsi_login.specs.LoginState.{new_login}
use Rattle.iscsi_login.specs.Login.{login, advanced, remembered, reply_of}
use Rattle.iscsi_login.specs.declared.session_params.SessionParams.{SessionParams}
use Rattle.iscsi_login.specs.declared.reply.Reply.{Reply}
use Rattle.iscsi_login.specs.declared.reply.Reply.TheVariants.{GoOn, Full, Refused}
use Rattle.iscsi_session.proofs.Accepted.{begun_lawful}
use Rattle.iscsi_login.specs.Directory.{KnownTargets}
use Rattle.iscsi_world.specs.History.{connection_limit, connections}
use Rattle.iscsi_world.specs.Life.{Life, Phase, LoggingIn, Closing, reads, session_answers, out_of, ended_in}
use Rattle.iscsi_world.specs.World.{Setting, World, present, changed, session_of, live, left, close, changed_units, answered, asked, begun, begins, end_older, requests_of, lookup_for, replied, log_in}
use Rattle.iscsi_world.specs.Machine.{LinkState, Machine, link_at, with_link, shut_link, session_in_phase, sessions, free_link, gone_on_link, refused_link, begun_link, shut_older, replied as machine_replied, logged_in}
use Rattle.iscsi_world.specs.Stands.{phase_for, IsQuietIn}
use Rattle.iscsi_world.specs.declared.phase.Phase.{Phase as CodePhase}
use Rattle.iscsi_world.specs.Serving.{Serves}
use Rattle.iscsi_world.specs.declared.phase.Phase.TheVariants as phases
use Rattle.iscsi_world.proofs.Moving.{is_of_none}
use Rattle.iscsi_world.proofs.Lives.{present-changed_other, present-lives, present_is, on_connection, ended_placed, answered_placed, asked_placed, begun_placed, present-placed}
use Rattle.iscsi_world.proofs.Linked.{session_at, live_there, directory_with, units_with, count_there, out-ended, out-more, present-close, present-close_other, life_link, serves_life, half_there}

-- a connection that logs in
pub record Entering (s : Setting) (sent : ℕ → ℕ) (half : ℕ → List ℕ) (w : World) (machine : Machine) (c : ℕ) (life : Life) : Type 0 where
  pub in_range : c < connection_limit
  pub serves : Serves s sent half w machine
  pub at : present c w ≡ Some life
  pub phase : life.phase ≡ LoggingIn

-- ---- what was asked, and answered

asked_other : (w : World) (c d : ℕ) (request : Frame) → d ≢ c → present d (changed (asked request) c w) ≡ present d w
asked_other w c d request differ = present-changed_other (asked request) c d w (λ l. refl) differ

units_changed : (f : Life → Life) (c : ℕ) (w : World) → (changed f c w).units ≡ w.units
unfolding changed
units_changed f c w = refl

units_there : (s : Setting) (sent : ℕ → ℕ) (half : ℕ → List ℕ) (w : World) (machine : Machine) → Serves s sent half w machine → machine.units ≡ w.units
units_there s sent half w machine h = ap (λ (m : Machine). m.units) h.is ∙ units_with s sent half w

-- what was answered: one more
answers_more : (life : Life) (request : Frame) (answer : Answer) → life.phase ≡ LoggingIn
    → out_of (answered answer (asked request life)) ≡ out_of life ++ spelling answer
answers_more life request answer e =
    out-more life (answered answer (asked request life)) (answer ∷ [])
    (ap (λ (p : Phase). (life.answers ++ answer ∷ []) ++ session_answers p) e ∙ append-nil (life.answers ++ answer ∷ [])
    ∙ ap (λ (l : List Answer). l ++ answer ∷ []) (sym (ap (λ (p : Phase). life.answers ++ session_answers p) e ∙ append-nil life.answers)))
    ∙ ap (λ (l : List ℕ). out_of life ++ l) (append-nil (spelling answer))

-- a session's first answer is its login's last
begun_more : (life : Life) (request : Frame) (answer : Answer) (session : SessionParams) → life.phase ≡ LoggingIn
    → out_of (begun session answer (asked request life)) ≡ out_of life ++ spelling answer
begun_more life request answer session e =
    out-more life (begun session answer (asked request life)) (answer ∷ [])
    (append-nil (life.answers ++ answer ∷ [])
    ∙ ap (λ (l : List Answer). l ++ answer ∷ []) (sym (ap (λ (p : Phase). life.answers ++ session_answers p) e ∙ append-nil life.answers)))
    ∙ ap (λ (l : List ℕ). out_of life ++ l) (append-nil (spelling answer))

-- ---- the login goes on

quiet_login : (phase : Phase) → phase ≡ LoggingIn → IsQuietIn phase
quiet_login phase e = rw e tt

link_made : (b : Bool) (half bytes : List ℕ) (p q : CodePhase) (l k : List ℕ) → b ≡ true → bytes ≡ half → p ≡ q → l ≡ k
    → (let made : LinkState = record { half = cond b half []; phase = p; waiting = l } in made) ≡ record { half = bytes; phase = q; waiting = k }
link_made b half bytes p q l k e f g i = rw (e, f, g, i) refl

pub remembered-push : (directory : KnownTargets) (handle : ℕ) (requests : List Frame) (request : Frame)
    → remembered directory handle (requests ++ request ∷ []) ≡ advanced directory (remembered directory handle requests) request
unfolding remembered
remembered-push directory handle requests request = fold-append (advanced directory) (new_login handle) requests (request ∷ [])

-- ---- an older session ends

some_life : (session : SessionParams) (o : Option Life) → is_of session.nexus session.target (session_of o) ≡ true → (life : Life) × (o ≡ Some life)
some_life session o e = grind arith

-- the connection of the older session has one, and is another connection
record HasOlder (c d : ℕ) (w : World) : Type 0 where
  below : d < connection_limit
  apart : d ≢ c
  other : Life
  at : present d w ≡ Some other

-- one connection closes, and leaves no units
ends : (s : Setting) (sent : ℕ → ℕ) (half : ℕ → List ℕ) (w : World) (machine : Machine) (d : ℕ) (life : Life) → d < connection_limit
    → Serves s sent half w machine → present d w ≡ Some life
    → Serves s sent half (changed (ended_in Closing) d w) (with_link machine d (shut_link (link_at machine d)))
ends s sent half w machine d life lt h at =
    let v = changed (ended_in Closing) d w in
    let now : present d v ≡ Some (ended_in Closing life) = present-placed (ended_in Closing) ended_placed d w life at in
    subst (λ (bytes : List ℕ). Serves s sent half v (with_link machine d (life_link s.directory (half d) (ended_in Closing life) bytes)))
    (append-nil (link_at machine d).waiting) (serves_life s sent half w v machine d machine.units life (ended_in Closing life) [] lt h at now
    (λ k differ. present-changed_other (ended_in Closing) d k w (λ l. refl) differ) (out-ended life Closing refl ∙ sym (append-nil (out_of life))) tt
    (units_changed (ended_in Closing) d w ∙ sym (units_there s sent half w machine h)))

present_begun_other : (w : World) (c d : ℕ) (request : Frame) (answer : Answer) (session : SessionParams) → d ≢ c
    → present d (begins session answer c (changed (asked request) c w)) ≡ present d w
present_begun_other w c d request answer session differ =
    let u = changed (asked request) c w in
    present-lives d (begins session answer c u) (changed (begun session answer) c u) refl
    ∙ present-changed_other (begun session answer) c d u (λ l. refl) differ ∙ asked_other w c d request differ

pub map_sessions : (w v : World) (cs : List ℕ) → ((d : ℕ) → session_of (present d v) ≡ session_of (present d w))
    → map (λ c. session_of (present c v)) cs ≡ map (λ c. session_of (present c w)) cs
map_sessions w v [] same = refl
map_sessions w v (c ∷ cs) same = cc (same c, map_sessions w v cs same)

-- ---- the reply to a request, where a connection logs in

module _ (s : Setting) (sent : ℕ → ℕ) (half : ℕ → List ℕ) (w : World) (machine : Machine) (c : ℕ) (life : Life) (request : Frame)
    (h : Entering s sent half w machine c life) where
  present_asked : present c (changed (asked request) c w) ≡ Some (asked request life)
  present_asked = present-placed (asked request) (asked_placed request) c w life h.at

  refuses : (answer : Answer)
      → Serves s sent half (close c (changed (answered answer) c (changed (asked request) c w))) (with_link machine c (refused_link answer
      (link_at machine c)))
  unfolding close
  refuses answer =
      let u = changed (asked request) c w in
      let m = answered answer (asked request life) in
      let v = changed (answered answer) c u in
      let at_v : present c v ≡ Some m = present-placed (answered answer) (answered_placed answer) c u (asked request life) present_asked in
      let none : session_of (present c v) ≡ None = ap session_of at_v ∙ rw h.phase refl in
      serves_life s sent half w (close c v) machine c machine.units life (ended_in Closing m) (spelling answer) h.in_range h.serves h.at
      (present-close c v m at_v) (λ d differ. present-close_other c d v differ ∙ present-changed_other (answered answer) c d u (λ l. refl) differ
      ∙ asked_other w c d request differ) (out-ended m Closing refl ∙ answers_more life request answer h.phase) tt
      (ap (λ (o : Option SessionParams). left o v.units) none ∙ units_changed (answered answer) c u ∙ units_changed (asked request) c w
      ∙ sym (units_there s sent half w machine h.serves))

  goes_on : (answer : Answer)
      → Serves s sent half (changed (answered answer) c (changed (asked request) c w)) (with_link machine c (gone_on_link (advanced s.directory
      (remembered s.directory (life.connection + 1) life.requests) request) answer (link_at machine c)))
  goes_on answer =
      let u = changed (asked request) c w in
      let m = answered answer (asked request life) in
      let v = changed (answered answer) c u in
      let now : present c v ≡ Some m = present-placed (answered answer) (answered_placed answer) c u (asked request life) present_asked in
      let login_ = advanced s.directory (remembered s.directory (life.connection + 1) life.requests) request in
      let waiting = (link_at machine c).waiting ++ spelling answer in
      let phase_now : phase_for s.directory m m.phase ≡ phases.Login login_ = grind (arith, remembered-push) in
      subst (λ (l : LinkState). Serves s sent half v (with_link machine c l))
      (link_made (reads m.phase) (half c) (link_at machine c).half (phase_for s.directory m m.phase) (phases.Login login_) waiting waiting
      (ap reads h.phase) (half_there s sent half w machine c life h.in_range h.serves h.at (ap reads h.phase)) phase_now refl)
      (serves_life s sent half w v machine c machine.units life m (spelling answer) h.in_range h.serves h.at now
      (λ d differ. present-changed_other (answered answer) c d u (λ l. refl) differ ∙ asked_other w c d request differ)
      (answers_more life request answer h.phase) (quiet_login m.phase h.phase)
      (units_changed (answered answer) c u ∙ units_changed (asked request) c w ∙ sym (units_there s sent half w machine h.serves)))

  begins_here : (answer : Answer) (session : SessionParams)
      → Serves s sent half (begins session answer c (changed (asked request) c w)) (record (with_link machine c (begun_link session answer
      (link_at machine c))) { units = changed_units (join session.nexus) session.target machine.units })
  begins_here answer session =
      let u = changed (asked request) c w in
      let m = begun session answer (asked request life) in
      let v = begins session answer c u in
      let now : present c v ≡ Some m =
      present-lives c v (changed (begun session answer) c u) refl
      ∙ present-placed (begun session answer) (begun_placed session answer) c u (asked request life) present_asked in
      let all = changed_units (join session.nexus) session.target machine.units in
      subst (λ (bytes : List ℕ). Serves s sent half v (record (with_link machine c (record (begun_link session answer (link_at machine c)) { half = bytes }))
      { units = all })) (sym (half_there s sent half w machine c life h.in_range h.serves h.at (ap reads h.phase)))
      (serves_life s sent half w v machine c all life m (spelling answer) h.in_range h.serves h.at now
      (λ d differ. present-lives d v (changed (begun session answer) c u) refl ∙ present-changed_other (begun session answer) c d u (λ l. refl) differ
      ∙ asked_other w c d request differ) (begun_more life request answer session h.phase) (begun_lawful session)
      (ap (changed_units (join session.nexus) session.target) (units_changed (asked request) c w ∙ sym (units_there s sent half w machine h.serves))))

  has_older : (d : ℕ) (session : SessionParams) → older session (sessions machine.links) ≡ Some d → HasOlder c d w
  unfolding older
  has_older d session e =
      let p = position-Some (is_of session.nexus session.target) (sessions machine.links) d None e in
      let count = count_there s sent half w machine h.serves in
      let below : d < connection_limit = omega (arith, p.0, length-map machine.links (λ link. session_in_phase link.phase), count) in
      let there : get_or (sessions machine.links) d None ≡ session_of (present d w) =
      get_or-map (λ link. session_in_phase link.phase) machine.links d free_link None (omega (arith, count))
      ∙ session_at s sent half w machine d below h.serves in
      let is : is_of session.nexus session.target (session_of (present d w)) ≡ true = ap (is_of session.nexus session.target) (sym there) ∙ p.1 in
      let other = some_life session (present d w) is in
      record {
        below = below;
        apart = λ same. is_of_none session (session_of (present d w)) is (ap (λ (k : ℕ). session_of (present k w)) same ∙ ap session_of h.at ∙ rw h.phase refl);
        other = other.0;
        at = other.1;
      }

  begins_with : (answer : Answer) (session : SessionParams) (o : Option ℕ) → older session (sessions machine.links) ≡ o
      → Serves s sent half (end_older o (begins session answer c (changed (asked request) c w))) (shut_older o (record (with_link machine c
      (begun_link session answer (link_at machine c))) { units = changed_units (join session.nexus) session.target machine.units }))
  begins_with answer session None e = begins_here answer session
  begins_with answer session (Some d) e =
      let o = has_older d session e in
      ends s sent half (begins session answer c (changed (asked request) c w)) _ d o.other o.below
      (begins_here answer session) (present_begun_other w c d request answer session o.apart ∙ o.at)

  -- the sessions, before and after it was asked
  sessions_asked : (d : ℕ) → session_of (present d (changed (asked request) c w)) ≡ session_of (present d w)
  sessions_asked d = grind (arith, present_asked, asked_other)

  live_asked : live (changed (asked request) c w) ≡ live w
  unfolding live
  live_asked = map_sessions w (changed (asked request) c w) connections sessions_asked

  replies : (reply : Reply)
      → Serves s sent half (replied reply c (changed (asked request) c w)) (machine_replied reply (advanced s.directory (remembered s.directory
      (life.connection + 1) life.requests) request) c machine)
  replies (GoOn response) = goes_on (answers.LoginResponse response)
  replies (Refused response) = refuses (answers.LoginResponse response)
  replies (Full response session) =
      rw (live_asked ∙ live_there s sent half w machine h.serves)
      (begins_with (answers.LoginResponse response) session (older session (sessions machine.links)) refl)

  -- a Login request
  pub logs_in : Serves s sent half (log_in s c request w) (logged_in machine c (remembered s.directory (life.connection + 1) life.requests) request)
  unfolding log_in logged_in
  logs_in =
      let on = on_connection c life (present_is c w life h.at) in
      let login_ = remembered s.directory (life.connection + 1) life.requests in
      let directory : machine.directory ≡ s.directory = ap (λ (m : Machine). m.directory) h.serves.is ∙ directory_with s sent half w in
      let reply = reply_of login_ (lookup_for s.directory (live w) request) request in
      let same : login (c + 1) (requests_of (present c w)) (lookup_for s.directory (live w) request) request ≡ reply = grind arith in
      let P : KnownTargets → Type 0 = λ all. Serves s sent half (replied
      (login (c + 1) (requests_of (present c w)) (lookup_for s.directory (live w) request) request) c (changed (asked request) c w))
      (machine_replied (reply_of login_ (lookup_for all (sessions machine.links) request) request) (advanced all login_ request) c machine) in
      subst P (sym directory) (rw (same, ← live_there s sent half w machine h.serves) (replies reply))
