-- How heavy the connection is that a frame came on.
use Rattle.std.proofs.Common.{◌≡◌, ◌≢◌, ℕ, suc, ◌+◌, ◌<◌, ◌≤◌, ◌&&◌, List, ◌∷◌, ◌++◌, length, take, drop, Bool, true, Option, Some, None, refl, sym, subst, arith, inl, inr}
use Rattle.std.proofs.lemmas.Bool.Decides.{eqb_tells}
use Rattle.std.proofs.lemmas.Bool.{leb-true}
use Rattle.std.proofs.lemmas.List.{length-append, length-take, length-set, length-replicate}
use Rattle.iscsi_pdu.specs.Header.{header_length}
use Rattle.iscsi_pdu.specs.Segment.{segment}
use Rattle.iscsi_pdu.specs.Frames.{Frame, frames, has_frame, first_frame}
use Rattle.iscsi_pdu.specs.Answer.{spelling}
use Rattle.iscsi_pdu.specs.LoginResponse.{login_text}
use Rattle.iscsi_pdu.specs.declared.answer.Answer.TheVariants as answers
use Rattle.iscsi_pdu.specs.declared.login_response.LoginResponse.{LoginResponse}
use Rattle.iscsi_pdu.specs.declared.login_response.LoginRefusal.{LoginRefusal}
use Rattle.iscsi_pdu.proofs.Frames.{frames_none, frames_step}
use Rattle.iscsi_login.specs.LoginState.{LoginState}
use Rattle.iscsi_login.specs.Lookup.{Lookup}
use Rattle.iscsi_login.specs.Session.{older}
use Rattle.iscsi_login.specs.Login.{brought, step_of, begun_by, accepted, handle_with, login_response, reply_with, reply_to, reply_unless, reply_of, advanced}
use Rattle.iscsi_login.specs.Rules.{refusal_of}
use Rattle.iscsi_login.specs.declared.reply.Reply.{Reply}
use Rattle.iscsi_login.specs.declared.reply.Reply.TheVariants.{GoOn, Full, Refused}
use Rattle.iscsi_session.proofs.AtRest.{begun_rests, begun_pending}
use Rattle.iscsi_world.specs.World.{lookup_for}
use Rattle.iscsi_world.specs.Machine.{LinkState, Machine, link_at, with_link, shut_link, closed, sessions, begun_link, shut_older, joined_session, replied, logged_in}
use Rattle.iscsi_world.specs.Bounded.{weight, Rests, AddsAtMost}
use Rattle.iscsi_world.proofs.Moving.{link_set, link_other}
use Rattle.iscsi_world.proofs.Bounding.{adds_none, adds_then, adds_shut}

-- ---- a connection closes

pub closed_link : (machine : Machine) (c : ℕ) → c < length machine.links → link_at (closed machine c) c ≡ shut_link (link_at machine c)
unfolding closed
closed_link machine c lt = link_set machine machine.units c (shut_link (link_at machine c)) lt

pub closed_loads : (n : ℕ) (old new : Machine) (c : ℕ) → c < length old.links → new ≡ closed old c → AddsAtMost n (link_at old c) (link_at new c)
closed_loads n old new c lt is = grind (arith, closed_link)

pub halved_adds : (n : ℕ) (old new : LinkState) (half : List ℕ) → AddsAtMost n (record old { half = half }) new → AddsAtMost n old new
halved_adds n old new half a = a

pub apart_next : (c : ℕ) → c ≢ suc c
apart_next c e = absurd (omega (arith, e))

-- ---- the header of a frame is whole

header_there : (a b c : Bool) → (a && b && c) ≡ true → a ≡ true
header_there a b c e = grind arith

whole_first : (bytes : List ℕ) → has_frame bytes ≡ true → length (first_frame bytes).header ≡ header_length
unfolding has_frame first_frame
whole_first bytes e =
    let long = leb-true header_length (length bytes) (header_there _ _ _ e) in
    omega (arith, long, length-take header_length bytes)

pub header_whole : (bytes : List ℕ) (frame : Frame) (others : List Frame) → frames bytes ≡ frame ∷ others → length frame.header ≡ header_length
header_whole bytes frame others e = grind (arith, frames_step, whole_first, frames_none)

-- ---- a login

segment_long : (bytes : List ℕ) → length (segment bytes) ≤ length bytes + 3
segment_long bytes = grind (arith, length-replicate, length-append)

response_long : (isid : List ℕ) (r : LoginResponse) → r.isid ≡ isid → length isid ≤ 6 → length (login_text r.reply) ≤ 8192
    → length (spelling (answers.LoginResponse r)) ≤ 9000
response_long (a ∷ b ∷ c ∷ d ∷ f ∷ g ∷ h ∷ more) r e le short = absurd (omega (arith, le))
response_long _ r e le short = rw e (omega (arith, short, segment_long (login_text r.reply)))

abbrev IsShortReply : Reply → Type 0
IsShortReply (GoOn response) = length (spelling (answers.LoginResponse response)) ≤ 9000
IsShortReply (Refused response) = length (spelling (answers.LoginResponse response)) ≤ 9000
IsShortReply (Full response session) = length (spelling (answers.LoginResponse response)) ≤ 9000

reply_short : (login : LoginState) (lookup : Lookup) (request : Frame) → IsShortReply (reply_of login lookup request)
unfolding reply_of reply_to login_response
reply_short login lookup request = by_refusal (refusal_of login lookup request)
  where
    isid_short : length (take 6 (drop 8 request.header)) ≤ 6
    isid_short = omega (arith, length-take 6 (drop 8 request.header))

    by_refusal : (o : Option LoginRefusal) → IsShortReply (reply_unless o lookup login request)
    by_refusal (Some refusal) = grind arith
    by_refusal None =
        let now = brought lookup.directory login request in
        let step = step_of request.header now.due in
        let response = login_response now request (handle_with now request.header step) (accepted request.header now.due) in
        let long : length (spelling (answers.LoginResponse response)) ≤ 9000 =
        response_long (take 6 (drop 8 request.header)) response refl isid_short (omega (arith, length-take 8192 now.due)) in
        elim (begun_by now step) as (λ o. IsShortReply (reply_with response now request.header o)) [
          | None ↦ long
          | Some session ↦ long
        ]

-- more waits
more_waits : (old new : LinkState) (more : List ℕ) → new.waiting ≡ old.waiting ++ more → length more ≤ 9000 → weight new ≡ length new.waiting → Rests new.phase
    → AddsAtMost 1 old new
more_waits old new more is short plain rests r = grind (arith, length-append)

older_loads : (o : Option ℕ) (machine : Machine) (c : ℕ) → c < length machine.links → AddsAtMost 0 (link_at machine c) (link_at (shut_older o machine) c)
older_loads None machine c lt = adds_none 0 (link_at machine c)
older_loads (Some d) machine c lt = elim (eqb_tells c d) [
  | inl same ↦ subst (λ (k : ℕ). AddsAtMost 0 (link_at machine c) (link_at (with_link machine k (shut_link (link_at machine k))) c)) same.1
      (subst (AddsAtMost 0 (link_at machine c)) (sym (link_set machine machine.units c (shut_link (link_at machine c)) lt)) (adds_shut 0 (link_at machine c)))
  | inr differ ↦ subst (AddsAtMost 0 (link_at machine c)) (sym (link_other machine machine.units d c (shut_link (link_at machine d)) differ.1))
      (adds_none 0 (link_at machine c))
]

replied_loads : (reply : Reply) (login : LoginState) (c : ℕ) (machine : Machine) → c < length machine.links → IsShortReply reply
    → AddsAtMost 1 (link_at machine c) (link_at (replied reply login c machine) c)
replied_loads (GoOn response) login c machine lt short = search (arith, link_set, more_waits)
replied_loads (Refused response) login c machine lt short = search (arith, link_set, more_waits)
replied_loads (Full response session) login c machine lt short =
    let answer = answers.LoginResponse response in
    let link = begun_link session answer (link_at machine c) in
    let now = joined_session session answer c machine in
    let first : AddsAtMost 1 (link_at machine c) (link_at now c) = subst (AddsAtMost 1 (link_at machine c)) (sym (link_set machine now.units c link lt))
    (more_waits (link_at machine c) link (spelling answer) refl short (omega (arith, begun_pending session)) (begun_rests session)) in
    adds_then 1 0 (link_at machine c) (link_at now c) _ first
    (older_loads (older session (sessions machine.links)) now c (omega (arith, lt, length-set machine.links c link)))

pub logged_in_loads : (machine new : Machine) (c : ℕ) (login : LoginState) (request : Frame) → c < length machine.links
    → new ≡ logged_in machine c login request
    → AddsAtMost 1 (link_at machine c) (link_at new c)
unfolding logged_in
logged_in_loads machine new c login request lt is =
    subst (λ (m : Machine). AddsAtMost 1 (link_at machine c) (link_at m c)) (sym is)
    (replied_loads (reply_of login (lookup_for machine.directory (sessions machine.links) request) request) (advanced machine.directory login request) c
    machine lt (reply_short login (lookup_for machine.directory (sessions machine.links) request) request))
