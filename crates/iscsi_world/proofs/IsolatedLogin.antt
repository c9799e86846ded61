-- A login depends on the sessions of the target that it names alone.
use Rattle.std.proofs.Common.{◌≡◌, ℕ, ◌+◌, List, [], ◌∷◌, ◌++◌, Bool, true, cond, Option, Some, None, refl, ap, arith}
use Rattle.std.specs.Option.{option_or, option_and_then}
use Rattle.std.specs.List.{fold}
use Rattle.std.proofs.lemmas.List.Sums.{fold-append}
use Rattle.iscsi_pdu.specs.Frames.{Frame}
use Rattle.iscsi_pdu.specs.declared.login_response.LoginResponse.{LoginResponse}
use Rattle.iscsi_pdu.specs.declared.login_response.LoginRefusal.{LoginRefusal}
use Rattle.iscsi_text.specs.Pairs.{Pair}
use Rattle.iscsi_login.specs.Directory.{KnownTargets}
use Rattle.iscsi_login.specs.LoginState.{LoginState}
use Rattle.iscsi_login.specs.Lookup.{Lookup, lookup_in}
use Rattle.iscsi_login.specs.Rules.{reads_text, pairs_with, asked_for, asked_by, first_refusal, session_refusal, text_refusal, refusal_of}
use Rattle.iscsi_login.specs.Login.{heard, brought, advanced, remembered, params_of, reply_to, reply_unless, reply_of}
use Rattle.iscsi_login.specs.Session.{is_of}
use Rattle.iscsi_login.specs.declared.session_params.SessionParams.{SessionParams}
use Rattle.iscsi_login.specs.declared.requested_session.RequestedSession.{RequestedSession}
use Rattle.iscsi_login.specs.declared.reply.Reply.TheVariants.{Full}
use Rattle.iscsi_world.specs.Life.{Life}
use Rattle.iscsi_world.specs.World.{asked}
use Rattle.iscsi_world.specs.Isolation.{named_in}
use Rattle.iscsi_world.proofs.LoggingIn.{remembered-push}

abbrev pub target_of : Option RequestedSession → Option ℕ
target_of o = option_and_then (λ (session : RequestedSession). session.target) o

-- ---- one request more

pub named_asked : (directory : KnownTargets) (life : Life) (request : Frame)
    → named_in directory (asked request life) ≡ target_of (advanced directory (remembered directory (life.connection + 1) life.requests) request).session
unfolding named_in
named_asked directory life request = ap (λ (l : LoginState). target_of l.session) (remembered-push directory (life.connection + 1) life.requests request)

pub advanced_session : (directory : KnownTargets) (login : LoginState) (request : Frame)
    → (advanced directory login request).session ≡ (brought directory login request).session
unfolding advanced
advanced_session directory login request = refl

pub heard_session : (directory : KnownTargets) (login : LoginState) (header : List ℕ) (pairs : List Pair)
    → (heard directory login header pairs).session ≡ option_or login.session (asked_by login.session directory header pairs)
unfolding heard
heard_session directory login header pairs = refl

-- the session that the first whole text asks for stays
stays_by : (reads due : Bool) (login heard_ kept_ : LoginState) (session : RequestedSession) → heard_.session ≡ Some session → login.session ≡ Some session
    → kept_.session ≡ Some session → (cond reads heard_ (cond due login kept_)).session ≡ Some session
stays_by reads due login heard_ kept_ session a b c = grind arith

session_stays : (directory : KnownTargets) (login : LoginState) (request : Frame) (session : RequestedSession) → login.session ≡ Some session
    → (advanced directory login request).session ≡ Some session
session_stays directory login request session e = grind (arith, advanced_session, heard_session)

session_later : (directory : KnownTargets) (login : LoginState) (more : List Frame) (session : RequestedSession) → login.session ≡ Some session
    → (fold (advanced directory) login more).session ≡ Some session
session_later directory login [] session e = e
session_later directory login (request ∷ more) session e =
    session_later directory (advanced directory login request) more session (session_stays directory login request session e)

-- a life that names a target goes on to name it
pub named_later : (directory : KnownTargets) (x y : Life) (more : List Frame) (t : ℕ) → y.connection ≡ x.connection → y.requests ≡ x.requests ++ more
    → named_in directory x ≡ Some t → named_in directory y ≡ Some t
unfolding named_in remembered
named_later directory x y more t c e n = grind (arith, fold-append, session_later)

-- ---- the session that begins

unless_full : (o : Option LoginRefusal) (lookup : Lookup) (login : LoginState) (request : Frame) (r : LoginResponse) (params : SessionParams)
    → reply_unless o lookup login request ≡ Full r params → params.target ≡ target_of (advanced lookup.directory login request).session
unfolding reply_to params_of
unless_full o lookup login request r params e = grind (arith, advanced_session)

-- it is with the target that was asked for
pub full_target : (login : LoginState) (lookup : Lookup) (request : Frame) (r : LoginResponse) (params : SessionParams)
    → reply_of login lookup request ≡ Full r params → params.target ≡ target_of (advanced lookup.directory login request).session
unfolding reply_of
full_target login lookup request r params e = unless_full (refusal_of login lookup request) lookup login request r params e

-- ---- what it is refused for

-- two sessions are told from that which is asked for in the same way
abbrev pub AreAlike : KnownTargets → LoginState → Frame → Option SessionParams → Option SessionParams → Type 0
AreAlike directory login request a b = (session : RequestedSession) → (advanced directory login request).session ≡ Some session
    → is_of session.nexus session.target a ≡ is_of session.nexus session.target b

first_alike : (directory : KnownTargets) (header : List ℕ) (pairs : List Pair) (a b : Option SessionParams)
    → is_of (asked_for directory header pairs).nexus (asked_for directory header pairs).target a
    ≡ is_of (asked_for directory header pairs).nexus (asked_for directory header pairs).target b
    → first_refusal (lookup_in directory a) header pairs ≡ first_refusal (lookup_in directory b) header pairs
unfolding first_refusal
first_alike directory header pairs a b e = grind arith

text_by : (o : Option RequestedSession) (directory : KnownTargets) (login : LoginState) (request : Frame) (a b : Option SessionParams) → login.session ≡ o
    → reads_text login request ≡ true → AreAlike directory login request a b
    → session_refusal o (lookup_in directory a) request.header (pairs_with login request)
    ≡ session_refusal o (lookup_in directory b) request.header (pairs_with login request)
text_by o directory login request a b e reads alike = grind (arith, first_alike, advanced_session, heard_session)

refused_by : (reads : Bool) (directory : KnownTargets) (login : LoginState) (request : Frame) (a b : Option SessionParams) → reads_text login request ≡ reads
    → AreAlike directory login request a b
    → cond reads (text_refusal login (lookup_in directory a) request) None ≡ cond reads (text_refusal login (lookup_in directory b) request) None
unfolding text_refusal
refused_by reads directory login request a b e alike = grind (arith, text_by)

-- then the reply is the same
pub reply_alike : (directory : KnownTargets) (login : LoginState) (request : Frame) (a b : Option SessionParams) → AreAlike directory login request a b
    → reply_of login (lookup_in directory a) request ≡ reply_of login (lookup_in directory b) request
unfolding reply_of refusal_of
reply_alike directory login request a b alike = grind (arith, refused_by)
