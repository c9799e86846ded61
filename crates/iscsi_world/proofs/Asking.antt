-- A Login request at one connection of the code, before its answer is sent.
use Rattle.std.specs.Result.{OnErr}
use Rattle.std.proofs.Common.{◌≡◌, ℕ, arith, ◌<◌, List, Result, length, set, get_or, true, Option, Some, None, refl, ap, ◌∙◌}
use Rattle.std.proofs.lemmas.List.{length-map, get_or-map, get_or-set_same, map-set, set-set, set-get_or}
use Rattle.iscsi_pdu.specs.Frames.{Frame}
use Rattle.iscsi_pdu.specs.declared.answer.Answer.{Answer}
use Rattle.iscsi_pdu.specs.declared.answer.Answer.TheVariants as answers
use Rattle.iscsi_pdu.specs.declared.login_response.LoginResponse.{LoginResponse}
use Rattle.iscsi_login.specs.LoginState.{LoginState}
use Rattle.iscsi_login.specs.Session.{older}
use Rattle.iscsi_login.specs.Login.{reply_of}
use Rattle.iscsi_login.specs.declared.session_params.SessionParams.{SessionParams}
use Rattle.iscsi_login.specs.declared.reply.Reply.{Reply}
use Rattle.iscsi_login.specs.declared.reply.Reply.TheVariants.{Full}
use Rattle.scsi_unit.specs.Units.{join}
use Rattle.iscsi_world.specs.World.{changed_units, lookup_for}
use Rattle.iscsi_world.specs.Machine.{LinkState, Machine, link_at, with_link, closed, begun, begun_link, shut_older, logged_in, is_logging_in, is_reading, session_in_phase, sessions, free_link, IsAnswered}
use Rattle.iscsi_world.proofs.Lending.{get_or_any}
use Rattle.iscsi_world.specs.declared.phase.Phase.{Phase}
use Rattle.iscsi_world.specs.declared.phase.Phase.TheVariants.{Login}

-- ---- phases

pub login_there : (phase : Phase) → is_logging_in phase ≡ true → (login : LoginState) × (phase ≡ Login login)
login_there phase e = grind arith

pub no_session : (phase : Phase) → is_logging_in phase ≡ true → session_in_phase phase ≡ None
no_session phase e = grind arith

pub still_reading : (phase : Phase) → is_logging_in phase ≡ true → is_reading phase ≡ true
still_reading phase e = grind arith

-- ---- a connection whose session has still to begin

pub record IsWaiting (reply : Reply) (old : LinkState) (response : LoginResponse) (session : SessionParams) (new : LinkState) : Type 0 where
  pub reply_is : reply ≡ Full response session
  pub same : new ≡ record old { phase = new.phase }
  pub logging_in : is_logging_in new.phase ≡ true

some_is : {X : Type 0} (x y : X) → Some x ≡ Some y → x ≡ y
some_is x y e = cc

pub waits : (reply : Reply) (after : LoginState) (old new : LinkState) (response : LoginResponse) (session : SessionParams)
    → IsAnswered reply after old (Some (response, session)) new → IsWaiting reply old response session new
waits reply after old new response session h = grind arith

-- ---- the machine with that connection

-- the connection that was lent, of a machine on which it logs in
pub record Enters (machine given : Machine) (c : ℕ) (was : LinkState) : Type 0 where
  pub same : machine ≡ given
  pub in_range : c < length machine.links
  pub old : was ≡ link_at machine c
  pub logs : is_logging_in (link_at machine c).phase ≡ true
  pub login : LoginState
  pub there : was.phase ≡ Login login

pub enters : (machine given : Machine) (c : ℕ) (was d : LinkState) → machine ≡ given → length machine.links ≡ 64 → c < 64
    → was ≡ get_or machine.links c d → is_logging_in (link_at given c).phase ≡ true → Enters machine given c was
enters machine given c was d same count lt is logs_given = grind (arith, get_or_any, login_there)

pub link_there : (machine : Machine) (c : ℕ) (link : LinkState) → c < length machine.links → link_at (with_link machine c link) c ≡ link
link_there machine c link lt = get_or-set_same machine.links c link free_link lt

module _ (machine given : Machine) (c : ℕ) (was link : LinkState) (e : Enters machine given c was) where
  pub closed_asked : link.waiting ≡ was.waiting → session_in_phase link.phase ≡ None → closed (with_link machine c link) c ≡ closed given c
  unfolding closed
  closed_asked waiting none = grind (arith, link_there, set-set)

  pub reads_asked : is_logging_in link.phase ≡ true → is_reading (link_at (with_link machine c link) c).phase ≡ true
  reads_asked logs = ap (λ (l : LinkState). is_reading l.phase) (link_there machine c link e.in_range) ∙ still_reading link.phase logs

set_own : {X : Type 0} (xs : List X) (i : ℕ) (x d : X) → get_or xs i d ≡ x → i < length xs → set xs i x ≡ xs
set_own xs i x d e lt = rw (← e) (set-get_or xs i d)

-- its session begins as on the connection as it was
pub begun_alike : (machine : Machine) (c : ℕ) (link : LinkState) (session : SessionParams) (answer : Answer) → c < length machine.links
    → link ≡ record (link_at machine c) { phase = link.phase } → is_logging_in link.phase ≡ true → is_logging_in (link_at machine c).phase ≡ true
    → begun session answer c (with_link machine c link) ≡ begun session answer c machine
begun_alike machine c link session answer lt same now was =
    let there = link_there machine c link lt in
    let units = changed_units (join session.nexus) session.target machine.units in
    let live : sessions (set machine.links c link) ≡ sessions machine.links =
    map-set (λ (l : LinkState). session_in_phase l.phase) machine.links c link
    ∙ ap (λ (o : Option SessionParams). set (sessions machine.links) c o) (no_session link.phase now)
    ∙ set_own (sessions machine.links) c None None (get_or-map (λ (l : LinkState). session_in_phase l.phase) machine.links c free_link None lt
    ∙ no_session (link_at machine c).phase was) (rw length-map lt) in
    let begins : begun_link session answer (link_at (with_link machine c link) c) ≡ begun_link session answer (link_at machine c) = grind arith in
    let links : set (set machine.links c link) c (begun_link session answer (link_at (with_link machine c link) c))
    ≡ set machine.links c (begun_link session answer (link_at machine c)) = grind (arith, set-set) in
    ap (λ (ls : List LinkState). shut_older (older session (sessions (set machine.links c link)))
    (record { directory = machine.directory; units = units; links = ls })) links
    ∙ ap (λ (all : List (Option SessionParams)). shut_older (older session all)
    (record { directory = machine.directory; units = units; links = set machine.links c (begun_link session answer (link_at machine c)) })) live

-- the answer to a Login request, where full feature phase begins
pub begun_by_request : (machine : Machine) (c : ℕ) (login : LoginState) (request : Frame) (session : SessionParams) (response : LoginResponse)
    → reply_of login (lookup_for machine.directory (sessions machine.links) request) request ≡ Full response session
    → begun session (answers.LoginResponse response) c machine ≡ logged_in machine c login request
unfolding logged_in
begun_by_request machine c login request session response e = rw e refl

-- ---- results

pub on_err : {X E P : Type 0} (r : Result X E) → P → OnErr r P
on_err r p = grind arith
