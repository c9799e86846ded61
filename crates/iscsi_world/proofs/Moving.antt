-- What a call leaves of every target, whatever its stores do.
use Rattle.std.proofs.Common.{◌≡◌, ℕ, ◌<◌, List, [], ◌++◌, length, get_or, Bool, true, false, not, Option, Some, None, refl, sym, ap, ◌∙◌, subst, arith, inl, inr, append_assoc}
use Rattle.std.specs.Prelude.{◌≢◌, Result, IfErr}
use Rattle.std.proofs.lemmas.Bool.Decides.{eqb_tells}
use Rattle.std.proofs.lemmas.List.{append-nil, length-set, get_or-set_same, get_or-set_other, get_or-map, length-map}
use Rattle.scsi_unit.specs.Units.{UnitStates, AreSound, AreSure, join}
use Rattle.std.proofs.lemmas.List.Quantifiers.{position-Some}
use Rattle.iscsi_pdu.specs.Frames.{Frame}
use Rattle.iscsi_pdu.specs.declared.answer.Answer.TheVariants as answers
use Rattle.iscsi_login.specs.LoginState.{LoginState, IsTargetBelow}
use Rattle.iscsi_login.specs.Session.{is_of, older}
use Rattle.iscsi_login.specs.declared.session_params.SessionParams.{SessionParams}
use Rattle.iscsi_login.specs.declared.reply.Reply.{Reply}
use Rattle.iscsi_login.specs.declared.reply.Reply.TheVariants.{GoOn, Full, Refused}
use Rattle.iscsi_world.specs.World.{left, units_at, with_units, changed_units}
use Rattle.iscsi_world.specs.Machine.{LinkState, Machine, IsSure, Feeds, link_at, with_link, is_free, is_reading, is_closing, free_link, shut_link, closed, session_in_phase, sessions, is_logging_in, gone_on_link, refused_link, begun_link, shut_older, replied, logged_in, ReflectsSoundness}
use Rattle.iscsi_world.specs.Bounded.{AddsAtMost}
use Rattle.iscsi_world.specs.Serving.{KeepsHalf, Alters, Preserves, IsClosed, first_of, first_starved, ended_unless}
use Rattle.iscsi_world.specs.declared.fault.Starved.{Starved}
use Rattle.iscsi_world.specs.declared.phase.Phase.{Phase}
use Rattle.iscsi_world.proofs.Bounding.{adds_none, adds_shut}
use Rattle.iscsi_world.proofs.Sound.{set_back, sure_set, closed_back, closed_sure, logged_in_back, logged_in_sure, closed_units, logged_in_units}

-- ---- one call after the other

pub keeps_same : (link : LinkState) → is_reading link.phase ≡ true → KeepsHalf link.half link
keeps_same link r = record { reading = λ e. refl; idle = λ e. absurd (cc (r, e)) }

-- the same connections
pub alters_same : (b : ℕ) (given after : Machine) → after.links ≡ given.links → Alters b given after
alters_same b given after same = grind (arith, append-nil)

pub moves_none : (b : ℕ) (machine : Machine) → Preserves b None machine machine
moves_none b machine =
    record { alters = alters_same b machine machine refl; back = λ target sound. sound; sure = λ sure. sure; closing = tt; units = refl }

pub feeds_then : (b : ℕ) (given now after : Machine) → Feeds b given now → Feeds b now after → Feeds b given after
feeds_then k given now after a b = record {
  opens = λ d. b.opens d ∙ a.opens d;
  waits = λ d. (
    (a.waits d).0 ++ (b.waits d).0,
    (b.waits d).1 ∙ ap (λ (bytes : List ℕ). bytes ++ (b.waits d).0) (a.waits d).1 ∙ append_assoc (link_at given d).waiting (a.waits d).0 (b.waits d).0,
  );
  still = λ d idle. b.still d (ap (λ (l : LinkState). is_reading l.phase) (a.still d idle) ∙ idle) ∙ a.still d idle;
  others = λ d other logs. b.others d other (ap (λ (l : LinkState). is_logging_in l.phase) (a.others d other logs) ∙ logs) ∙ a.others d other logs;
}

-- one that is closing stays so
pub closed_then : (x y : Option ℕ) (b : ℕ) (now after : Machine) → IsClosed x now → Feeds b now after → IsClosed y after → IsClosed (first_of x y) after
closed_then x y b now after first feeds then_ = grind arith

pub closing_if : (r : Result (Unit {0}) Starved) (machine : Machine) → IsClosed (first_starved r) machine
    → IfErr r (λ starved. is_closing (link_at machine starved.connection).phase ≡ true)
closing_if r machine closed_ = grind arith

alters_then : (b : ℕ) (given now after : Machine) → Alters b given now → Alters b now after → Alters b given after
alters_then k given now after a b = grind (arith, feeds_then)

pub moves_then : (b : ℕ) (x y : Option ℕ) (given now after : Machine) → Preserves b x given now → Preserves b y now after → Preserves b
    (first_of x y) given after
moves_then k x y given now after a b = record {
  alters = alters_then k given now after a.alters b.alters;
  back = λ target sound. a.back target (b.back target sound);
  sure = λ sure. b.sure (a.sure sure);
  closing = closed_then x y k now after a.closing b.alters.feeds b.closing;
  units = b.units ∙ a.units;
}

pub moves_as : (b : ℕ) (x : Option ℕ) (given now after : Machine) → after ≡ now → Preserves b x given now → Preserves b x given after
moves_as b x given now after e m = let P : Machine → Type 0 = λ after. Preserves b x given after in subst P (sym e) m

-- however the first starved is written
pub moves_starved : (b : ℕ) (x y : Option ℕ) (given after : Machine) → x ≡ y → Preserves b x given after → Preserves b y given after
moves_starved b x y given after e m = let P : Option ℕ → Type 0 = λ x. Preserves b x given after in subst P e m

-- ---- one connection changes

-- how a link may change that is read
pub record Changes (old new : LinkState) : Type 0 where
  pub reads : is_reading old.phase ≡ true
  pub free : is_free new.phase ≡ false
  pub waits : (more : List ℕ) × (new.waiting ≡ old.waiting ++ more)

pub reading_open : (phase : Phase) → is_reading phase ≡ true → is_free phase ≡ false
reading_open phase e = grind arith

pub link_set : (machine : Machine) (units : List UnitStates) (c : ℕ) (link : LinkState) → c < length machine.links
    → link_at (record (with_link machine c link) { units = units }) c ≡ link
link_set machine units c link lt = get_or-set_same machine.links c link free_link lt

pub link_other : (machine : Machine) (units : List UnitStates) (c d : ℕ) (link : LinkState) → (d ≡ c → ⊥)
    → link_at (record (with_link machine c link) { units = units }) d ≡ link_at machine d
link_other machine units c d link differ = get_or-set_other machine.links c d link free_link differ

-- the changes are for this connection, or its session was at work
abbrev pub IsOwn : ℕ → Machine → ℕ → Type 0
IsOwn b machine c = c ≢ b → is_logging_in (link_at machine c).phase ≡ false

pub own_self : (c : ℕ) (machine : Machine) → IsOwn c machine c
own_self c machine = λ other. absurd (other refl)

pub changes_feeds : (b : ℕ) (machine : Machine) (units : List UnitStates) (c : ℕ) (link : LinkState) → c < length machine.links
    → Changes (link_at machine c) link → IsOwn b machine c
    → Feeds b machine (record (with_link machine c link) { units = units })
changes_feeds b machine units c link lt ch own =
    let after : Machine = record (with_link machine c link) { units = units } in
    let here = link_set machine units c link lt in
    record {
      opens = λ d. elim (eqb_tells d c) [
        | inl same ↦ rw same.1 (ap (λ (l : LinkState). not (is_free l.phase)) here ∙ ap not ch.free
            ∙ sym (ap not (reading_open (link_at machine c).phase ch.reads)))
        | inr differ ↦ ap (λ (l : LinkState). not (is_free l.phase)) (link_other machine units c d link differ.1)
      ];
      waits = λ d. elim (eqb_tells d c) [
        | inl same ↦ rw same.1 (ch.waits.0, ap (λ (l : LinkState). l.waiting) here ∙ ch.waits.1)
        | inr differ ↦ ([], ap (λ (l : LinkState). l.waiting) (link_other machine units c d link differ.1) ∙ sym (append-nil (link_at machine d).waiting))
      ];
      still = λ d idle. elim (eqb_tells d c) [
        | inl same ↦ absurd (cc (idle, ap (λ (k : ℕ). is_reading (link_at machine k).phase) same.1, ch.reads))
        | inr differ ↦ link_other machine units c d link differ.1
      ];
      others = λ d other logs. elim (eqb_tells d c) [
        | inl same ↦ absurd (cc (logs, ap (λ (k : ℕ). is_logging_in (link_at machine k).phase) same.1, own (λ here. other (same.1 ∙ here))))
        | inr differ ↦ link_other machine units c d link differ.1
      ];
    }

changes_alters : (b : ℕ) (machine : Machine) (units : List UnitStates) (c : ℕ) (link : LinkState) → c < length machine.links
    → Changes (link_at machine c) link → IsOwn b machine c → KeepsHalf (link_at machine c).half link
    → (c ≢ b → AddsAtMost 0 (link_at machine c) link) → Alters b machine (record (with_link machine c link) { units = units })
changes_alters b machine units c link lt ch own half light = record {
  feeds = changes_feeds b machine units c link lt ch own;
  keeps = λ d reads. elim (eqb_tells d c) [
    | inl same ↦ rw same.1 (subst (KeepsHalf (link_at machine c).half) (sym (link_set machine units c link lt)) half)
    | inr differ ↦ subst (KeepsHalf (link_at machine d).half) (sym (link_other machine units c d link differ.1)) (keeps_same (link_at machine d) reads)
  ];
  eases = λ d other. elim (eqb_tells d c) [
    | inl same ↦ rw same.1 (subst (AddsAtMost 0 (link_at machine c)) (sym (link_set machine units c link lt)) (light (λ here. other (same.1 ∙ here))))
    | inr differ ↦ subst (AddsAtMost 0 (link_at machine d)) (sym (link_other machine units c d link differ.1)) (adds_none 0 (link_at machine d))
  ];
}

pub changes_moves : (b : ℕ) (machine : Machine) (units : List UnitStates) (c : ℕ) (link : LinkState) → c < length machine.links
    → Changes (link_at machine c) link → IsOwn b machine c
    → KeepsHalf (link_at machine c).half link → length units ≡ length machine.units → (c ≢ b → AddsAtMost 0 (link_at machine c) link)
    → let after : Machine = record (with_link machine c link) { units = units } in ReflectsSoundness machine after
    → (IsSure machine → IsSure after) → Preserves b None machine after
changes_moves b machine units c link lt ch own half count light back sure =
    record { alters = changes_alters b machine units c link lt ch own half light; back = back; sure = sure; closing = tt; units = count }

-- ---- a connection closes

shuts : (link : LinkState) → is_reading link.phase ≡ true → Changes link (shut_link link)
shuts link r = record { reads = r; free = refl; waits = ([], sym (append-nil link.waiting)) }

shut_half : (half : List ℕ) (link : LinkState) → KeepsHalf half (shut_link link)
shut_half half link = record { reading = λ e. absurd cc; idle = λ e. refl }

-- whatever becomes of the units
shut_alters : (b : ℕ) (machine : Machine) (units : List UnitStates) (c : ℕ) → c < length machine.links → is_reading (link_at machine c).phase ≡ true
    → IsOwn b machine c → Alters b machine (record (with_link machine c (shut_link (link_at machine c))) { units = units })
shut_alters b machine units c lt r own = changes_alters b machine units c (shut_link (link_at machine c)) lt (shuts (link_at machine c) r) own
    (shut_half (link_at machine c).half (link_at machine c)) (λ other. adds_shut 0 (link_at machine c))

closed_alters : (b : ℕ) (machine : Machine) (c : ℕ) → c < length machine.links → is_reading (link_at machine c).phase ≡ true → IsOwn b machine c
    → Alters b machine (closed machine c)
unfolding closed
closed_alters b machine c lt r own = shut_alters b machine (left (session_in_phase (link_at machine c).phase) machine.units) c lt r own

pub closed_closing : (machine : Machine) (c : ℕ) → c < length machine.links → is_closing (link_at (closed machine c) c).phase ≡ true
unfolding closed
closed_closing machine c lt = ap (λ (l : LinkState). is_closing l.phase) (get_or-set_same machine.links c (shut_link (link_at machine c)) free_link lt)

closed_when : (x : Option ℕ) (b : ℕ) (machine : Machine) (c : ℕ) → c < length machine.links → is_reading (link_at machine c).phase ≡ true
    → IsOwn b machine c → IsClosed x (closed machine c)
    → Preserves b x machine (closed machine c)
closed_when x b machine c lt r own closing = record {
  alters = closed_alters b machine c lt r own;
  back = closed_back machine c;
  sure = λ sure. closed_sure machine c sure;
  closing = closing;
  units = closed_units machine c;
}

pub closed_moves : (b : ℕ) (machine : Machine) (c : ℕ) → c < length machine.links → is_reading (link_at machine c).phase ≡ true → IsOwn b machine c
    → Preserves b None machine (closed machine c)
closed_moves b machine c lt r own = closed_when None b machine c lt r own tt

-- an allocation failed
pub starved_moves : (b : ℕ) (machine : Machine) (c : ℕ) → c < length machine.links → is_reading (link_at machine c).phase ≡ true → IsOwn b machine c
    → Preserves b (Some c) machine (closed machine c)
starved_moves b machine c lt r own = closed_when (Some c) b machine c lt r own (closed_closing machine c lt)

pub closed_count : (machine : Machine) (c : ℕ) → length (closed machine c).links ≡ length machine.links
unfolding closed
closed_count machine c = length-set machine.links c (shut_link (link_at machine c))

pub ended_units : {E : Type 0} (r : Result Bool E) (c : ℕ) (machine : Machine) → length (ended_unless r c machine).units ≡ length machine.units
ended_units r c machine = grind (arith, closed_units)

-- ---- a session's link

pub session_changes : (old new : LinkState) → is_reading old.phase ≡ true → is_free new.phase ≡ false → (more : List ℕ)
    × (new.waiting ≡ old.waiting ++ more) → Changes old new
session_changes old new r free waits = record { reads = r; free = free; waits = waits }

pub session_half : (old new : LinkState) → is_reading new.phase ≡ true → new.half ≡ old.half → KeepsHalf old.half new
session_half old new reads half = record { reading = λ e. half; idle = λ e. absurd (cc (reads, e)) }

-- the units of a session's target were worked on
pub units_back : (machine : Machine) (links : List LinkState) (target : Option ℕ) (units : UnitStates) → IsTargetBelow (length machine.units) target
    → (AreSound units → AreSound (units_at target machine.units))
    → let after : Machine = record machine { units = with_units target units machine.units; links = links } in ReflectsSoundness machine after
units_back machine links None units lt back at sound = sound
units_back machine links (Some target) units lt back at sound = set_back machine.units target units lt back at sound

pub units_sure : (machine : Machine) (links : List LinkState) (target : Option ℕ) (units : UnitStates)
    → (AreSure (units_at target machine.units) → AreSure units)
    → let after : Machine = record machine { units = with_units target units machine.units; links = links } in IsSure machine → IsSure after
units_sure machine links None units forth sure = sure
units_sure machine links (Some target) units forth sure = sure_set machine.units target [] units forth sure

pub length_with : (target : Option ℕ) (units : UnitStates) (all : List UnitStates) → length (with_units target units all) ≡ length all
length_with target units all = grind (arith, length-set)

-- ---- a Login request

alters : (machine : Machine) (units : List UnitStates) (c : ℕ) (link : LinkState) → c < length machine.links → Changes (link_at machine c) link
    → KeepsHalf (link_at machine c).half link → Alters c machine (record (with_link machine c link) { units = units })
alters machine units c link lt ch half = changes_alters c machine units c link lt ch (own_self c machine) half (λ other. absurd (other refl))

pub is_of_none : (session : SessionParams) (o : Option SessionParams) → is_of session.nexus session.target o ≡ true → o ≡ None → ⊥
is_of_none session o e n = grind arith

session_reads : (session : SessionParams) (phase : Phase) → is_of session.nexus session.target (session_in_phase phase) ≡ true → is_reading phase ≡ true
session_reads session phase e = grind arith

session_past_login : (session : SessionParams) (phase : Phase) → is_of session.nexus session.target (session_in_phase phase) ≡ true
    → is_logging_in phase ≡ false
session_past_login session phase e = grind arith

older_reads : (machine : Machine) (session : SessionParams) (d : ℕ) → older session (sessions machine.links) ≡ Some d → (d < length machine.links)
    × (is_of session.nexus session.target (session_in_phase (link_at machine d).phase) ≡ true)
unfolding older
older_reads machine session d e =
    let p = position-Some (is_of session.nexus session.target) (sessions machine.links) d None e in
    let below : d < length machine.links = omega (arith, p.0, length-map machine.links (λ link. session_in_phase link.phase)) in
    let there : get_or (sessions machine.links) d None ≡ session_in_phase (link_at machine d).phase = grind (arith, get_or-map) in
    (below, ap (is_of session.nexus session.target) (sym there) ∙ p.1)

older_alters : (o : Option ℕ) (given machine : Machine) (session : SessionParams) (c : ℕ) (link : LinkState) (units : List UnitStates)
    → c < length given.links → is_reading link.phase ≡ true → machine ≡ record (with_link given c link) { units = units }
    → older session (sessions given.links) ≡ o → Alters c machine (shut_older o machine)
older_alters None given machine session c link units lt reads is e = alters_same c machine machine refl
older_alters (Some d) given machine session c link units lt reads is e =
    let p = older_reads given session d e in
    let there : is_reading (link_at machine d).phase ≡ true = ap (λ (m : Machine). is_reading (link_at m d).phase) is ∙ elim (eqb_tells d c) [
      | inl same ↦ ap (λ (k : ℕ). is_reading (link_at (record (with_link given c link) { units = units }) k).phase) same.1
          ∙ ap (λ (l : LinkState). is_reading l.phase) (link_set given units c link lt) ∙ reads
      | inr differ ↦ ap (λ (l : LinkState). is_reading l.phase) (link_other given units c d link differ.1) ∙ session_reads session (link_at given d).phase p.1
    ] in
    let below : d < length machine.links = omega (arith, p.0, ap (λ (m : Machine). length m.links) is, length-set given.links c link) in
    let own : IsOwn c machine d = λ other.
    (ap (λ (m : Machine). is_logging_in (link_at m d).phase) is ∙ ap (λ (l : LinkState). is_logging_in l.phase)
    (link_other given units c d link other) ∙ session_past_login session (link_at given d).phase p.1) in
    shut_alters c machine machine.units d below there own

replied_alters : (reply : Reply) (login : LoginState) (c : ℕ) (machine : Machine) → c < length machine.links
    → is_reading (link_at machine c).phase ≡ true → Alters c machine (replied reply login c machine)
replied_alters (GoOn response) login c machine lt reads =
    let link = gone_on_link login (answers.LoginResponse response) (link_at machine c) in
    alters machine machine.units c link lt (session_changes (link_at machine c) link reads refl (_, refl)) (session_half (link_at machine c) link refl refl)
replied_alters (Refused response) login c machine lt reads =
    let link = refused_link (answers.LoginResponse response) (link_at machine c) in
    alters machine machine.units c link lt (session_changes (link_at machine c) link reads refl (_, refl))
    (record { reading = λ e. absurd cc; idle = λ e. refl })
replied_alters (Full response session) login c machine lt reads =
    let link = begun_link session (answers.LoginResponse response) (link_at machine c) in
    let units = changed_units (join session.nexus) session.target machine.units in
    let now : Machine = record (with_link machine c link) { units = units } in
    alters_then c machine now (replied (Full response session) login c machine)
    (alters machine units c link lt (session_changes (link_at machine c) link reads refl (_, refl)) (session_half (link_at machine c) link refl refl))
    (older_alters (older session (sessions machine.links)) machine now session c link units lt refl refl refl)

logged_in_alters : (machine : Machine) (c : ℕ) (login : LoginState) (request : Frame) → c < length machine.links
    → is_reading (link_at machine c).phase ≡ true → Alters c machine (logged_in machine c login request)
unfolding logged_in
logged_in_alters machine c login request lt reads = search (arith, replied_alters)

pub logged_in_moves : (machine : Machine) (c : ℕ) (login : LoginState) (request : Frame) → c < length machine.links
    → is_reading (link_at machine c).phase ≡ true → Preserves c None machine (logged_in machine c login request)
logged_in_moves machine c login request lt reads = search (arith, logged_in_alters, logged_in_back, logged_in_sure, logged_in_units)
