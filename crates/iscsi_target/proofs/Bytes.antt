-- The PDUs of a piece are taken, one after the other.
use Rattle.std.proofs.Common.{◌≡◌, ℕ, ◌<◌, List, [], ◌++◌, length, drop, true, false, Option, Some, None, refl, sym, ap, ◌∙◌, subst, inl, inr, arith, append-nil}
use Rattle.std.proofs.lemmas.Bool.{cases_Bool}
use Rattle.std.proofs.lemmas.List.{get_or-set_same, length-set, set-get_or, set-set}
use Rattle.iscsi_pdu.specs.Frames.{Frame, has_frame, is_long}
use Rattle.iscsi_pdu.proofs.Cuts.{has_frame-append}
use Rattle.iscsi_world.specs.History.{arrivals, connection_limit}
use Rattle.iscsi_world.specs.Machine.{LinkState, Machine, link_at, with_link, free_link, shut_link, is_reading, closed, GivesFrame}
use Rattle.iscsi_world.specs.Serving.{TakesFrame, TakesOne, TakesBytes, first_of, kept_piece, put_back}
use Rattle.iscsi_world.proofs.Choices.{cond_false}
use Rattle.iscsi_world.proofs.Feeding.{closed_kept}
use Rattle.iscsi_world.proofs.PutBack.{takes_arrived, served_none}
use Rattle.iscsi_framer.specs.Framer.{HoldsNoMore}
use Rattle.iscsi_world.proofs.Taking.{Progress, begins, goes_on, ends_idle, ends_whole, reads_below, takes_long, takes_none, none_whole, no_bytes, halved_link, halved_reads}

-- the target with the bytes that are still to be taken, if the connection is read
abbrev pub joined : ℕ → List ℕ → Machine → Machine
joined c more machine = put_back c ((link_at machine c).half ++ more) machine

-- a connection that is not read has no bytes
abbrev pub IsIdle : ℕ → Machine → Type 0
IsIdle c machine = is_reading (link_at machine c).phase ≡ false → (link_at machine c).half ≡ []

-- some are taken
pub record TakesOn (c : ℕ) (starved : Option ℕ) (first : Machine) (more : List ℕ) (machine : Machine) : Type 0 where
  pub progress : Progress c starved first (joined c more machine)
  pub idle : IsIdle c machine
  pub one : HoldsNoMore (link_at machine c).half

-- ---- the bytes that are to be taken

as_kept : (c : ℕ) (more : List ℕ) (machine : Machine) → is_reading (link_at machine c).phase ≡ true → joined c more machine ≡ kept_piece c more machine
as_kept c more machine r = rw r refl

link_joined : (c : ℕ) (more : List ℕ) (machine : Machine) → c < length machine.links → is_reading (link_at machine c).phase ≡ true
    → link_at (joined c more machine) c ≡ record (link_at machine c) { half = (link_at machine c).half ++ more }
link_joined c more machine lt r =
    ap (λ (m : Machine). link_at m c) (as_kept c more machine r) ∙ get_or-set_same machine.links c _ free_link lt

reads_joined : (c : ℕ) (more : List ℕ) (machine : Machine) → c < length machine.links → is_reading (link_at machine c).phase ≡ true
    → is_reading (link_at (joined c more machine) c).phase ≡ true
reads_joined c more machine lt r = ap (λ (l : LinkState). is_reading l.phase) (link_joined c more machine lt r) ∙ r

half_joined : (c : ℕ) (more : List ℕ) (machine : Machine) → c < length machine.links → is_reading (link_at machine c).phase ≡ true
    → (link_at (joined c more machine) c).half ≡ (link_at machine c).half ++ more
half_joined c more machine lt r = ap (λ (l : LinkState). l.half) (link_joined c more machine lt r)

count_joined : (c : ℕ) (more : List ℕ) (machine : Machine) → length machine.links ≡ connection_limit
    → length (joined c more machine).links ≡ connection_limit
count_joined c more machine count = length-set machine.links c _ ∙ count

-- they replace what was there
with_joined : (c : ℕ) (more : List ℕ) (machine : Machine) (bytes : List ℕ) → c < length machine.links → is_reading (link_at machine c).phase ≡ true
    → with_link (joined c more machine) c (record (link_at (joined c more machine) c) { half = bytes })
    ≡ with_link machine c (record (link_at machine c) { half = bytes })
with_joined c more machine bytes lt r =
    ap (λ (l : LinkState). with_link (joined c more machine) c (record l { half = bytes })) (link_joined c more machine lt r)
    ∙ ap (λ links. (let m : Machine = record machine { links = links } in m)) (set-set machine.links c _ _)

closed_joined : (c : ℕ) (more : List ℕ) (machine : Machine) → c < length machine.links → closed (joined c more machine) c ≡ closed machine c
closed_joined c more machine lt = closed_kept machine c _ lt

-- none are left
joined_none : (c : ℕ) (machine : Machine) → IsIdle c machine → is_reading (link_at machine c).phase ≡ false → (more : List ℕ)
    → joined c more machine ≡ machine
joined_none c machine idle r more =
    ap (λ (bytes : List ℕ). with_link machine c (record (link_at machine c) { half = bytes })) (cond_false _ _ _ r ∙ sym (idle r))
    ∙ ap (λ links. (let m : Machine = record machine { links = links } in m)) (set-get_or machine.links c free_link)

-- an empty piece
pub kept_nothing : (c : ℕ) (machine : Machine) → kept_piece c [] machine ≡ machine
kept_nothing c machine =
    ap (λ (bytes : List ℕ). with_link machine c (record (link_at machine c) { half = bytes })) (append-nil (link_at machine c).half)
    ∙ ap (λ links. (let m : Machine = record machine { links = links } in m)) (set-get_or machine.links c free_link)

-- ---- the first

pub takes_begin : (c : ℕ) (piece : List ℕ) (machine : Machine) → c < connection_limit → is_reading (link_at machine c).phase ≡ true
    → HoldsNoMore (link_at machine c).half → TakesOn c None (kept_piece c piece machine) piece machine
takes_begin c piece machine in_range r one =
    let lt = reads_below machine c r in
    let is = as_kept c piece machine r in
    record {
      progress = subst (λ (m : Machine). Progress c None m (joined c piece machine)) is
          (begins (joined c piece machine) c in_range (reads_joined c piece machine lt r));
      idle = λ e. absurd (cc (e, r));
      one = one;
    }

-- ---- one more

pub takes_next : (c : ℕ) (machine given after : Machine) (frame : Frame) (piece : List ℕ) (used : ℕ) (b : Option ℕ) → c < connection_limit
    → length machine.links ≡ connection_limit → is_reading (link_at machine c).phase ≡ true
    → GivesFrame frame ((link_at machine c).half ++ piece) (drop used piece)
    → given ≡ with_link machine c (record (link_at machine c) { half = [] }) → TakesFrame c frame b given after
    → TakesOne c b (joined c piece machine) (joined c (drop used piece) after) × ((link_at after c).half ≡ [])
takes_next c machine given after frame piece used b in_range count r gives is takes =
    let lt : c < length machine.links = omega (arith, count) in
    let none = served_none given after c frame b (halved_reads machine given c [] in_range count is r)
    (ap (λ (l : LinkState). l.half) (halved_link machine given c [] in_range count is)) takes in
    let back : put_back c (drop used piece) after ≡ joined c (drop used piece) after =
    ap (λ (bytes : List ℕ). put_back c (bytes ++ drop used piece) after) (sym none) in (
      subst (λ (m : Machine). TakesOne c b (joined c piece machine) m) back
          (takes_arrived (joined c piece machine) given after (put_back c (drop used piece) after) c frame (drop used piece) b in_range
          (count_joined c piece machine count) (reads_joined c piece machine lt r)
          (subst (λ (x : List ℕ). GivesFrame frame x (drop used piece)) (sym (half_joined c piece machine lt r)) gives)
          (is ∙ sym (with_joined c piece machine [] lt r)) takes refl),
      none,
    )

pub takes_then : (c : ℕ) (a b : Option ℕ) (first machine after : Machine) (piece rest : List ℕ) → c < connection_limit
    → is_reading (link_at machine c).phase ≡ true → TakesOn c a first piece machine
    → TakesOne c b (joined c piece machine) (joined c rest after) × ((link_at after c).half ≡ []) → TakesOn c (first_of a b) first rest after
takes_then c a b first machine after piece rest in_range r on next =
    let lt = reads_below machine c r in
    record {
      progress = goes_on c a b first (joined c piece machine) (joined c rest after) (reads_joined c piece machine lt r) on.progress next.0;
      idle = λ e. next.1;
      one = λ short. omega (arith, ap (λ (x : List ℕ). length x) next.1);
    }

-- ---- the end

-- the connection is not read any more
pub takes_idle : (c : ℕ) (starved : Option ℕ) (first machine : Machine) (piece : List ℕ) → c < connection_limit
    → is_reading (link_at machine c).phase ≡ false → TakesOn c starved first piece machine → TakesBytes c starved first machine
takes_idle c starved first machine piece in_range r on =
    let P : Machine → Type 0 = λ m. Progress c starved first m in
    inl (ends_idle c starved first machine in_range r (subst P (joined_none c machine on.idle r piece) on.progress))

-- nothing whole is left, and all bytes are kept
pub takes_kept : (c : ℕ) (starved : Option ℕ) (first machine after : Machine) (piece : List ℕ) → c < connection_limit
    → is_reading (link_at machine c).phase ≡ true → TakesOn c starved first piece machine
    → after ≡ kept_piece c piece machine → arrivals ((link_at machine c).half ++ piece) ≡ [] → TakesBytes c starved first after
takes_kept c starved first machine after piece in_range r on is none =
    let lt = reads_below machine c r in
    let P : Machine → Type 0 = λ m. TakesBytes c starved first m in
    subst P (as_kept c piece machine r ∙ sym is) (inl
    (ends_whole c starved first (joined c piece machine) (reads_joined c piece machine lt r)
    (ap arrivals (half_joined c piece machine lt r) ∙ none) on.progress))

-- nothing is whole from the start
pub takes_part : (c : ℕ) (machine after : Machine) (piece : List ℕ) → c < connection_limit → is_reading (link_at machine c).phase ≡ true
    → after ≡ kept_piece c piece machine → arrivals ((link_at machine c).half ++ piece) ≡ [] → TakesBytes c None (kept_piece c piece machine) after
takes_part c machine after piece in_range r is none =
    let first = joined c piece machine in
    let lt = reads_below machine c r in
    let reads = reads_joined c piece machine lt r in
    let takes : TakesBytes c None first first = inl (ends_whole c None first first reads (ap arrivals (half_joined c piece machine lt r) ∙ none)
    (begins first c in_range reads)) in
    subst (λ (m : Machine). TakesBytes c None (kept_piece c piece machine) m) (sym is)
    (subst (λ (m : Machine). TakesBytes c None m m) (as_kept c piece machine r) takes)

-- the piece ends where a PDU does
pub takes_end : (c : ℕ) (starved : Option ℕ) (first machine : Machine) (piece : List ℕ) → c < connection_limit → TakesOn c starved first piece machine
    → piece ≡ [] → (link_at machine c).half ≡ [] → TakesBytes c starved first machine
takes_end c starved first machine piece in_range on none empty = elim (cases_Bool (is_reading (link_at machine c).phase)) [
  | inl r ↦ takes_kept c starved first machine machine piece in_range r on
      (sym (ap (λ (x : List ℕ). kept_piece c x machine) none ∙ kept_nothing c machine))
      (ap (λ (x : List ℕ). arrivals (x ++ piece)) empty ∙ ap arrivals none ∙ no_bytes)
  | inr idle ↦ takes_idle c starved first machine piece in_range idle on
]

-- it was closed
closes_then : (c : ℕ) (a b : Option ℕ) (first machine after : Machine) (piece : List ℕ) → c < connection_limit
    → length machine.links ≡ connection_limit → is_reading (link_at machine c).phase ≡ true → TakesOn c a first piece machine
    → is_reading (link_at after c).phase ≡ false → TakesOne c b (joined c piece machine) after → TakesBytes c (first_of a b) first after
closes_then c a b first machine after piece in_range count r on shut one =
    let lt : c < length machine.links = omega (arith, count) in
    inl (ends_idle c (first_of a b) first after in_range shut
    (goes_on c a b first (joined c piece machine) after (reads_joined c piece machine lt r) on.progress one))

shut_closed : (machine after : Machine) (c : ℕ) → c < length machine.links → after ≡ closed machine c → is_reading (link_at after c).phase ≡ false
unfolding closed
shut_closed machine after c lt is = ap (λ (m : Machine). is_reading (link_at m c).phase) is
    ∙ ap (λ (l : LinkState). is_reading l.phase) (get_or-set_same machine.links c (shut_link (link_at machine c)) free_link lt)

first_none : (a : Option ℕ) → first_of a None ≡ a
first_none None = refl
first_none (Some c) = refl

-- a header names too much data
pub takes_too_long : (c : ℕ) (starved : Option ℕ) (first machine after : Machine) (piece : List ℕ) → c < connection_limit
    → length machine.links ≡ connection_limit → is_reading (link_at machine c).phase ≡ true → TakesOn c starved first piece machine
    → is_long ((link_at machine c).half ++ piece) ≡ true → after ≡ closed machine c → TakesBytes c starved first after
takes_too_long c starved first machine after piece in_range count r on long is =
    let lt : c < length machine.links = omega (arith, count) in
    let one = takes_long (joined c piece machine) after c in_range (count_joined c piece machine count) (reads_joined c piece machine lt r)
    (ap is_long (half_joined c piece machine lt r) ∙ long) (is ∙ sym (closed_joined c piece machine lt)) in
    let P : Option ℕ → Type 0 = λ o. TakesBytes c o first after in
    subst P (first_none starved) (closes_then c starved None first machine after piece in_range count r on (shut_closed machine after c lt is) one)

-- an allocation failed
pub takes_starved : (c : ℕ) (starved : Option ℕ) (first machine after : Machine) (piece : List ℕ) → c < connection_limit
    → length machine.links ≡ connection_limit → is_reading (link_at machine c).phase ≡ true → TakesOn c starved first piece machine
    → (is_long ((link_at machine c).half ++ piece) ≡ true → ⊥) → after ≡ closed machine c → TakesBytes c (first_of starved (Some c)) first after
takes_starved c starved first machine after piece in_range count r on fits is =
    let lt : c < length machine.links = omega (arith, count) in
    let half = half_joined c piece machine lt r in
    let closes = is ∙ sym (closed_joined c piece machine lt) in
    elim (cases_Bool (has_frame ((link_at machine c).half ++ piece))) [
      | inl whole ↦ closes_then c starved (Some c) first machine after piece in_range count r on (shut_closed machine after c lt is)
          (takes_none (joined c piece machine) after c in_range (count_joined c piece machine count) (reads_joined c piece machine lt r)
          (ap has_frame half ∙ whole) closes)
      | inr none ↦ (
          let short : is_long ((link_at machine c).half ++ piece) ≡ false = (elim (cases_Bool (is_long ((link_at machine c).half ++ piece))) [
            | inl long ↦ absurd (fits long)
            | inr short ↦ short
          ]) in
          inr (record {
            earlier = starved;
            mid = joined c piece machine;
            takes = ends_whole c starved first (joined c piece machine) (reads_joined c piece machine lt r)
                (ap arrivals half ∙ none_whole ((link_at machine c).half ++ piece) none short) on.progress;
            reads = reads_joined c piece machine lt r;
            closes = closes;
            first = refl;
          }))
    ]

-- ---- all bytes are a piece

-- the target that has none of them, and then all
pub unpacked : (c : ℕ) (machine given : Machine) (piece bytes : List ℕ) → c < connection_limit → length machine.links ≡ connection_limit
    → given ≡ with_link machine c (record (link_at machine c) { half = [] }) → bytes ≡ (link_at machine c).half ++ piece
    → kept_piece c bytes given ≡ kept_piece c piece machine
unpacked c machine given piece bytes in_range count is bytes_is =
    let link = halved_link machine given c [] in_range count is in
    ap (λ (l : LinkState). with_link given c (record l { half = l.half ++ bytes })) link
    ∙ ap (λ (m : Machine). with_link m c (record (link_at machine c) { half = bytes })) is
    ∙ ap (λ links. (let m : Machine = record machine { links = links } in m)) (set-set machine.links c _ _)
    ∙ ap (λ (x : List ℕ). with_link machine c (record (link_at machine c) { half = x })) bytes_is

-- they could not be unpacked
pub unpack_starved : (c : ℕ) (machine after : Machine) (piece : List ℕ) → c < connection_limit → length machine.links ≡ connection_limit
    → is_reading (link_at machine c).phase ≡ true → has_frame (link_at machine c).half ≡ true → after ≡ closed machine c
    → TakesBytes c (Some c) (kept_piece c piece machine) after
unpack_starved c machine after piece in_range count r whole is =
    let lt : c < length machine.links = omega (arith, count) in
    let kept = as_kept c piece machine r in
    let P : Machine → Type 0 = λ m. TakesBytes c (Some c) m after in
    subst P kept (inl (ends_idle c (Some c) (joined c piece machine) after in_range (shut_closed machine after c lt is)
    (goes_on c None (Some c) (joined c piece machine) (joined c piece machine) after (reads_joined c piece machine lt r)
    (begins (joined c piece machine) c in_range (reads_joined c piece machine lt r))
    (takes_none (joined c piece machine) after c in_range (count_joined c piece machine count) (reads_joined c piece machine lt r)
    (ap has_frame (half_joined c piece machine lt r) ∙ has_frame-append (link_at machine c).half piece whole)
    (is ∙ sym (closed_joined c piece machine lt))))))
