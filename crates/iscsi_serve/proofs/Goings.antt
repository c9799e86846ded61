-- What each connection's step in a turn does.
use Rattle.std.proofs.Common.{◌≡◌, ℕ, ◌<◌, ◌≤◌, List, [], ◌∷◌, ◌++◌, length, take, drop, set, get_or, Bool, true, false, ◌||◌, ◌&&◌, not, eqb, refl, sym, ap, ◌∙◌, subst, inl, inr, arith}
use Rattle.std.specs.Prelude.{nat_lt}
use Rattle.std.specs.List.{list_any}
use Rattle.std.proofs.lemmas.Bool.{lt-ltb, eqb-true}
use Rattle.std.proofs.lemmas.Bool.Decides.{eqb_tells}
use Rattle.std.proofs.lemmas.List.{get_or-set_same, get_or-set_other, get_or-replicate, length-take-le, take-append-drop}
use Rattle.std.proofs.lemmas.List.Folds.{list_any-append}
use Rattle.iscsi_target.specs.History.{connection_limit}
use Rattle.iscsi_target.specs.Machine.{Machine, Feeds, link_at, with_link, is_open_at, is_closing, is_silent, opened_link, sent_link, closed, free_link}
use Rattle.iscsi_target.proofs.Choices.{and_false, and_true, cond_true}
use Rattle.target_limits.specs.Numbers.{is_number}
use Rattle.iscsi_outbox.specs.Offered.{EndsPdu}
use Rattle.iscsi_ports.specs.Log.{Carried, Bytes, Entry, Open, NobodyCame, Read, Wrote, Close}
use Rattle.iscsi_serve.specs.Served.{IsFed}
use Rattle.iscsi_serve.specs.Turn.{Moment, moment, changed, told, IfElse, opened, free_number, HasAccepted, is_read, room_for, HasFed, HasRead, Reads, piece_in, is_written, after_write, HasWritten, Writes, is_end, ends, is_closed, Closes}
use Rattle.iscsi_serve.specs.Progress.{AreEnded, none_ended, IsDue, MovesBy}
use Rattle.iscsi_ports.specs.declared.results.Named.{Named}
use Rattle.iscsi_serve.proofs.Fronts.{offered_within}
use Rattle.iscsi_serve.proofs.Moments.{none_more, one_more}

where_due : (b : Bool) (A B : Type 0) → b ≡ true → A → IfElse b A B
where_due true A B e a = a
where_due false A B e a = absurd cc

pub where_not : (b : Bool) (A B : Type 0) → b ≡ false → B → IfElse b A B
where_not true A B e a = absurd cc
where_not false A B e a = a

-- ---- who has ended

ends_not : (d : ℕ) (turn : List Entry) (entry : Entry) → ends d entry ≡ false → list_any (ends d) (turn ++ entry ∷ []) ≡ list_any (ends d) turn
ends_not d turn entry e =
    list_any-append (ends d) turn (entry ∷ []) ∙ ap (λ (b : Bool). list_any (ends d) turn || (b || false)) e ∙ or_none (list_any (ends d) turn)
  where
    or_none : (b : Bool) → (b || false) ≡ b
    or_none true = refl
    or_none false = refl

pub ended_same : (ended : List Bool) (entry : Entry) → ((d : ℕ) → ends d entry ≡ false) → (turn : List Entry) → AreEnded ended turn
    → AreEnded ended (turn ++ entry ∷ [])
ended_same ended entry none turn are d lt = are d lt ∙ sym (ends_not d turn entry (none d))

ended_now : (ended : List Bool) (entry : Entry) (c : ℕ) → length ended ≡ 64 → c < 64 → ((d : ℕ) → ends d entry ≡ (eqb c d && true))
    → (turn : List Entry) → AreEnded ended turn → AreEnded (set ended c true) (turn ++ entry ∷ [])
ended_now ended entry c len lt one turn are d below = elim (eqb_tells c d) [
  | inl same ↦ (
      let here : list_any (ends d) (turn ++ entry ∷ []) ≡ true =
      list_any-append (ends d) turn (entry ∷ []) ∙ ap (λ (b : Bool). list_any (ends d) turn || (b || false))
      (one d ∙ ap (λ (b : Bool). b && true) same.0) ∙ or_true (list_any (ends d) turn) in
      ap (λ (k : ℕ). get_or (set ended c true) k false) (sym same.1) ∙ get_or-set_same ended c true false (omega (arith, len)) ∙ sym here)
  | inr differ ↦ get_or-set_other ended c d true false (λ e. differ.1 (sym e)) ∙ are d below ∙ sym
      (ends_not d turn entry (one d ∙ ap (λ (b : Bool). b && true) differ.0))
]
  where
    or_true : (b : Bool) → (b || true) ≡ true
    or_true true = refl
    or_true false = refl

pub none_ended_by : (turn : List Entry) → ((c : ℕ) → list_any (ends c) turn ≡ false) → AreEnded none_ended turn
none_ended_by turn none c lt = get_or-replicate 64 c false false lt ∙ sym (none c)

-- ---- reads

pub no_read : (log : List Entry) (target : Machine) (ended : List Bool) (named : Named) (c : ℕ) → is_read named c (link_at target c) ≡ false
    → MovesBy (Reads named c) log log target target ended ended
no_read log target ended named c e =
    none_more (Reads named c) log target ended
    (λ before turn are.
    let m = moment target before turn in
    where_not (is_read named c (link_at target c)) (HasRead c (room_for (link_at target c)) m m) (m ≡ m) e refl)

read_due : (m n : Moment) (named : Named) (c room : ℕ) → IsDue named c room m.target → HasRead c room m n → Reads named c m n
read_due m n named c room due does =
    where_due (is_read named c (link_at m.target c)) (HasRead c (room_for (link_at m.target c)) m n) (n ≡ m) due.due
    (subst (λ (room : ℕ). HasRead c room m n) due.is_room does)

fed : (m n : Moment) (c room : ℕ) (piece : List ℕ) (after : Machine) → 0 < length piece → Feeds c m.target after
    → IsFed c piece m.target after → n ≡ changed (Read c room (Bytes piece)) after m → HasFed c (Read c room (Bytes piece)) (Bytes piece) m n
fed m n c room [] after some feeds is_fed e = absurd (omega (arith, some))
fed m n c room (byte ∷ piece) after some feeds is_fed e = (after, feeds, is_fed, e)

-- it gave bytes, which were fed
pub read_some : (log log_then : List Entry) (target after : Machine) (named : Named) (ended : List Bool) (c room : ℕ) (piece : List ℕ)
    → IsDue named c room target → 0 < length piece → length piece ≤ room
    → log_then ≡ log ++ Read c room (Bytes piece) ∷ [] → Feeds c target after
    → IsFed c piece target after → MovesBy (Reads named c) log log_then target after ended ended
read_some log log_then target after named ended c room piece due some fits e feeds is_fed =
    let entry : Entry = Read c room (Bytes piece) in
    one_more (Reads named c) log log_then target after ended ended entry (ended_same ended entry (λ d. and_false (eqb c d))) e
    (λ before turn are.
    let m = moment target before turn in let n = changed entry after m in
    read_due m n named c room due (Bytes piece, fits, fed m n c room piece after some feeds is_fed refl))

-- it would have waited
pub read_none : (log log_then : List Entry) (target : Machine) (named : Named) (ended : List Bool) (c room : ℕ) → IsDue named c room target
    → log_then ≡ log ++ Read c room (Bytes []) ∷ [] → MovesBy (Reads named c) log log_then target target ended ended
read_none log log_then target named ended c room due e =
    let entry : Entry = Read c room (Bytes []) in
    one_more (Reads named c) log log_then target target ended ended entry (ended_same ended entry (λ d. and_false (eqb c d))) e
    (λ before turn are. let m = moment target before turn in read_due m (told entry m) named c room due (Bytes [], omega arith, refl))

-- it told an end or a fault
pub read_ended : (log log_then : List Entry) (target : Machine) (named : Named) (ended : List Bool) (c room : ℕ) (carried : Carried)
    → c < connection_limit → length ended ≡ 64 → IsDue named c room target → is_end carried ≡ true
    → log_then ≡ log ++ Read c room carried ∷ [] → MovesBy (Reads named c) log log_then target target ended (set ended c true)
read_ended log log_then target named ended c room (Bytes piece) lt len due over e = absurd cc
read_ended log log_then target named ended c room carried lt len due over e =
    let entry : Entry = Read c room carried in
    one_more (Reads named c) log log_then target target ended (set ended c true) entry (ended_now ended entry c len lt (λ d. refl)) e
    (λ before turn are. let m = moment target before turn in read_due m (told entry m) named c room due (carried, omega arith, refl))

-- ---- writes

no_write : (log : List Entry) (target : Machine) (ended : List Bool) (c : ℕ) → is_written (link_at target c) ≡ false
    → MovesBy (Writes c) log log target target ended ended
no_write log target ended c e =
    none_more (Writes c) log target ended
    (λ before turn are.
    let m = moment target before turn in
    where_not (is_written (link_at target c)) (HasWritten c (link_at target c).waiting m m) (m ≡ m) e refl)

pub free_write : (log : List Entry) (target : Machine) (ended : List Bool) (c : ℕ) → is_open_at target c ≡ false
    → MovesBy (Writes c) log log target target ended ended
free_write log target ended c e = no_write log target ended c (ap (λ (b : Bool). b && nat_lt 0 (length (link_at target c).waiting)) e)

pub empty_write : (log : List Entry) (target : Machine) (ended : List Bool) (c : ℕ) → (link_at target c).waiting ≡ []
    → MovesBy (Writes c) log log target target ended ended
empty_write log target ended c e =
    no_write log target ended c (ap (λ (waiting : List ℕ). is_open_at target c && nat_lt 0 (length waiting)) e ∙ and_false (is_open_at target c))

pub silent_write : (log : List Entry) (target : Machine) (ended : List Bool) (c : ℕ) → is_silent (link_at target c) ≡ true
    → MovesBy (Writes c) log log target target ended ended
silent_write log target ended c e = let link = link_at target c in
    empty_write log target ended c (none_waits link.waiting (and_true (eqb (length link.waiting) 0) (not (is_closing link.phase)) e).0)
  where
    none_waits : (waiting : List ℕ) → eqb (length waiting) 0 ≡ true → waiting ≡ []
    none_waits [] e = refl
    none_waits (byte ∷ bytes) e = absurd (omega (arith, eqb-true (length (byte ∷ bytes)) 0 e))

-- a front of what waits was offered, and this is what came of it
written : (m n : Moment) (c : ℕ) (offered unwritten : List ℕ) (carried : Carried) → is_open_at m.target c ≡ true
    → offered ≡ take (length offered) (link_at m.target c).waiting → EndsPdu (link_at m.target c).waiting offered → 0 < length offered
    → offered ≡ piece_in carried ++ unwritten
    → n ≡ changed (Wrote c (length offered) carried) (after_write c carried m.target) m → Writes c m n
written m n c offered unwritten carried open_ front ends some all e =
    let waiting = (link_at m.target c).waiting in
    let due : is_written (link_at m.target c) ≡ true =
    ap (λ (b : Bool). b && nat_lt 0 (length waiting)) open_
    ∙ lt-ltb 0 (length waiting) (omega (arith, some, offered_within offered waiting front)) in
    where_due (is_written (link_at m.target c)) (HasWritten c waiting m n) (n ≡ m) due
    (offered, ends.after, ends.front, some, ends.whole, (carried, unwritten, all, e))

-- bytes were written
pub write_some : (log log_then : List Entry) (target after : Machine) (ended : List Bool) (c n : ℕ) (offered : List ℕ) → is_open_at target c ≡ true
    → offered ≡ take (length offered) (link_at target c).waiting → EndsPdu (link_at target c).waiting offered → 0 < length offered
    → n ≤ length offered → log_then ≡ log ++ Wrote c (length offered) (Bytes (take n offered)) ∷ []
    → after ≡ with_link target c (sent_link (link_at target c) n) → MovesBy (Writes c) log log_then target after ended ended
write_some log log_then target after ended c n offered open_ front ends some le e now =
    let piece = take n offered in
    let entry : Entry = Wrote c (length offered) (Bytes piece) in
    let all : after ≡ after_write c (Bytes piece) target = now ∙ ap (λ (n : ℕ). with_link target c (sent_link (link_at target c) n))
    (sym (length-take-le n offered le)) in
    one_more (Writes c) log log_then target after ended ended entry (ended_same ended entry (λ d. and_false (eqb c d))) e
    (λ before turn are.
    written (moment target before turn) (moment after before (turn ++ entry ∷ [])) c offered (drop n offered) (Bytes piece) open_ front ends some
    (sym (take-append-drop n offered))
    (ap (λ (after : Machine). moment after before (turn ++ entry ∷ [])) all))

-- the write told an end or a fault
pub write_ended : (log log_then : List Entry) (target : Machine) (ended : List Bool) (c : ℕ) (carried : Carried) (offered : List ℕ)
    → c < connection_limit → length ended ≡ 64 → is_open_at target c ≡ true
    → offered ≡ take (length offered) (link_at target c).waiting → EndsPdu (link_at target c).waiting offered → 0 < length offered
    → is_end carried ≡ true
    → log_then ≡ log ++ Wrote c (length offered) carried ∷ [] → MovesBy (Writes c) log log_then target target ended (set ended c true)
write_ended log log_then target ended c (Bytes piece) offered lt len open_ front ends some over e = absurd cc
write_ended log log_then target ended c carried offered lt len open_ front ends some over e =
    let entry : Entry = Wrote c (length offered) carried in
    one_more (Writes c) log log_then target target ended (set ended c true) entry (ended_now ended entry c len lt (λ d. refl)) e
    (λ before turn are. let m = moment target before turn in written m (told entry m) c offered offered carried open_ front ends some refl refl)

-- ---- closes

no_close : (log : List Entry) (target : Machine) (ended : List Bool) (c : ℕ)
    → ((turn : List Entry) → AreEnded ended turn → is_closed c turn (link_at target c) ≡ false) → MovesBy (Closes c) log log target target ended ended
no_close log target ended c e =
    none_more (Closes c) log target ended
    (λ before turn are.
    let m = moment target before turn in
    where_not (is_closed c turn (link_at target c)) (m ≡ changed (Close c) (with_link (closed target c) c free_link) m) (m ≡ m) (e turn are) refl)

pub free_close : (log : List Entry) (target : Machine) (ended : List Bool) (c : ℕ) → is_open_at target c ≡ false
    → MovesBy (Closes c) log log target target ended ended
free_close log target ended c e =
    no_close log target ended c
    (λ turn are. ap (λ (b : Bool). b && (list_any (ends c) turn || is_closing (link_at target c).phase && eqb (length (link_at target c).waiting) 0)) e)

-- it has ended, or the target has closed it and nothing waits on it
abbrev pub is_done : List Bool → Machine → ℕ → Bool
is_done ended target c = get_or ended c false || is_closing (link_at target c).phase && eqb (length (link_at target c).waiting) 0

done_is : (target : Machine) (ended : List Bool) (c : ℕ) (done : Bool) (turn : List Entry) → c < connection_limit → AreEnded ended turn
    → is_done ended target c ≡ done → is_closed c turn (link_at target c) ≡ (is_open_at target c && done)
done_is target ended c done turn lt are e =
    ap (λ (b : Bool). is_open_at target c && (b || is_closing (link_at target c).phase && eqb (length (link_at target c).waiting) 0)) (sym (are c lt))
    ∙ ap (λ (b : Bool). is_open_at target c && b) e

pub open_close : (log : List Entry) (target : Machine) (ended : List Bool) (c : ℕ) → c < connection_limit → is_done ended target c ≡ false
    → MovesBy (Closes c) log log target target ended ended
open_close log target ended c lt e = no_close log target ended c (λ turn are. done_is target ended c false turn lt are e ∙ and_false (is_open_at target c))

pub close_due : (log log_then : List Entry) (target after : Machine) (ended : List Bool) (c : ℕ) → c < connection_limit → is_open_at target c ≡ true
    → is_done ended target c ≡ true
    → log_then ≡ log ++ Close c ∷ [] → after ≡ with_link (closed target c) c free_link → MovesBy (Closes c) log log_then target after ended ended
close_due log log_then target after ended c lt open_ done e now =
    let entry : Entry = Close c in
    one_more (Closes c) log log_then target after ended ended entry (ended_same ended entry (λ d. refl)) e
    (λ before turn are.
    let m = moment target before turn in let n = moment after before (turn ++ entry ∷ []) in
    where_due (is_closed c turn (link_at target c)) (n ≡ changed entry (with_link (closed target c) c free_link) m) (n ≡ m)
    (done_is target ended c true turn lt are done ∙ ap (λ (b : Bool). b && true) open_)
    (ap (λ (after : Machine). moment after before (turn ++ entry ∷ [])) now))

-- ---- a connection comes

pub nobody : (log log_then : List Entry) (target : Machine) → log_then ≡ log ++ NobodyCame ∷ []
    → MovesBy HasAccepted log log_then target target none_ended none_ended
nobody log log_then target e =
    one_more HasAccepted log log_then target target none_ended none_ended NobodyCame (ended_same none_ended NobodyCame (λ d. refl)) e
    (λ before turn are. inr refl)

pub somebody : (log log_then : List Entry) (target after : Machine) (c : ℕ) → c < connection_limit → c ≡ free_number target
    → log_then ≡ log ++ Open c ∷ [] → after ≡ with_link target c (opened_link c)
    → MovesBy HasAccepted log log_then target after none_ended none_ended
somebody log log_then target after c lt free e now =
    one_more HasAccepted log log_then target after none_ended none_ended (Open c) (ended_same none_ended (Open c) (λ d. refl)) e
    (λ before turn are.
    let m = moment target before turn in let n = moment after before (turn ++ Open c ∷ []) in
    let does : n ≡ opened c m = ap (λ (after : Machine). moment after before (turn ++ Open c ∷ [])) now ∙ sym
    (cond_true (is_number c) _ _ (lt-ltb c connection_limit lt)) in
    inl (subst (λ (c : ℕ). n ≡ opened c m) free does))

pub too_many : (log middle log_then : List Entry) (target : Machine) (c : ℕ) → c ≡ 64 → c ≡ free_number target → middle ≡ log ++ Open c ∷ []
    → log_then ≡ middle ++ Close c ∷ [] → MovesBy HasAccepted log log_then target target none_ended none_ended
too_many log middle log_then target c is free e f =
    let same : (m : Moment) → told (Close c) (told (Open c) m) ≡ opened (free_number target) m = λ m.
    ap (λ (c : ℕ). told (Close c) (told (Open c) m)) is ∙ ap (λ (c : ℕ). opened c m) (sym is ∙ free) in
    λ before turn at are.
    (let first = one_more (λ m n. n ≡ told (Open c) m) log middle target target none_ended none_ended (Open c) (ended_same none_ended (Open c) (λ d. refl))
    e (λ before turn are. refl) before turn at are in
    let second = one_more (λ m n. n ≡ told (Close c) m) middle log_then target target none_ended none_ended (Close c)
    (ended_same none_ended (Close c) (λ d. refl)) f (λ before turn are. refl) before first.0 first.1 first.2 in
    (second.0, second.1, second.2, inl (second.3 ∙ ap (told (Close c)) first.3 ∙ same (moment target before turn))))
