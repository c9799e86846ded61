-- Printing connection by connection.
use Rattle.std.proofs.Common.{◌≡◌, ◌≢◌, ℕ, zero, suc, ◌+◌, ◌<◌, ◌≤◌, Bool, true, false, List, [], ◌∷◌, ◌++◌, length, refl, sym, ap, subst, ◌∙◌, Option, None, arith, inl, inr, append_assoc, append-nil}
use Rattle.std.specs.Prelude.{flat_map}
use Rattle.std.specs.List.{range_with_len}
use Rattle.std.proofs.lemmas.Bool.Decides.{eqb_tells}
use Rattle.std.proofs.lemmas.Grind.{flat_map-append}
use Rattle.std.proofs.Math.Seq.{drop-nil}
use Rattle.iscsi_target.specs.History.{History, Gone, plain, connection_limit}
use Rattle.iscsi_target.specs.Life.{Life}
use Rattle.iscsi_target.specs.World.{Setting, World, present, world}
use Rattle.iscsi_target.specs.Output.{out_now}
use Rattle.iscsi_target.specs.Machine.{Machine, link_at, is_open_at, is_closing}
use Rattle.iscsi_target.specs.Stands.{Stands, with_sent}
use Rattle.iscsi_target.proofs.Standing.{is_free_there, stands_sent, sent_here, sent_there}
use Rattle.target_replay.specs.Printed.{bytes_line, closed_line, lines_of, is_closed, gone_of, after_printing, all_sent, unsent, printed_of, printed}
use Rattle.target_replay.specs.Printing.{HasPrintedOne, HasPrintedAll}
use Rattle.target_replay.proofs.Joint.{closing_same, waiting_same, gone_answered, present-gone_other}

-- ---- one more connection

range_more : (a n : ℕ) → range_with_len a (suc n) ≡ range_with_len a n ++ (a + n) ∷ []
range_more a zero = ap (λ (n : ℕ). n ∷ []) (omega arith)
range_more a (suc n) = ap (λ (ns : List ℕ). a ∷ ns) (range_more (a + 1) n ∙ ap (λ (m : ℕ). range_with_len (a + 1) n ++ m ∷ []) (omega arith))

-- of the connections below this one
abbrev pub below : {X : Type 0} → (ℕ → List X) → ℕ → List X
below f c = flat_map f (range_with_len 0 c)

below-more : {X : Type 0} (f : ℕ → List X) (c : ℕ) → below f (c + 1) ≡ below f c ++ f c
below-more {X} f c =
    let one_more : c + 1 ≡ suc c = omega arith in
    let same : 0 + c ≡ c = omega arith in
    ap (below f) one_more ∙ ap (flat_map f) (range_more 0 c ∙ ap (λ (n : ℕ). range_with_len 0 c ++ n ∷ []) same)
    ∙ flat_map-append f (range_with_len 0 c) (c ∷ []) ∙ ap (λ (xs : List X). below f c ++ xs) (append-nil (f c))

-- ---- the connections below one were printed

abbrev pub gone_below : Setting → History → ℕ → History
gone_below s h c = h ++ below (gone_of (world s h)) c

pub record HasPrintedBelow (s : Setting) (before : ℕ → ℕ) (h : History) (c : ℕ) (text : List ℕ) (target : Machine) : Type 0 where
  pub prints : text ≡ below (printed_of before (world s h)) c
  pub sent : ℕ → ℕ
  pub stands : Stands s sent target (gone_below s h c)
  pub printed : (d : ℕ) → d < c → sent d ≡ all_sent (world s (gone_below s h c)) d
  -- the others are as they were
  pub unprinted : (d : ℕ) → c ≤ d → sent d ≡ before d
  pub lives : (d : ℕ) → c ≤ d → present d (world s (gone_below s h c)) ≡ present d (world s h)

pub print_none : (s : Setting) (before : ℕ → ℕ) (h : History) (target : Machine) → Stands s before target h → HasPrintedBelow s before h 0 [] target
print_none s before h target stands =
    let same : gone_below s h 0 ≡ h = append-nil h in
    record {
      prints = refl;
      sent = before;
      stands = subst (λ (h : History). Stands s before target h) (sym same) stands;
      printed = λ d lt. absurd (omega arith);
      unprinted = λ d le. refl;
      lives = λ d le. ap (λ (h : History). present d (world s h)) same;
    }

gone_by : (s : Setting) (past : History) (c d : ℕ) (closed : Bool) (w : World) → is_closed (present c w) ≡ closed → d ≢ c
    → present d (world s (past ++ gone_of w c)) ≡ present d (world s past)
gone_by s past c d true w e differ = rw e (present-gone_other s past c d differ)
gone_by s past c d false w e differ = rw e (ap (λ (h : History). present d (world s h)) (append-nil past))

-- a connection that is gone changes no other
other_life : (s : Setting) (past : History) (c d : ℕ) (w : World) → d ≢ c → present d (world s (past ++ gone_of w c)) ≡ present d (world s past)
other_life s past c d w differ = gone_by s past c d (is_closed (present c w)) w refl differ

-- what is printed of a connection, and whether it is gone, is told by its present life
printed_same : (a b : ℕ → ℕ) (v w : World) (c : ℕ) → a c ≡ b c → present c v ≡ present c w → printed_of a v c ≡ printed_of b w c
unfolding printed_of unsent
printed_same a b v w c e f = rw (e, f) refl

gone_same : (v w : World) (c : ℕ) → present c v ≡ present c w → gone_of v c ≡ gone_of w c
gone_same v w c f = rw f refl

-- the history after one more
next_past : (s : Setting) (h : History) (c : ℕ) → gone_below s h (c + 1) ≡ gone_below s h c ++ gone_of (world s h) c
next_past s h c = ap (λ (xs : History). h ++ xs) (below-more (gone_of (world s h)) c)
    ∙ sym (append_assoc h (below (gone_of (world s h)) c) (gone_of (world s h) c))

pub print_next : (s : Setting) (before : ℕ → ℕ) (h : History) (c : ℕ) (text more : List ℕ) (target next : Machine)
    (b : HasPrintedBelow s before h c text target) → HasPrintedOne s b.sent (gone_below s h c) c text more next
    → HasPrintedBelow s before h (c + 1) more next
print_next s before h c text more target next b one =
    let past = gone_below s h c in
    let w = world s h in
    let life : present c (world s past) ≡ present c w = b.lives c (omega arith) in
    let goes : gone_of (world s past) c ≡ gone_of w c = gone_same (world s past) w c life in
    let after : History = past ++ gone_of w c in
    let further : gone_below s h (c + 1) ≡ after = next_past s h c in
    let sent : ℕ → ℕ = with_sent b.sent c (all_sent (world s after) c) in
    let stands : Stands s sent next after =
    subst (λ (gone : History). Stands s (with_sent b.sent c (all_sent (world s (past ++ gone)) c)) next (past ++ gone)) goes one.stands in
    let unchanged : (d : ℕ) → d ≢ c → present d (world s after) ≡ present d (world s past) = λ d differ. other_life s past c d w differ in
    let said : more ≡ below (printed_of before w) (c + 1) =
    one.prints ∙ ap (λ (line : List ℕ). text ++ line) (printed_same b.sent before (world s past) w c (b.unprinted c (omega arith)) life)
    ∙ ap (λ (text : List ℕ). text ++ printed_of before w c) b.prints ∙ sym (below-more (printed_of before w) c) in
    let all : (d : ℕ) → d < c + 1 → sent d ≡ all_sent (world s after) d = λ d lt.
    elim (eqb_tells d c) [
      | inl same ↦ rw same.1 (sent_here b.sent c (all_sent (world s after) c))
      | inr differ ↦
          sent_there b.sent c (all_sent (world s after) c) d differ.1 ∙ b.printed d (omega (arith, differ.1))
          ∙ ap (λ (o : Option Life). length (out_now o)) (sym (unchanged d differ.1))
    ] in
    let apart : (d : ℕ) → c + 1 ≤ d → d ≢ c = λ d le. omega arith in
    record {
      prints = said;
      sent = sent;
      stands = subst (λ (h : History). Stands s sent next h) (sym further) stands;
      printed = λ d lt. all d lt ∙ ap (λ (h : History). all_sent (world s h) d) (sym further);
      unprinted = λ d le. sent_there b.sent c (all_sent (world s after) c) d (apart d le) ∙ b.unprinted d (omega arith);
      lives = λ d le. ap (λ (h : History). present d (world s h)) further ∙ unchanged d (apart d le) ∙ b.lives d (omega arith);
    }

-- ---- an open connection

closed_gone : (w : World) (c : ℕ) → is_closed (present c w) ≡ true → gone_of w c ≡ plain (Gone c) ∷ []
closed_gone w c e = rw e refl

open_stays : (w : World) (c : ℕ) → is_closed (present c w) ≡ false → gone_of w c ≡ []
open_stays w c e = rw e refl

lines_printed : (sent : ℕ → ℕ) (w : World) (c : ℕ) (text bytes more : List ℕ) (closed : Bool) → bytes ≡ unsent sent w c
    → is_closed (present c w) ≡ closed → more ≡ (text ++ bytes_line c bytes) ++ closed_line c closed
    → more ≡ text ++ printed_of sent w c
unfolding printed_of lines_of
lines_printed sent w c text bytes more closed e f g =
    rw (← e, f) (g ∙ append_assoc text (bytes_line c bytes) (closed_line c closed))

-- its lines were printed, and it is closed
pub closed_one : (s : Setting) (sent : ℕ → ℕ) (h : History) (c : ℕ) (text bytes more : List ℕ) (target mid next : Machine) → c < connection_limit
    → Stands s sent target h → bytes ≡ (link_at target c).waiting
    → Stands s (with_sent sent c (all_sent (world s h) c)) mid h → true ≡ is_closing (link_at mid c).phase → more ≡ (text ++ bytes_line c bytes)
    ++ closed_line c true
    → ((s : Setting) (sent : ℕ → ℕ) (h : History) → Stands s sent mid h → Stands s (with_sent sent c 0) next (h ++ plain (Gone c) ∷ []))
    → HasPrintedOne s sent h c text more next
closed_one s sent h c text bytes more target mid next lt stands taken drained closing e ends =
    let w = world s h in
    let all : ℕ → ℕ = with_sent sent c (all_sent w c) in
    let closed : is_closed (present c w) ≡ true = sym (closing ∙ closing_same s all w mid c lt drained) in
    let after : History = h ++ plain (Gone c) ∷ [] in
    let none : all_sent (world s after) c ≡ 0 = gone_answered s h c in
    let now : Stands s (with_sent sent c 0) next after =
    stands_sent s (with_sent all c 0) (with_sent sent c 0) next after
    (λ d below.
    elim (eqb_tells d c) [
      | inl same ↦ rw same.1 (sent_here all c 0 ∙ sym (sent_here sent c 0))
      | inr differ ↦ sent_there all c 0 d differ.1 ∙ sent_there sent c (all_sent w c) d differ.1 ∙ sym (sent_there sent c 0 d differ.1)
    ])
    (ends s all h drained) in
    record {
      prints = lines_printed sent w c text bytes more true (taken ∙ waiting_same s sent w target c lt stands) closed e;
      stands = subst (λ (gone : History). Stands s (with_sent sent c (all_sent (world s (h ++ gone)) c)) next (h ++ gone)) (sym (closed_gone w c closed))
          (subst (λ (n : ℕ). Stands s (with_sent sent c n) next after) (sym none) now);
    }

-- its lines were printed, and it stays open
pub open_one : (s : Setting) (sent : ℕ → ℕ) (h : History) (c : ℕ) (text bytes more : List ℕ) (target mid : Machine) → c < connection_limit
    → Stands s sent target h → bytes ≡ (link_at target c).waiting
    → Stands s (with_sent sent c (all_sent (world s h) c)) mid h → false ≡ is_closing (link_at mid c).phase → more ≡ text ++ bytes_line c bytes
    → HasPrintedOne s sent h c text more mid
open_one s sent h c text bytes more target mid lt stands taken drained closing e =
    let w = world s h in
    let all : ℕ → ℕ = with_sent sent c (all_sent w c) in
    let open_ : is_closed (present c w) ≡ false = sym (closing ∙ closing_same s all w mid c lt drained) in
    let same : h ++ gone_of w c ≡ h = ap (λ (gone : History). h ++ gone) (open_stays w c open_) ∙ append-nil h in
    record {
      prints = lines_printed sent w c text bytes more false (taken ∙ waiting_same s sent w target c lt stands) open_ (e
          ∙ sym (append-nil (text ++ bytes_line c bytes)));
      stands = subst (λ (h : History). Stands s (with_sent sent c (all_sent (world s h) c)) mid h) (sym same) drained;
    }

-- ---- a connection that is not open

no_lines : (sent : ℕ → ℕ) (w : World) (c : ℕ) → present c w ≡ None → printed_of sent w c ≡ []
unfolding printed_of unsent lines_of
no_lines sent w c e = rw e (rw (drop-nil {A = ℕ} (sent c)) refl)

none_gone : (w : World) (c : ℕ) → present c w ≡ None → gone_of w c ≡ []
none_gone w c e = rw e refl

pub pass_one : (s : Setting) (sent : ℕ → ℕ) (h : History) (c : ℕ) (text : List ℕ) (target : Machine) → c < connection_limit → Stands s sent target h
    → is_open_at target c ≡ false → HasPrintedOne s sent h c text text target
pass_one s sent h c text target lt stands free =
    let w = world s h in
    let none = is_free_there s sent w target c lt stands free in
    let same : h ++ gone_of w c ≡ h = ap (λ (gone : History). h ++ gone) (none_gone w c none) ∙ append-nil h in
    let nothing : all_sent w c ≡ 0 = ap (λ (o : Option Life). length (out_now o)) none in
    let unsent_ : sent c ≡ all_sent w c = omega (arith, nothing, stands.answered c lt) in
    let as_before : (d : ℕ) → d < connection_limit → sent d ≡ with_sent sent c (all_sent w c) d = λ d below.
    elim (eqb_tells d c) [
      | inl e ↦ rw e.1 (unsent_ ∙ sym (sent_here sent c (all_sent w c)))
      | inr differ ↦ sym (sent_there sent c (all_sent w c) d differ.1)
    ] in
    record {
      prints = sym (ap (λ (more : List ℕ). text ++ more) (no_lines sent w c none) ∙ append-nil text);
      stands = subst (λ (h : History). Stands s (with_sent sent c (all_sent (world s h) c)) target h) (sym same)
          (stands_sent s sent (with_sent sent c (all_sent w c)) target h as_before stands);
    }

-- ---- all of them

pub print_all : (s : Setting) (before : ℕ → ℕ) (h : History) (text : List ℕ) (target : Machine) → HasPrintedBelow s before h 64 text target
    → HasPrintedAll s before h text target
unfolding printed after_printing
print_all s before h text target b = record {
  prints = b.prints;
  stands = stands_sent s b.sent (all_sent (world s (gone_below s h 64))) target (gone_below s h 64) b.printed b.stands;
}
