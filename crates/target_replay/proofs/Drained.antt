-- What waits on a connection is taken front by front.
use Rattle.std.proofs.Common.{◌≡◌, ℕ, zero, suc, ◌+◌, ◌<◌, ◌≤◌, List, [], ◌∷◌, ◌++◌, length, take, drop, set, get_or, Bool, true, not, refl, sym, ap, ◌∙◌, subst, inl, inr, arith, append_assoc, append-nil}
use Rattle.std.proofs.lemmas.Bool.Decides.{eqb_tells}
use Rattle.std.proofs.lemmas.List.{take-append-drop, length-drop}
use Rattle.iscsi_target.specs.History.{History, connection_limit}
use Rattle.iscsi_target.specs.World.{Setting, world}
use Rattle.iscsi_target.specs.Machine.{Machine, LinkState, link_at, with_link, sent_link, is_open_at, is_free, free_link}
use Rattle.iscsi_target.specs.Stands.{Stands, with_sent}
use Rattle.iscsi_target.proofs.Standing.{stands_sent, sent_here, sent_there}
use Rattle.target_replay.specs.Printed.{all_sent}
use Rattle.target_replay.proofs.Joint.{sent_whole}

abbrev is_open : LinkState → Bool
is_open link = not (is_free link.phase)

-- one that is open has its place
there_set : (links : List LinkState) (c : ℕ) (link : LinkState) → is_open (get_or links c free_link) ≡ true → get_or (set links c link) c free_link ≡ link
there_set [] c link e = absurd cc
there_set (x ∷ xs) zero link e = refl
there_set (x ∷ xs) (suc c) link e = there_set xs c link e

link_sent : (target after : Machine) (c n : ℕ) → is_open_at target c ≡ true → after ≡ with_link target c (sent_link (link_at target c) n)
    → link_at after c ≡ sent_link (link_at target c) n
link_sent target after c n is_open_ now =
    ap (λ (m : Machine). link_at m c) now ∙ there_set target.links c (sent_link (link_at target c) n) is_open_

taken_more : (waiting front bytes more all : List ℕ) → front ≡ take (length front) waiting → bytes ++ waiting ≡ all → more ≡ bytes ++ front
    → more ++ drop (length front) waiting ≡ all
taken_more waiting front bytes more all is so_far e =
    ap (λ (xs : List ℕ). xs ++ drop (length front) waiting) e ∙ append_assoc bytes front (drop (length front) waiting)
    ∙ ap (λ (xs : List ℕ). bytes ++ (xs ++ drop (length front) waiting)) is
    ∙ ap (λ (xs : List ℕ). bytes ++ xs) (take-append-drop (length front) waiting) ∙ so_far

-- a front was taken and sent
pub drained_more : (target after : Machine) (c n : ℕ) (front bytes more all : List ℕ) → is_open_at target c ≡ true
    → front ≡ take (length front) (link_at target c).waiting → n ≡ length front → bytes ++ (link_at target c).waiting ≡ all → more ≡ bytes ++ front
    → after ≡ with_link target c (sent_link (link_at target c) n) → more ++ (link_at after c).waiting ≡ all
drained_more target after c n front bytes more all is_open_ is count so_far e now =
    ap (λ (l : LinkState). more ++ l.waiting) (link_sent target after c n is_open_ now)
    ∙ ap (λ (k : ℕ). more ++ drop k (link_at target c).waiting) count
    ∙ taken_more (link_at target c).waiting front bytes more all is so_far e

pub drained_open : (target after : Machine) (c n : ℕ) → is_open_at target c ≡ true → after ≡ with_link target c (sent_link (link_at target c) n)
    → is_open_at after c ≡ true
drained_open target after c n is_open_ now = ap is_open (link_sent target after c n is_open_ now) ∙ is_open_

-- less waits then
pub drained_less : (target after : Machine) (c n : ℕ) → is_open_at target c ≡ true → 0 < n → n ≤ length (link_at target c).waiting
    → after ≡ with_link target c (sent_link (link_at target c) n) → length (link_at after c).waiting < length (link_at target c).waiting
drained_less target after c n is_open_ some within now =
    omega (
      arith,
      some,
      within,
      ap (λ (l : LinkState). length l.waiting) (link_sent target after c n is_open_ now),
      length-drop n (link_at target c).waiting,
    )

-- nothing of it was
pub none_taken : (s : Setting) (sent : ℕ → ℕ) (h : History) (target : Machine) (c n : ℕ) → n ≡ 0 → Stands s sent target h
    → Stands s (with_sent sent c (sent c + n)) target h
none_taken s sent h target c n none stands =
    stands_sent s sent (with_sent sent c (sent c + n)) target h (λ d below. elim (eqb_tells d c) [
      | inl e ↦ (let same : sent c + n ≡ sent c = omega (arith, none) in rw e.1 (sym (sent_here sent c (sent c + n) ∙ same)))
      | inr differ ↦ sym (sent_there sent c (sent c + n) d differ.1)
    ]) stands

-- so many bytes were sent, and then more of them
pub sent_then : (s : Setting) (sent : ℕ → ℕ) (h : History) (target : Machine) (c k n m : ℕ) → k + n ≡ m
    → Stands s (with_sent (with_sent sent c (sent c + k)) c (with_sent sent c (sent c + k) c + n)) target h → Stands s (with_sent sent c (sent c + m)) target h
sent_then s sent h target c k n m sum stands =
    let first = with_sent sent c (sent c + k) in
    stands_sent s (with_sent first c (first c + n)) (with_sent sent c (sent c + m)) target h (λ d below. elim (eqb_tells d c) [
      | inl e ↦ (
          let so_far = sent_here sent c (sent c + k) in
          let both : first c + n ≡ sent c + m = omega (arith, so_far, sum) in
          rw e.1 (sent_here first c (first c + n) ∙ both ∙ sym (sent_here sent c (sent c + m))))
      | inr differ ↦
          sent_there first c (first c + n) d differ.1 ∙ sent_there sent c (sent c + k) d differ.1 ∙ sym (sent_there sent c (sent c + m) d differ.1)
    ]) stands

-- where nothing of it is offered nothing waits
pub none_waits : (n m : ℕ) → (0 < n → 0 < m) → m ≡ 0 → n ≡ 0
none_waits zero m some none = refl
none_waits (suc n) m some none = (let is = some (omega arith) in absurd (omega (arith, none, is)))

-- where nothing waits any more all was taken
pub all_taken : (bytes waiting all : List ℕ) → length waiting ≡ 0 → bytes ++ waiting ≡ all → bytes ≡ all
all_taken bytes [] all none e = sym (append-nil bytes) ∙ e
all_taken bytes (x ∷ xs) all none e = absurd (omega (arith, none))

-- and all that was answered was sent
pub all_drained : (s : Setting) (sent : ℕ → ℕ) (h : History) (target after : Machine) (c n : ℕ) → c < connection_limit → Stands s sent target h
    → n ≡ length (link_at target c).waiting → Stands s (with_sent sent c (sent c + n)) after h
    → Stands s (with_sent sent c (all_sent (world s h) c)) after h
all_drained s sent h target after c n lt stands count then_ =
    let whole = sent_whole s sent (world s h) target c lt stands in
    let all : sent c + n ≡ all_sent (world s h) c = omega (arith, count, whole) in
    subst (λ (k : ℕ). Stands s (with_sent sent c k) after h) all then_
