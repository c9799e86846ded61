-- Which closes are due once all writes were made.
use Rattle.std.proofs.Common.{◌≡◌, ℕ, ◌+◌, ◌<◌, zero, suc, List, [], ◌∷◌, length, Bool, true, false, ◌||◌, ◌&&◌, not, eqb, set, get_or, refl, sym, ap, ◌∙◌, inl, inr, arith}
use Rattle.std.proofs.lemmas.Bool.Decides.{eqb_tells}
use Rattle.std.proofs.lemmas.List.{get_or-set_other, set-get_or}
use Rattle.std.specs.List.{range_with_len}
use Rattle.iscsi_target.specs.History.{connection_limit, connections}
use Rattle.iscsi_target.specs.Machine.{Machine, LinkState, link_at, with_link, sent_link, is_open_at, is_closing, is_silent, closed, free_link}
use Rattle.iscsi_ports.specs.Log.{Entry, Close}
use Rattle.iscsi_serve.specs.Turn.{Moment, moment, changed, is_open, is_closed, Closes, InOrder}
use Rattle.iscsi_serve.specs.Progress.{AreEnded, StepsBy, is_over, is_to_close, NoneToClose, KeepsOthers}
use Rattle.iscsi_serve.proofs.Goings.{where_not}
use Rattle.iscsi_serve.proofs.Keeping.{keeps_same}

-- ---- what a write keeps

open_set : (links : List LinkState) (c : ℕ) (link : LinkState) → is_open link ≡ true → is_open (get_or links c free_link) ≡ true
    → is_open (get_or (set links c link) c free_link) ≡ true
open_set [] c link e was = absurd cc
open_set (x ∷ xs) zero link e was = e
open_set (x ∷ xs) (suc c) link e was = open_set xs c link e was

-- a connection of which bytes were sent is still open
pub open_sent : (target after : Machine) (c n : ℕ) → is_open_at target c ≡ true → after ≡ with_link target c (sent_link (link_at target c) n)
    → is_open_at after c ≡ true
open_sent target after c n was now = rw now (open_set target.links c (sent_link (link_at target c) n) was was)

-- where none were sent it stays as it is
pub sent_none : (target : Machine) (c : ℕ) → target ≡ with_link target c (sent_link (link_at target c) 0)
sent_none target c = sym (ap (λ (links : List LinkState). record target { links = links }) (set-get_or target.links c free_link))

pub others_same : (target : Machine) (ended : List Bool) (c : ℕ) → KeepsOthers c target target ended ended
others_same target ended c = λ d differ. (refl, refl)

pub others_sent : (target after : Machine) (ended : List Bool) (c n : ℕ) → after ≡ with_link target c (sent_link (link_at target c) n)
    → KeepsOthers c target after ended ended
others_sent target after ended c n now = λ d differ.
    (rw now (get_or-set_other target.links c d (sent_link (link_at target c) n) free_link differ), refl)

pub others_ended : (target : Machine) (ended : List Bool) (c : ℕ) → KeepsOthers c target target ended (set ended c true)
others_ended target ended c = λ d differ. (refl, get_or-set_other ended c d true false differ)

-- ---- whether a close is due

pub none_free : (target : Machine) (ended : List Bool) (c : ℕ) → is_open_at target c ≡ false → false ≡ is_to_close ended target c
none_free target ended c e =
    sym (ap (λ (b : Bool). b && (get_or ended c false || is_closing (link_at target c).phase && eqb (length (link_at target c).waiting) 0)) e)

pub due_open : (target : Machine) (ended : List Bool) (c : ℕ) (done : Bool) → is_open_at target c ≡ true
    → done ≡ (get_or ended c false || is_closing (link_at target c).phase && eqb (length (link_at target c).waiting) 0)
    → done ≡ is_to_close ended target c
due_open target ended c done open_ e =
    e ∙ sym (ap (λ (b : Bool). b && (get_or ended c false || is_closing (link_at target c).phase && eqb (length (link_at target c).waiting) 0)) open_)

-- where nothing waits and the target has not closed it
pub due_silent : (target : Machine) (ended : List Bool) (c : ℕ) (due : Bool) → is_silent (link_at target c) ≡ true
    → due ≡ (get_or ended c false && is_open_at target c) → due ≡ is_to_close ended target c
due_silent target ended c due e is = let link = link_at target c in
    is ∙ only_ended (get_or ended c false) (is_open_at target c) (is_closing link.phase) (eqb (length link.waiting) 0) e
  where
    only_ended : (has_ended open_ closing none : Bool) → (none && not closing) ≡ true → (has_ended && open_) ≡ (open_ && (has_ended || closing && none))
    only_ended has_ended open_ true true e = absurd cc
    only_ended has_ended open_ closing false e = absurd cc
    only_ended true true false true e = refl
    only_ended true false false true e = refl
    only_ended false true false true e = refl
    only_ended false false false true e = refl

or_false : (a b : Bool) → (a || b) ≡ false → (a ≡ false) × (b ≡ false)
or_false true b e = absurd cc
or_false false b e = (refl, e)

pub none_first : (ended : List Bool) (target : Machine) → NoneToClose 0 ended target
none_first ended target = λ c lt. absurd (omega (arith, lt))

pub none_next : (so_far closes : Bool) (c : ℕ) (target after : Machine) (ended now : List Bool) → (so_far ≡ false → NoneToClose c ended target)
    → KeepsOthers c target after ended now → closes ≡ is_to_close now after c → (so_far || closes) ≡ false → NoneToClose (c + 1) now after
none_next so_far closes c target after ended now none others is neither = λ d lt.
    (let both = or_false so_far closes neither in
    elim (eqb_tells d c) [
      | inl same ↦ rw same.1 (sym is ∙ both.1)
      | inr differ ↦
          let stays = others d differ.1 in
          ap (λ (has_ended : Bool). is_over has_ended (link_at after d)) stays.1
          ∙ ap (λ (link : LinkState). is_over (get_or ended d false) link) stays.0
          ∙ none both.0 d (omega (arith, lt, differ.1))
    ])

-- ---- none is

no_close_at : (target : Machine) (ended : List Bool) (before turn : List Entry) (c : ℕ) → c < connection_limit → AreEnded ended turn
    → is_to_close ended target c ≡ false → Closes c (moment target before turn) (moment target before turn)
no_close_at target ended before turn c lt are e =
    let m = moment target before turn in
    where_not (is_closed c turn (link_at target c)) (m ≡ changed (Close c) (with_link (closed target c) c free_link) m) (m ≡ m)
    (ap (λ (has_ended : Bool). is_over has_ended (link_at target c)) (sym (are c lt)) ∙ e) refl

along_none : (R : ℕ → Moment → Moment → Type 0) (m : Moment) (a n : ℕ) → ((c : ℕ) → c < a + n → R c m m) → InOrder R (range_with_len a n) m m
along_none R m a zero each = refl
along_none R m a (suc n) each = (m, each a (omega arith), along_none R m (a + 1) n (λ c lt. each c (omega (arith, lt))))

pub none_closes : (tells : Bool) (log : List Entry) (target : Machine) (ended : List Bool) → NoneToClose 64 ended target
    → StepsBy (InOrder Closes connections) tells tells log log target target ended ended
none_closes tells log target ended none = record {
  keeps = keeps_same tells log target;
  goes = λ e before turn at are.
      (turn, at, are, along_none Closes (moment target before turn) 0 64 (λ c lt. no_close_at target ended before turn c lt are (none c lt)));
}
