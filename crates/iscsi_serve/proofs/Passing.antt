-- Connections with which there is nothing to do are passed over: that were not named, or on which nothing waits and that
-- are not closing.
use Rattle.std.proofs.Common.{◌≡◌, ℕ, zero, suc, ◌+◌, ◌-◌, ◌<◌, ◌≤◌, List, get_or, Bool, true, false, ◌||◌, ◌&&◌, refl, sym, ap, subst, inl, inr, arith}
use Rattle.std.proofs.lemmas.Bool.{cases_lt}
use Rattle.std.specs.List.{range_with_len}
use Rattle.iscsi_target.specs.Machine.{Machine, link_at, is_open_at, is_silent}
use Rattle.iscsi_ports.specs.Log.{Entry}
use Rattle.iscsi_target.specs.History.{connections}
use Rattle.iscsi_ports.specs.declared.results.Named.{Named}
use Rattle.iscsi_serve.specs.Named.{named_from}
use Rattle.iscsi_serve.specs.Turn.{Moment, Reads, Writes, InOrder, is_read}
use Rattle.iscsi_serve.specs.Progress.{StepsBy, MovesBy, NoneToClose}
use Rattle.iscsi_serve.proofs.Closing.{due_silent}
use Rattle.iscsi_serve.proofs.Goings.{no_read, silent_write}
use Rattle.iscsi_serve.proofs.Keeping.{keeps_same, one_more_does}
use Rattle.iscsi_serve.proofs.Flags.{none_left}

-- all from one on, up to another
abbrev pub AreSilent : Machine → ℕ → ℕ → Type 0
AreSilent target from end = (d : ℕ) → from ≤ d → d < end → is_silent (link_at target d) ≡ true

stays_by : (R : ℕ → Moment → Moment → Type 0) (k from end : ℕ) (tells tells_then : Bool) (log log_then : List Entry) (target target_then : Machine)
    (ended ended_then : List Bool) → from + k ≡ end
    → ((d : ℕ) → from ≤ d → d < end → MovesBy (R d) log_then log_then target_then target_then ended_then ended_then)
    → StepsBy (InOrder R (range_with_len 0 from)) tells tells_then log log_then target target_then ended ended_then
    → StepsBy (InOrder R (range_with_len 0 end)) tells tells_then log log_then target target_then ended ended_then
stays_by R zero from end tells tells_then log log_then target target_then ended ended_then is stays so_far =
    subst (λ (n : ℕ). StepsBy (InOrder R (range_with_len 0 n)) tells tells_then log log_then target target_then ended ended_then)
    (let e : from ≡ end = omega (arith, is) in e) so_far
stays_by R (suc k) from end tells tells_then log log_then target target_then ended ended_then is stays so_far =
    stays_by R k (from + 1) end tells tells_then log log_then target target_then ended ended_then (omega (arith, is))
    (λ d behind below. stays d (omega (arith, behind)) below)
    (one_more_does R from tells tells_then tells_then log log_then log_then target target_then target_then ended ended_then ended_then so_far (record {
      keeps = keeps_same tells_then log_then target_then;
      goes = λ e. stays from (omega arith) (omega (arith, is));
    }))

pub silent_does : (from end : ℕ) (tells tells_then : Bool) (log log_then : List Entry) (target target_then : Machine) (ended ended_then : List Bool)
    → from ≤ end → AreSilent target_then from end
    → StepsBy (InOrder Writes (range_with_len 0 from)) tells tells_then log log_then target target_then ended ended_then
    → StepsBy (InOrder Writes (range_with_len 0 end)) tells tells_then log log_then target target_then ended ended_then
silent_does from end tells tells_then log log_then target target_then ended ended_then le silent so_far =
    stays_by Writes (end - from) from end tells tells_then log log_then target target_then ended ended_then (omega (arith, le))
    (λ d behind below. silent_write log_then target_then ended_then d (silent d behind below)) so_far

-- one that was not named is not read
unnamed : (named : Named) (target : Machine) (c : ℕ) → get_or named.connections c false ≡ false → is_read named c (link_at target c) ≡ false
unnamed named target c e = rw e refl

pub unnamed_does : (named : Named) (from : ℕ) (tells tells_then : Bool) (log log_then : List Entry) (target target_then : Machine)
    (ended ended_then : List Bool) → from ≤ 64 → named_from named from ≡ 0
    → StepsBy (InOrder (Reads named) (range_with_len 0 from)) tells tells_then log log_then target target_then ended ended_then
    → StepsBy (InOrder (Reads named) connections) tells tells_then log log_then target target_then ended ended_then
unnamed_does named from tells tells_then log log_then target target_then ended ended_then le none so_far =
    stays_by (Reads named) (64 - from) from 64 tells tells_then log log_then target target_then ended ended_then (omega (arith, le))
    (λ d behind below. no_read log_then target_then ended_then named d (unnamed named target_then d
    (none_left named.connections from d none behind))) so_far

-- none of them is to be closed that has not ended
pub silent_none : (from end : ℕ) (ended : List Bool) (target : Machine) → ((d : ℕ) → from ≤ d → d < end → get_or ended d false ≡ false)
    → AreSilent target from end → NoneToClose from ended target → NoneToClose end ended target
silent_none from end ended target none silent so_far = λ d below. elim (cases_lt d from) [
  | inl before ↦ so_far d before
  | inr behind ↦
      sym (due_silent target ended d false (silent d behind below) (sym (ap (λ (b : Bool). b && is_open_at target d) (none d behind below))))
]

pub either_not : (a b : Bool) → (a || b) ≡ false → a ≡ false
either_not true b e = absurd cc
either_not false b e = refl
