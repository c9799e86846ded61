use Rattle.std.proofs.Common.{◌≡◌, ℕ, ◌<◌, ◌≤◌, false, subst}
use Rattle.std.specs.Prelude.{IfSome, IfNone}
use Rattle.iscsi_connection.specs.NumberSet.{is_in}
use Rattle.iscsi_connection.proofs.number_set.NumberSet.next_from.Goals as goal

pub returns-clause-before : goal.returns-clause-before
returns-clause-before c =
    subst (λ (n : ℕ). IfSome c.next_bit.result (λ k. (d : ℕ) → c.args.from ≤ d → d < k → is_in n d ≡ false)) c.self.view_is c.next_bit.ensures.before

pub returns-clause-none : goal.returns-clause-none
returns-clause-none c =
    subst (λ (n : ℕ). IfNone c.next_bit.result ((d : ℕ) → c.args.from ≤ d → d < 64 → is_in n d ≡ false)) c.self.view_is c.next_bit.ensures.none
