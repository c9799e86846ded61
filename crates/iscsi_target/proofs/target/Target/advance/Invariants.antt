use Rattle.std.proofs.Common.{◌≡◌, ◌+◌, ℕ}
use Rattle.iscsi_world.proofs.Sent.{with_part}
use Rattle.iscsi_target.proofs.target.Target.advance.Given as goal

-- so many of them are taken
abbrev pub invariant-loop-unsent : goal.invariant-loop-unsent
invariant-loop-unsent g l = (k : ℕ) × (k + l.unsent ≡ l.n) × (l.self ≡ with_part l.initial.self l.c k)

abbrev pub decreases-loop-unsent : goal.decreases-loop-unsent
decreases-loop-unsent g l = l.unsent
