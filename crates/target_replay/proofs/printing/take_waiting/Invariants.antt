use Rattle.std.proofs.Common.{◌≡◌, ℕ, ◌+◌, ◌++◌, length, true}
use Rattle.iscsi_target.specs.History.{History}
use Rattle.iscsi_target.specs.World.{Setting}
use Rattle.iscsi_target.specs.Machine.{ReflectsSoundness, IsSure, link_at, is_open_at}
use Rattle.iscsi_target.specs.Stands.{Stands, with_sent}
use Rattle.target_replay.proofs.printing.take_waiting.Given as goal

-- what was taken, and what still waits, is all that waited
abbrev pub invariant-fronts : goal.invariant-fronts
invariant-fronts g l = record {
  taken : l.bytes.items ++ (link_at l.target l.c).waiting ≡ (link_at l.fn.target l.c).waiting;
  there : is_open_at l.target l.c ≡ true;
  stands : (s : Setting) (sent : ℕ → ℕ) (h : History) → Stands s sent l.fn.target h
      → Stands s (with_sent sent l.c (sent l.c + length l.bytes.items)) l.target h;
  each : ReflectsSoundness l.fn.target l.target;
  sure : IsSure l.fn.target → IsSure l.target;
}

abbrev pub decreases-fronts : goal.decreases-fronts
decreases-fronts g l = length (link_at l.target l.c).waiting
