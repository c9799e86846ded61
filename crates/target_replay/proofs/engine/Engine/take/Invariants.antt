use Rattle.std.proofs.Common.{◌≡◌, ◌+◌, ◌≤◌, ◌++◌, List, ℕ, length}
use Rattle.iscsi_target.specs.Machine.{ReflectsSoundness, IsSure}
use Rattle.target_replay.specs.Comings.{Kind, IsOf}
use Rattle.target_replay.specs.Engine.{Takes}
use Rattle.target_replay.proofs.engine.Engine.take.Given as goal

-- what was taken, and then the rest, is the piece
abbrev pub invariant-loop-line : goal.invariant-loop-line
invariant-loop-line g l = record {
  taken : List ℕ;
  cut : l.piece ≡ taken ++ l.rest;
  number : l.self.number ≤ l.fn.self.number + length taken;
  takes : (kind : Kind) → IsOf kind l.self.target → Takes kind l.fn.self taken l.self (g.W.Write.contents l.fn.writer) (g.W.Write.contents l.writer);
  each : ReflectsSoundness l.fn.self.target l.self.target;
  sure : IsSure l.fn.self.target → IsSure l.self.target;
}

abbrev pub decreases-loop-line : goal.decreases-loop-line
decreases-loop-line g l = length l.rest
