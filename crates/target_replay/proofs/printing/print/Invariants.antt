use Rattle.std.proofs.Common.{ℕ, string_bytes}
use Rattle.iscsi_target.specs.History.{History}
use Rattle.iscsi_target.specs.World.{Setting}
use Rattle.iscsi_target.specs.Machine.{ReflectsSoundness, IsSure}
use Rattle.iscsi_target.specs.Stands.{Stands}
use Rattle.target_replay.proofs.Connections.{HasPrintedBelow}
use Rattle.target_replay.proofs.printing.print.Given as goal

-- the connections below were printed
abbrev pub invariant-loop-c : goal.invariant-loop-c
invariant-loop-c g l = record {
  printed : (s : Setting) (sent : ℕ → ℕ) (h : History) → Stands s sent l.fn.target h
      → HasPrintedBelow s sent h l.c (string_bytes l.text) l.target;
  each : ReflectsSoundness l.fn.target l.target;
  sure : IsSure l.fn.target → IsSure l.target;
}
