use Rattle.std.proofs.Common.{ℕ, ◌*◌, ◌≤◌, List, []}
use Rattle.std.specs.Io.KnownBytes.{Appends, Consumes}
use Rattle.iscsi_target.specs.World.{Setting}
use Rattle.iscsi_target.specs.Machine.{ReflectsSoundness, IsSure}
use Rattle.target_replay.specs.Comings.{Kind, IsOf}
use Rattle.target_replay.specs.Printed.{HasSentAll}
use Rattle.target_replay.specs.Engine.{HasTaken}
use Rattle.target_replay.proofs.replaying.replay.Given as goal

-- what was read, and what was printed
abbrev pub invariant-loop : goal.invariant-loop
invariant-loop g l = record {
  bytes : List ℕ;
  read : Consumes (g.R.Read.remaining l.fn.reader) (g.R.Read.remaining l.reader) bytes;
  number : l.engine.number ≤ 4096 * l.counter;
  each : ReflectsSoundness l.fn.engine.target l.engine.target;
  sure : IsSure l.fn.engine.target → IsSure l.engine.target;
  taken : (kind : Kind) → IsOf kind l.engine.target → (s : Setting) → HasSentAll s [] l.fn.engine.target → (text : List ℕ)
      × Appends (g.W.Write.contents l.fn.writer) (g.W.Write.contents l.writer) text × HasTaken kind s bytes l.engine text;
}
