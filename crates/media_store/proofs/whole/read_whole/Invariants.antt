use Rattle.std.proofs.Common.{◌≤◌, length}
use Rattle.media_store.specs.Replay.{Origin}
use Rattle.media_store.proofs.Ended.{HasGoneOn}
use Rattle.media_store.proofs.PartsRead.{HasComeTo}
use Rattle.media_store.proofs.whole.read_whole.Given as goal

abbrev pub invariant-loop : goal.invariant-loop
invariant-loop g l = record {
  within : l.done ≤ length l.buf;
  come : (origin : Origin) → HasComeTo origin l.at l.buf l.done (g.C.FileCalls.calls l.fn.calls) (g.C.FileCalls.calls l.calls);
  goes : HasGoneOn l.at (length l.buf) l.counter l.done (g.C.FileCalls.calls l.fn.calls) (g.C.FileCalls.calls l.calls);
}
