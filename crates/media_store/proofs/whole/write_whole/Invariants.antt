use Rattle.std.proofs.Common.{◌≡◌, ◌≤◌, ◌<◌, min, false, length, drop}
use Rattle.media_store.specs.Replay.{Origin, is_synced}
use Rattle.media_store.proofs.Ended.{HasGoneOn}
use Rattle.media_store.proofs.PartsWritten.{HasPutTo}
use Rattle.media_store.proofs.whole.write_whole.Given as goal

abbrev pub invariant-loop : goal.invariant-loop
invariant-loop g l = record {
  within : l.done ≤ length l.fn.bytes;
  rest : l.rest ≡ drop l.done l.fn.bytes;
  put : (origin : Origin) → HasPutTo origin l.at l.fn.bytes l.done (g.C.FileCalls.calls l.fn.calls) (g.C.FileCalls.calls l.calls);
  goes : HasGoneOn l.at (length l.fn.bytes) l.counter l.done (g.C.FileCalls.calls l.fn.calls) (g.C.FileCalls.calls l.calls);
  called : min l.done 1 ≤ l.counter;
  synced : 0 < l.counter → is_synced (g.C.FileCalls.calls l.calls) ≡ false;
}
