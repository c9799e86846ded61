use Rattle.std.proofs.Common.{◌≡◌, ◌++◌, replicate, true}
use Rattle.media_store.specs.Calls.{NotSynced}
use Rattle.media_store.proofs.again.sync.Given as goal

-- each call so far was interrupted
abbrev pub invariant-loop : goal.invariant-loop
invariant-loop g l = g.C.FileCalls.calls l.calls ≡ replicate l.counter (NotSynced true) ++ g.C.FileCalls.calls l.fn.calls
