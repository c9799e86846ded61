use Rattle.std.proofs.Common.{◌≡◌, ◌++◌, replicate, true}
use Rattle.media_store.specs.Calls.{NotMeasured}
use Rattle.media_store.proofs.again.measure.Given as goal

-- each call so far was interrupted
abbrev pub invariant-loop : goal.invariant-loop
invariant-loop g l = g.C.FileCalls.calls l.calls ≡ replicate l.counter (NotMeasured true) ++ g.C.FileCalls.calls l.fn.calls
