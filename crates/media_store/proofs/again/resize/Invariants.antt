use Rattle.std.proofs.Common.{◌≡◌, ◌++◌, replicate, true}
use Rattle.media_store.specs.Calls.{NotResized}
use Rattle.media_store.proofs.again.resize.Given as goal

-- each call so far was interrupted
abbrev pub invariant-loop : goal.invariant-loop
invariant-loop g l = g.C.FileCalls.calls l.calls ≡ replicate l.counter (NotResized l.len true) ++ g.C.FileCalls.calls l.fn.calls
