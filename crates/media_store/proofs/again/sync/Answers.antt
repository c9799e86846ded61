use Rattle.std.proofs.Common.{arith, rules}
use Rattle.media_store.specs.Calls.{NotSynced}
use Rattle.media_store.proofs.Tries.{HasFailed-given-up}
use Rattle.media_store.proofs.again.sync.Goals as goal

pub returns : goal.returns
returns g c = HasFailed-given-up NotSynced c.loop.counter _ _ _ (omega arith) c.loop.invariant c.give_up.ensures

pub loop-preserved : goal.loop-preserved
loop-preserved g c = search rules

pub returns-in-Ok : goal.returns-in-Ok
returns-in-Ok g c = search rules
