use Rattle.std.proofs.Common.{arith}
use Rattle.media_store.specs.Calls.{NotResized}
use Rattle.media_store.proofs.Tries.{HasFailed-given-up}
use Rattle.media_store.proofs.again.resize.Goals as goal

pub returns : goal.returns
returns g c = HasFailed-given-up (NotResized c.args.len) c.loop.counter _ _ _ (omega arith) c.loop.invariant c.give_up.ensures
