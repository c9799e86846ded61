use Rattle.std.proofs.Common.{arith}
use Rattle.std.proofs.lemmas.Grind.{common_steps}
use Rattle.media_store.proofs.memory.MemStoreStore.set_len.Goals as goal

pub invariant_of-self : goal.invariant_of-self
invariant_of-self = grind (arith, common_steps)

pub invariant_of-self-2 : goal.invariant_of-self-2
invariant_of-self-2 = grind (arith, common_steps)

pub returns : goal.returns
returns = grind (arith, common_steps)

pub returns-then-not-is_below : goal.returns-then-not-is_below
returns-then-not-is_below = grind (arith, common_steps)
