use Rattle.std.proofs.Common.{arith}
use Rattle.std.proofs.lemmas.Grind.{common_steps}
use Rattle.media_store.proofs.fail.FailStoreStore.len.Goals as goal

pub returns : goal.returns
returns = grind (arith, common_steps)

pub returns-then-refuses : goal.returns-then-refuses
returns-then-refuses = grind (arith, common_steps)
