use Rattle.std.proofs.Common.{arith}
use Rattle.std.proofs.lemmas.Grind.{common_steps}
use Rattle.media_store.proofs.fail.FailStoreStore.sync.Goals as goal

pub returns : goal.returns
returns = grind (arith, common_steps)

pub returns-in_err-counted : goal.returns-in_err-counted
returns-in_err-counted = grind (arith, common_steps)

pub returns-then-refuses : goal.returns-then-refuses
returns-then-refuses = grind (arith, common_steps)
