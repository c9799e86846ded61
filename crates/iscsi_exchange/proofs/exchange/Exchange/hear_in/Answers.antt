use Rattle.std.proofs.Common.{arith}
use Rattle.std.proofs.lemmas.Grind.{common_steps}
use Rattle.iscsi_exchange.specs.Exchange.{hears_in}
use Rattle.iscsi_exchange.proofs.exchange.Exchange.hear_in.Goals as goal

pub returns-then-not-is_continued-clause-told : goal.returns-then-not-is_continued-clause-told
unfolding hears_in
returns-then-not-is_continued-clause-told c = grind (arith, common_steps)
