use Rattle.std.proofs.Common.{arith}
use Rattle.std.proofs.lemmas.Grind.{common_steps}
use Rattle.scsi_reserve.proofs.news.News.due.Goals as goal

pub loop-row-preserved : goal.loop-row-preserved
loop-row-preserved = grind (arith, common_steps)

pub returns : goal.returns
returns = grind (arith, common_steps)

pub returns-in_err-push : goal.returns-in_err-push
returns-in_err-push = grind (arith, common_steps)

pub returns-in_err-told : goal.returns-in_err-told
returns-in_err-told = grind (arith, common_steps)
