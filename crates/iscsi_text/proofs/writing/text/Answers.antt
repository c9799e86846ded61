use Rattle.std.proofs.Common.{arith}
use Rattle.iscsi_text.proofs.Lists.{text_more}
use Rattle.std.proofs.lemmas.Grind.{common_steps}
use Rattle.iscsi_text.proofs.writing.text.Goals as goal

pub loop-at-preserved : goal.loop-at-preserved
loop-at-preserved c = grind (arith, text_more c.args.pairs.now c.loop-at.at _ c.pair.ensures)

pub returns : goal.returns
returns = grind (arith, common_steps)

pub returns-in_err-put_pair : goal.returns-in_err-put_pair
returns-in_err-put_pair = grind (arith, common_steps)
