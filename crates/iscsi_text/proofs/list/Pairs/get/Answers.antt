use Rattle.std.proofs.Common.{arith}
use Rattle.iscsi_text.proofs.Lists.{value_at}
use Rattle.iscsi_text.proofs.list.Pairs.get.Goals as goal

pub returns-then-eq : goal.returns-then-eq
returns-then-eq c = grind (arith, value_at c.args.key.now c.args.self.now c.loop-at.at _ c.pair.ensures)

pub loop-at-preserved : goal.loop-at-preserved
loop-at-preserved c = grind (arith, value_at c.args.key.now c.args.self.now c.loop-at.at _ c.pair.ensures)
