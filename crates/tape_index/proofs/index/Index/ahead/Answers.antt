use Rattle.std.proofs.Common.{arith}
use Rattle.tape_index.proofs.Runs.{ahead_on, ahead_back}
use Rattle.tape_index.proofs.index.Index.ahead.Goals as goal

pub returns-else-at-count : goal.returns-else-at-count
returns-else-at-count c = rw c.in-Forward.is (ahead_on c.args.self.now.sizes c.args.at _ c.run_at-next.result c.run_at-next.ensures (omega arith))

pub returns-else-at-eq0 : goal.returns-else-at-eq0
returns-else-at-eq0 c =
    rw c.in-Backward.is (ahead_back c.args.self.now.sizes c.args.at _ c.run_at-first.result (omega arith) c.requires c.run_at-first.ensures)
