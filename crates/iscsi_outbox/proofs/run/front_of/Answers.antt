use Rattle.std.proofs.Common.{arith}
use Rattle.iscsi_outbox.proofs.Wholes.{first_ends}
use Rattle.std.proofs.lemmas.Grind.{common_steps}
use Rattle.iscsi_outbox.proofs.run.front_of.Goals as goal

pub returns-in-Some-clause-ends : goal.returns-in-Some-clause-ends
returns-in-Some-clause-ends c order =
    let item = c.in-Some.ensures.item in
    first_ends c.args.runs.now.items _ c.args.tail.now.items c.front-in-Some.result.now item.3.0 item.1 order c.front-in-Some.ensures.ends

pub returns-in-None : goal.returns-in-None
returns-in-None = grind (arith, common_steps)

pub returns-in-Some-clause-prefix : goal.returns-in-Some-clause-prefix
returns-in-Some-clause-prefix = grind (arith, common_steps)

pub returns-in-Some-clause-some : goal.returns-in-Some-clause-some
returns-in-Some-clause-some = grind (arith, common_steps)

pub returns-in-Some-clause-whole : goal.returns-in-Some-clause-whole
returns-in-Some-clause-whole = grind (arith, common_steps)
