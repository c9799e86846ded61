use Rattle.std.proofs.Common.{◌≤◌, arith}
use Rattle.iscsi_transfer.proofs.Due.{few_due}
use Rattle.iscsi_transfer.proofs.progress.Progress.due.Goals as goal
use Rattle.std.proofs.lemmas.Grind.{common_steps}

pub returns-clause-few : goal.returns-clause-few
returns-clause-few c =
    let most : c.args.self.now.outstanding ≤ 4 = rw (← c.self.view_is) c.self.invariant.few in
    omega (arith, most, few_due c.args.self.now (omega (arith, c.sent-number.ensures.value, c.sent-number.ensures.behind)))

pub returns-clause-value : goal.returns-clause-value
returns-clause-value c = grind (arith, common_steps)

pub returns-then-not-lacks_data : goal.returns-then-not-lacks_data
returns-then-not-lacks_data = grind (arith, common_steps)
