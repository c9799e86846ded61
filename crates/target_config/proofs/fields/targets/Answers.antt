use Rattle.std.proofs.Common.{arith}
use Rattle.std.proofs.lemmas.Grind.{common_steps}
use Rattle.target_config.proofs.fields.targets.Goals as goal

pub loop-value-preserved : goal.loop-value-preserved
loop-value-preserved = grind (arith, common_steps)

pub returns : goal.returns
returns = grind (arith, common_steps)

pub returns-in_err-push : goal.returns-in_err-push
returns-in_err-push = grind (arith, common_steps)

pub returns-in_err-target : goal.returns-in_err-target
returns-in_err-target = grind (arith, common_steps)
