use Rattle.std.proofs.Common.{rules}
use Rattle.target_config.proofs.Lists.{units_decide}
use Rattle.target_config.proofs.limits.target_keeps_limits.Goals as goal

pub returns : goal.returns
returns c = rw (units_decide c.args.target.now (search rules) (search rules)) (search rules)
