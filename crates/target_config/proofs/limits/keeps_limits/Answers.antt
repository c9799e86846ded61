use Rattle.std.proofs.Common.{rules}
use Rattle.target_config.proofs.Lists.{targets_decide}
use Rattle.target_config.proofs.limits.keeps_limits.Goals as goal

pub returns : goal.returns
returns c = rw (targets_decide c.args.configuration.now (search rules) (search rules)) (search rules)
