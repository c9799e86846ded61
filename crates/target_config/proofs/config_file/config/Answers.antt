use Rattle.std.proofs.Common.{sym, ◌∙◌}
use Rattle.target_config.proofs.Faults.{limits_first}
use Rattle.target_config.proofs.config_file.config.Goals as goal

pub returns-in-None-clause-limits : goal.returns-in-None-clause-limits
returns-in-None-clause-limits c = limits_first _ (sym c.fault_in.ensures ∙ c.in-None.is)
