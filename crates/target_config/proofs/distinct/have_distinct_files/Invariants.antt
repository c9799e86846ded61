use Rattle.std.proofs.Common.{◌≡◌, drop}
use Rattle.target_config.specs.Configuration.{targets_view}
use Rattle.target_config.specs.Distinct.{is_distinct, shares_file, units_in}
use Rattle.target_config.proofs.distinct.have_distinct_files.Given as goal

-- the targets from this one on decide
abbrev pub invariant-loop-i : goal.invariant-loop-i
invariant-loop-i l = is_distinct shares_file (units_in (targets_view l.targets)) ≡ is_distinct shares_file (units_in (targets_view (drop l.i l.targets)))
