use Rattle.std.proofs.Common.{◌≡◌, drop}
use Rattle.target_config.specs.Configuration.{units_view, targets_view}
use Rattle.target_config.specs.Distinct.{is_distinct_before, shares_file, units_in}
use Rattle.target_config.proofs.distinct.is_apart.Given as goal

-- the units from this one on decide
abbrev pub invariant-loop-i : goal.invariant-loop-i
invariant-loop-i l =
    is_distinct_before shares_file (units_view l.units) (units_in (targets_view l.behind))
    ≡ is_distinct_before shares_file (units_view (drop l.i l.units)) (units_in (targets_view l.behind))
