use Rattle.std.proofs.Common.{◌≡◌, drop}
use Rattle.std.specs.Ordering.{int_eq}
use Rattle.target_config.specs.Configuration.{units_view}
use Rattle.target_config.specs.Distinct.{is_distinct, luns_of}
use Rattle.target_config.proofs.distinct.has_distinct_luns.Given as goal

-- the units from this one on decide
abbrev pub invariant-loop-i : goal.invariant-loop-i
invariant-loop-i l = is_distinct int_eq (luns_of (units_view l.units)) ≡ is_distinct int_eq (luns_of (units_view (drop l.i l.units)))
