use Rattle.std.proofs.Common.{◌≡◌, drop}
use Rattle.std.specs.Prelude.{bytes_eq}
use Rattle.target_config.specs.Configuration.{names_of, targets_view}
use Rattle.target_config.specs.Distinct.{is_distinct}
use Rattle.target_config.proofs.distinct.have_distinct_names.Given as goal

-- the targets from this one on decide
abbrev pub invariant-loop-i : goal.invariant-loop-i
invariant-loop-i l = is_distinct bytes_eq (names_of (targets_view l.targets)) ≡ is_distinct bytes_eq (names_of (targets_view (drop l.i l.targets)))
