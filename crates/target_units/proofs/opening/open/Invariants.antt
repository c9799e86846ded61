use Rattle.std.proofs.Common.{◌≡◌, true, map}
use Rattle.std.specs.Prelude.{Contains, string_bytes}
use Rattle.std.specs.List.{list_all}
use Rattle.std.specs.Vec.Iter.{into_iter_items}
use Rattle.target_config.specs.Configuration.{TargetEntry, names_of, targets_view}
use Rattle.target_config.specs.Limits.{target_keeps}
use Rattle.target_units.specs.Opened.{AreUnitsOf}
use Rattle.target_units.proofs.opening.open.Given as goal

-- the units of those that were taken are opened, and the rest are targets of the configuration that keep their limits
abbrev pub invariant-loop-target : goal.invariant-loop-target
invariant-loop-target g l =
    (goal.iterator-loop-target g).can_next l.target-iterator × (goal.iterator-loop-target g).is_finite l.target-iterator
    × (list_all target_keeps (targets_view (into_iter_items l.target-iterator)) ≡ true)
    × ((entry : TargetEntry) → Contains (targets_view (into_iter_items l.target-iterator)) entry
    → Contains (targets_view l.fn.configuration.targets.items) entry)
    × (map string_bytes l.names.items ≡ names_of (targets_view l.yielded))
    × AreUnitsOf g.S.Start.held (targets_view l.yielded) l.units.items
