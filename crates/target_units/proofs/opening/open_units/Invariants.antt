use Rattle.std.proofs.Common.{◌≡◌, true}
use Rattle.std.specs.Prelude.{Contains}
use Rattle.std.specs.List.{list_all}
use Rattle.std.specs.Vec.Iter.{into_iter_items}
use Rattle.target_config.specs.Configuration.{UnitEntry, units_view}
use Rattle.target_config.specs.Limits.{unit_keeps}
use Rattle.target_units.specs.Opened.{IsUnitOf, AreEach}
use Rattle.target_units.proofs.opening.open_units.Given as goal

-- those that were taken are opened, and the rest are units of the target that keep their limits
abbrev pub invariant-loop-unit : goal.invariant-loop-unit
invariant-loop-unit g l =
    (goal.iterator-loop-unit g).can_next l.unit-iterator × (goal.iterator-loop-unit g).is_finite l.unit-iterator
    × (list_all unit_keeps (units_view (into_iter_items l.unit-iterator)) ≡ true)
    × ((entry : UnitEntry) → Contains (units_view (into_iter_items l.unit-iterator)) entry → Contains (units_view l.fn.units.items) entry)
    × AreEach (IsUnitOf g.S.Start.held) (units_view l.yielded) l.opened.items
