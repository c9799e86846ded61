use Rattle.std.proofs.Common.{◌≡◌, [], sym, ap, subst, ◌∙◌}
use Rattle.std.specs.Prelude.{Contains}
use Rattle.std.specs.List.{list_all}
use Rattle.std.specs.Vec.Iter.{into_iter_items}
use Rattle.scsi_unit.specs.Units.{UnitStates}
use Rattle.target_config.specs.Limits.{unit_keeps}
use Rattle.target_config.specs.Configuration.{unit_view, units_view}
use Rattle.target_units.specs.Opened.{IsUnitOf, AreEach}
use Rattle.target_units.proofs.OpenedUnits.{each_view_more, units_next, unit_kept, unit_now}
use Rattle.target_units.proofs.RefusedUnits.{fails_in}
use Rattle.target_units.proofs.opening.open_units.Goals as goal

pub loop-unit-init : goal.loop-unit-init
loop-unit-init g c =
    let same : into_iter_items c.into_iter-unit-iterator.result ≡ c.args.units.items = c.into_iter-unit-iterator.ensures.into_iter_gives.0 in (
      tt,
      tt,
      ap (λ units. list_all unit_keeps (units_view units)) same ∙ c.requires,
      λ entry found. subst (λ units. Contains (units_view units) entry) same found,
      subst (λ (units : UnitStates). AreEach (IsUnitOf g.S.Start.held) [] units) (sym c.new-opened.ensures.items) tt,
    )

pub open_unit-requires : goal.open_unit-requires
open_unit-requires g c = unit_kept _ _ c.in-Some.unit c.in-Some.ensures.steps.0 c.loop-unit.invariant.2

pub loop-unit-preserved : goal.loop-unit-preserved
loop-unit-preserved g c =
    let next = units_next _ _ c.in-Some.unit (units_view c.args.units.items) c.in-Some.ensures.steps.0 c.loop-unit.invariant.2 c.loop-unit.invariant.3 in (
      tt,
      tt,
      next.0,
      next.1,
      each_view_more (IsUnitOf g.S.Start.held) unit_view c.loop-unit.yielded c.loop-unit.opened.items c.push.new.self.items
          c.in-Some.unit c.in_ok-open_unit.field-0 c.in_ok-push.ensures.items c.loop-unit.invariant.4 c.in_ok-open_unit.ensures.unit,
    )

pub returns-in_err-open_unit-clause-fault : goal.returns-in_err-open_unit-clause-fault
returns-in_err-open_unit-clause-fault g c =
    fails_in g.S.Start.held (units_view c.args.units.items) (unit_view c.in-Some.unit) _ c.from_residual.result
    c.in_err-open_unit.field-0.0 c.from_residual.ensures.1
    (unit_now _ _ c.in-Some.unit (units_view c.args.units.items) c.in-Some.ensures.steps.0 c.loop-unit.invariant.3) c.in_err-open_unit.ensures.fault
