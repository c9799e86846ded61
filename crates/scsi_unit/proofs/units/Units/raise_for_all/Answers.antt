use borrow.Author.Rules.{scaled_Fits}
use Rattle.std.proofs.Common.{◌≡◌, ◌∙◌, map, set, refl, sym, ap, arith}
use Rattle.scsi_unit.specs.Unit.{where_named, raised_unit_for_all}
use Rattle.scsi_unit.specs.Units.{raised_for_all_at, numbers_of}
use Rattle.scsi_unit.proofs.Numbers.{numbers_named}
use Rattle.scsi_unit.proofs.Lists.{map_over_next, map_over_all, over_all}
use Rattle.scsi_unit.proofs.units.Units.raise_for_all.Goals as goal

pub offset_bounds-unit-items-unit-index : goal.offset_bounds-unit-items-unit-index
offset_bounds-unit-items-unit-index g c = scaled_Fits _ _ _ c.loop-unit-test.true c.deref_mut-unit-items.type_inv.1

pub loop-unit-preserved : goal.loop-unit-preserved
loop-unit-preserved g c =
    ap (set c.loop-unit.unit-items c.loop-unit.unit-index) c.raise_for_all_at.ensures
    ∙ map_over_next (where_named c.args.lun (raised_unit_for_all c.args.attention)) c.deref_mut-unit-items.result.now c.loop-unit.unit-items
    c.loop-unit.unit-index c.unit-item.result (omega arith) (omega arith) c.loop-unit.invariant

pub returns : goal.returns
unfolding raised_for_all_at
returns g c =
    let f = (where_named c.args.lun (raised_unit_for_all c.args.attention)) in
    let done : c.loop-unit.unit-items ≡ map f c.deref_mut-unit-items.result.now =
    map_over_all f c.deref_mut-unit-items.result.now c.loop-unit.unit-items c.loop-unit.unit-index c.loop-unit-test.false c.loop-unit.invariant in
    over_all c.loop-unit.unit-items _ c.self.inside.units.len (omega (arith, c.deref_mut-unit-items.ensures.len, c.loop-unit.auto.unit-items))
    ∙ done ∙ ap (map f) (c.deref_mut-unit-items.ensures.value ∙ c.self.view_is)

pub invariant_of-self : goal.invariant_of-self
invariant_of-self g c =
    let f = (where_named c.args.lun (raised_unit_for_all c.args.attention)) in
    let done : c.loop-unit.unit-items ≡ map f c.deref_mut-unit-items.result.now =
    map_over_all f c.deref_mut-unit-items.result.now c.loop-unit.unit-items c.loop-unit.unit-index c.loop-unit-test.false c.loop-unit.invariant in
    let whole = over_all c.loop-unit.unit-items _ c.self.inside.units.len (omega (arith, c.deref_mut-unit-items.ensures.len, c.loop-unit.auto.unit-items))
    ∙ done ∙ ap (map f) c.deref_mut-unit-items.ensures.value in
    c.self.invariant ∙ sym (numbers_named c.args.lun (raised_unit_for_all c.args.attention) c.self.inside.units.items (λ unit. refl))
    ∙ ap numbers_of (sym whole)
