use Rattle.std.proofs.Common.{◌∙◌, map, refl, sym, ap, arith}
use Rattle.std.proofs.lemmas.Result.{on_ok_weaker, on_err_weaker}
use Rattle.scsi_unit.specs.Unit.{joined_unit}
use Rattle.scsi_unit.specs.Units.{join, numbers_of}
use Rattle.scsi_unit.proofs.Lists.{over_all}
use Rattle.scsi_unit.proofs.Numbers.{numbers_result}
use Rattle.scsi_unit.proofs.units.Units.join.Goals as goal

pub invariant_of-self : goal.invariant_of-self
invariant_of-self g c =
    let whole = over_all c.join_each.new.units c.self.inside.units.items c.self.inside.units.len
    (omega (arith, c.as_mut_slice.ensures.len, c.join_each.auto.units)) in
    c.self.invariant ∙ sym (ap numbers_of c.as_mut_slice.ensures.value)
    ∙ sym (numbers_result c.join_each.result (joined_unit c.args.nexus.now) c.as_mut_slice.result.now c.join_each.new.units (λ unit. refl)
    c.join_each.ensures.ok c.join_each.ensures.err)
    ∙ ap numbers_of (sym whole)

pub returns-clause-ok : goal.returns-clause-ok
unfolding join
returns-clause-ok g c =
    let whole = over_all c.join_each.new.units c.self.inside.units.items c.self.inside.units.len
    (omega (arith, c.as_mut_slice.ensures.len, c.join_each.auto.units)) in
    on_ok_weaker c.join_each.result
    (λ joined. whole ∙ joined ∙ ap (map (joined_unit c.args.nexus.now)) (c.as_mut_slice.ensures.value ∙ c.self.view_is)) c.join_each.ensures.ok

pub returns-clause-err : goal.returns-clause-err
returns-clause-err g c =
    let whole = over_all c.join_each.new.units c.self.inside.units.items c.self.inside.units.len
    (omega (arith, c.as_mut_slice.ensures.len, c.join_each.auto.units)) in
    on_err_weaker c.join_each.result (λ same. whole ∙ same ∙ c.as_mut_slice.ensures.value ∙ c.self.view_is) c.join_each.ensures.err
