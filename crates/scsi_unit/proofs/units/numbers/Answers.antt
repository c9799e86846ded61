use Rattle.scsi_unit.specs.State.{UnitState}
use Rattle.std.proofs.lemmas.Result.{IfOk-from_err}
use Rattle.std.proofs.lemmas.List.{take_all, map_more}
use Rattle.std.proofs.Common.{◌≡◌, ℕ, ap, sym, ◌∙◌, List, [], ◌∷◌, ◌++◌, take, get_or}
use Rattle.scsi_unit.specs.Units.{numbers_of}
use Rattle.scsi_unit.proofs.units.numbers.Goals as goal

pub offset_bounds-units-unit-index : goal.offset_bounds-units-unit-index
offset_bounds-units-unit-index g c = c.loop-unit.auto.unit-index-end

pub returns-in_err-push : goal.returns-in_err-push
returns-in_err-push g c = IfOk-from_err c.from_residual.result _ c.from_residual.ensures.0

pub loop-unit-preserved : goal.loop-unit-preserved
loop-unit-preserved g c =
    let units = c.args.units.now in
    let number : c.number.result ≡ (get_or units c.loop-unit.unit-index c.unit-item.result).lun =
    c.number.ensures ∙ ap (λ (unit : UnitState). unit.lun) (c.unit.view_is ∙ c.unit-item.is) in
    c.in_ok-push.ensures.items ∙ ap (λ (numbers : List ℕ). numbers ++ c.number.result ∷ []) c.loop-unit.invariant
    ∙ ap (λ (n : ℕ). numbers_of (take c.loop-unit.unit-index units) ++ n ∷ []) number
    ∙ sym (map_more (λ (unit : UnitState). unit.lun) units c.loop-unit.unit-index c.unit-item.result c.loop-unit-test.true)

pub returns : goal.returns
returns g c = c.loop-unit.invariant ∙ ap numbers_of (take_all c.loop-unit.unit-index c.args.units.now c.loop-unit-test.false)
