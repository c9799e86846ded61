use Rattle.scsi_unit.specs.Unit.{joined_unit}
use Rattle.scsi_unit.proofs.Lists.{map_none, cons_same}
use Rattle.scsi_unit.proofs.UnitParts.{same_joined}
use Rattle.std.proofs.lemmas.Result.{IfOk-from_err}
use Rattle.scsi_unit.proofs.Results.{on_err_any}
use Rattle.std.proofs.Common.{refl, sym, ◌∙◌}
use Rattle.scsi_unit.proofs.units.+join_each.Goals as goal

pub returns-in_default-clause-ok : goal.returns-in_default-clause-ok
returns-in_default-clause-ok g t c = map_none (joined_unit c.args.nexus.now) c.args.units.now c.in_default.ensures.cases

pub returns-in_err-name-clause-ok : goal.returns-in_err-name-clause-ok
returns-in_err-name-clause-ok g t c = IfOk-from_err c.from_residual.result _ c.from_residual.ensures.0

pub returns-in_err-name-clause-err : goal.returns-in_err-name-clause-err
returns-in_err-name-clause-err g t c = on_err_any c.from_residual.result (sym c.in-Some.ensures.cases.0)

pub returns-in_err-reserve_one-clause-err : goal.returns-in_err-reserve_one-clause-err
returns-in_err-reserve_one-clause-err g t c =
    on_err_any c.from_residual-in_err-reserve_one.result
    (cons_same (same_joined _ _ _ c.unit.view_is c.reserve_one.ensures.items) refl ∙ sym c.in-Some.ensures.cases.0)

pub returns-in_err-join_each-clause-err : goal.returns-in_err-join_each-clause-err
returns-in_err-join_each-clause-err g t c =
    on_err_any c.from_residual-in_err-join_each.result
    (cons_same (same_joined _ _ _ c.unit.view_is c.reserve_one.ensures.items) c.in_err-join_each.ensures.err ∙ sym c.in-Some.ensures.cases.0)

pub join-requires : goal.join-requires
join-requires g t c = c.in_ok-reserve_one.ensures.room
