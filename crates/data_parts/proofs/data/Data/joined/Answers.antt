use Rattle.std.proofs.Common.{arith}
use Rattle.std.proofs.lemmas.Grind.{common_steps}
use Rattle.std.proofs.lemmas.Result.{IfOk-from_err}
use Rattle.data_parts.proofs.data.Data.joined.Goals as goal

pub returns-in_err-extend_from_slice : goal.returns-in_err-extend_from_slice
returns-in_err-extend_from_slice c =
    IfOk-from_err c.from_residual-in_err-extend_from_slice.result _ c.from_residual-in_err-extend_from_slice.ensures.0

pub returns-in_err-extend_from_slice-2 : goal.returns-in_err-extend_from_slice-2
returns-in_err-extend_from_slice-2 c =
    IfOk-from_err c.from_residual-in_err-extend_from_slice-2.result _ c.from_residual-in_err-extend_from_slice-2.ensures.0

pub returns-in_err-reserve : goal.returns-in_err-reserve
returns-in_err-reserve c = IfOk-from_err c.from_residual.result _ c.from_residual.ensures.0

pub returns-then-behind-eq0 : goal.returns-then-behind-eq0
returns-then-behind-eq0 = grind (arith, common_steps)

pub loop-buffer-preserved : goal.loop-buffer-preserved
loop-buffer-preserved = grind (arith, common_steps)

pub returns : goal.returns
returns = grind (arith, common_steps)
