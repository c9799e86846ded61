use Rattle.std.proofs.lemmas.Grind.{common_steps}
use Rattle.std.proofs.Common.{arith}
use Rattle.iscsi_text.proofs.writing.put_pair.Goals as goal

pub returns-in_err-extend_from_slice-2-clause-unchanged : goal.returns-in_err-extend_from_slice-2-clause-unchanged
returns-in_err-extend_from_slice-2-clause-unchanged c = grind (arith, common_steps)

pub returns-in_err-push-2-clause-unchanged : goal.returns-in_err-push-2-clause-unchanged
returns-in_err-push-2-clause-unchanged c = grind (arith, common_steps)
