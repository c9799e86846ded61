use Rattle.std.proofs.Common.{arith}
use Rattle.std.proofs.lemmas.Grind.{common_steps}
use Rattle.iscsi_pdu.proofs.segment.put.Goals as goal

pub returns-clause-err : goal.returns-clause-err
returns-clause-err = grind (arith, common_steps)

pub returns-clause-full : goal.returns-clause-full
returns-clause-full = grind (arith, common_steps)

pub returns-clause-memory : goal.returns-clause-memory
returns-clause-memory = grind (arith, common_steps)

pub returns-clause-spare : goal.returns-clause-spare
returns-clause-spare = grind (arith, common_steps)

pub returns-in_err-reserve : goal.returns-in_err-reserve
returns-in_err-reserve = grind (arith, common_steps)
