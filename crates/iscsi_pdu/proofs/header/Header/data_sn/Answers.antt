use Rattle.std.proofs.Common.{arith}
use Rattle.std.proofs.lemmas.Grind.{common_steps}
use Rattle.iscsi_pdu.proofs.header.Header.data_sn.Goals as goal

pub returns : goal.returns
returns = grind (arith, common_steps)
