use Rattle.std.proofs.Common.{arith}
use Rattle.std.proofs.lemmas.Grind.{common_steps}
use Rattle.iscsi_pdu.proofs.header.Header.ref_cmd_sn.Goals as goal

pub returns : goal.returns
returns = grind (arith, common_steps)
