use Rattle.std.proofs.Common.{arith}
use Rattle.std.proofs.lemmas.Grind.{common_steps}
use Rattle.iscsi_pdu.proofs.header.Header.initiator_task_tag.Goals as goal

pub returns : goal.returns
returns = grind (arith, common_steps)
