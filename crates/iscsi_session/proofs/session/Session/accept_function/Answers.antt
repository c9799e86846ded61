use Rattle.std.proofs.Common.{arith}
use Rattle.iscsi_session.proofs.Feeding.{free_tag}
use Rattle.iscsi_session.proofs.Parts.{on_ok_known, stands_function}
use Rattle.iscsi_session.proofs.session.Session.accept_function.Goals as goal

pub returns-clause-stands : goal.returns-clause-stands
returns-clause-stands c past s = grind (arith, free_tag, on_ok_known, stands_function)
