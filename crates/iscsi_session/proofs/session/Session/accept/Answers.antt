use Rattle.std.proofs.Common.{arith}
use Rattle.std.proofs.lemmas.Result.{on_ok_weaker}
use Rattle.iscsi_session.proofs.Parts.{stands_request}
use Rattle.iscsi_session.proofs.session.Session.accept.Goals as goal

pub returns-clause-stands : goal.returns-clause-stands
returns-clause-stands c = grind (arith, on_ok_weaker, stands_request)
