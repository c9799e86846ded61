use Rattle.std.proofs.Common.{arith}
use Rattle.iscsi_session.proofs.Parts.{begun_tasks}
use Rattle.iscsi_requests.specs.Requests.{unfinished, left, functions}
use Rattle.iscsi_requests.specs.State.{transfers_of, functions_of}
use Rattle.iscsi_requests.specs.Texts.{exchange_of}
use Rattle.iscsi_session.proofs.session.Session.new.Goals as goal

pub returns : goal.returns
unfolding transfers_of unfinished left functions_of functions exchange_of
returns c = grind (arith, begun_tasks)
