use Rattle.std.proofs.Common.{arith}
use Rattle.iscsi_requests.specs.Requests.{stamp}
use Rattle.iscsi_session.proofs.Parts.{parts, window_stands}
use Rattle.iscsi_session.proofs.session.Session.stamp.Goals as goal

pub returns : goal.returns
unfolding stamp
returns c past s = grind (arith, parts, window_stands)
