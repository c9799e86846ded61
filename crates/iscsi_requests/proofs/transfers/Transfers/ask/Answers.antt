use Rattle.std.proofs.Common.{sym, ◌∙◌, arith}
use Rattle.iscsi_requests.proofs.Sending.{sending_begins, sending_more, sending_ends}
use Rattle.iscsi_requests.proofs.transfers.Transfers.ask.Goals as goal

pub loop-due-init : goal.loop-due-init
loop-due-init c = search (arith, sending_begins)

pub loop-due-preserved : goal.loop-due-preserved
loop-due-preserved c = search (arith, sending_more)

pub returns-clause-sent : goal.returns-clause-sent
returns-clause-sent c = (sending_ends c.loop-due.invariant.sent c.loop-due.invariant.tag (sym c.loop-due.invariant.next ∙ c.in_default.is)).1
