use Rattle.iscsi_outbox.proofs.Starts.{ready_left, ready_is}
use Rattle.iscsi_outbox.proofs.cursor.Cursor.ready.Goals as goal

pub returns-clause-value : goal.returns-clause-value
returns-clause-value c = ready_left c.args.buffer c.args.shared c.args.limits c.requires.limits

pub returns-clause-ready : goal.returns-clause-ready
returns-clause-ready c = ready_is c.args.buffer c.args.shared c.args.limits c.requires.limits c.requires.room
