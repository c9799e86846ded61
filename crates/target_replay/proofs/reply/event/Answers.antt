use Rattle.std.proofs.Common.{sym}
use Rattle.target_replay.proofs.Replies.{event_of_text, no_event}
use Rattle.target_replay.proofs.reply.event.Goals as goal

pub returns-in-Ok-clause-event : goal.returns-in-Ok-clause-event
returns-in-Ok-clause-event c = rw (event_of_text c.args.bytes.now c.in-Ok.ensures.cases.1, sym c.in-Ok.ensures.cases.0) c.line.ensures.event

pub returns-in-Err-clause-event : goal.returns-in-Err-clause-event
returns-in-Err-clause-event c = sym (no_event c.args.bytes.now c.in-Err.ensures.cases.0)
