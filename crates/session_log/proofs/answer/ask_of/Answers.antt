use Rattle.session_log.proofs.Fields.{number_at}
use Rattle.session_log.proofs.answer.ask_of.Goals as goal

pub returns : goal.returns
returns c =
    rw (
      c.initiator_task_tag.ensures,
      c.target_transfer_tag.ensures,
      c.buffer_offset.ensures,
      c.read_u32-length.ensures,
      c.new-header.ensures,
      number_at 4 44 0 c.args.header.now,
    )
