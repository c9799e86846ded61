use Rattle.std.proofs.Common.{rules}
use Rattle.iscsi_framer.proofs.byte_queue.ByteQueue.forget.Goals as goal

pub returns : goal.returns
returns c = search rules
