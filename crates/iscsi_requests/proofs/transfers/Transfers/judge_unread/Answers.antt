use Rattle.std.proofs.Common.{sym, arith}
use Rattle.iscsi_requests.proofs.Unread.{violates_unread}
use Rattle.iscsi_requests.proofs.transfers.Transfers.judge_unread.Goals as goal

pub returns-then-is_some : goal.returns-then-is_some
returns-then-is_some c frame unread = sym (violates_unread _ c.args.header.now frame unread (grind arith))
