use Rattle.std.proofs.Common.{◌≡◌, ◌++◌}
use Rattle.iscsi_outbox.proofs.Copies.{pieces_from}
use Rattle.iscsi_outbox.proofs.cursor.Cursor.copy_pieces.Given as goal

-- what is copied, and the pieces that are to come, is all
abbrev pub invariant-loop-number : goal.invariant-loop-number
invariant-loop-number l = l.bytes.items ++ pieces_from l.self l.number ≡ l.initial.bytes.items ++ pieces_from l.self l.initial.number
