use Rattle.std.proofs.Common.{arith}
use Rattle.iscsi_transfer.proofs.Counts.{pieces_are_counted}
use Rattle.iscsi_outbox.proofs.Moves.{number_within, next}
use Rattle.iscsi_outbox.proofs.cursor.Cursor.piece.Goals as goal

pub piece_at-requires-clause-number : goal.piece_at-requires-clause-number
piece_at-requires-clause-number c =
    let cursor = c.args.self.now in
    let limits = c.requires.placed.limits in
    omega (
      arith,
      number_within cursor c.requires.placed c.requires.more,
      pieces_are_counted cursor.length cursor.limits.burst cursor.limits.segment limits.burst limits.segment,
    )

pub returns-clause-lies : goal.returns-clause-lies
returns-clause-lies c = (next c.args.self.now c.piece_at.result c.requires.placed c.piece_at.ensures).is_cut
