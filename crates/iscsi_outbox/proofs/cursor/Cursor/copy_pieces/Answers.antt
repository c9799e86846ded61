use Rattle.std.proofs.Common.{arith}
use Rattle.iscsi_transfer.proofs.Counts.{pieces_are_counted}
use Rattle.iscsi_outbox.proofs.Copies.{lies, copied_more, copied_all}
use Rattle.iscsi_outbox.proofs.cursor.Cursor.copy_pieces.Goals as goal

pub copy_piece-requires-clause-number : goal.copy_piece-requires-clause-number
copy_piece-requires-clause-number c = (lies c.args.self.now _ c.piece_at-piece.result c.requires c.piece_at-piece.ensures).number_fits

pub copy_piece-requires-clause-offset : goal.copy_piece-requires-clause-offset
copy_piece-requires-clause-offset c = (lies c.args.self.now _ c.piece_at-piece.result c.requires c.piece_at-piece.ensures).offset_fits

pub copy_piece-requires-clause-short : goal.copy_piece-requires-clause-short
copy_piece-requires-clause-short c = (lies c.args.self.now _ c.piece_at-piece.result c.requires c.piece_at-piece.ensures).short

pub copy_piece-requires-clause-within : goal.copy_piece-requires-clause-within
copy_piece-requires-clause-within c = (lies c.args.self.now _ c.piece_at-piece.result c.requires c.piece_at-piece.ensures).within

pub loop-number-preserved : goal.loop-number-preserved
loop-number-preserved c =
    copied_more c.args.self.now c.loop-number.number c.piece_at-piece.result _ c.loop-number.bytes.items c.copy_piece.new.bytes.items
    c.piece_at-piece.ensures c.loop-number.invariant c.in_ok-copy_piece.ensures

pub returns : goal.returns
returns c =
    let cursor = c.args.self.now in
    let limits = c.requires.limits in
    let counted = pieces_are_counted cursor.length cursor.limits.burst cursor.limits.segment limits.burst limits.segment in
    copied_all cursor c.loop-number.number c.args.bytes.now.items c.loop-number.bytes.items
    (omega (arith, counted, c.loop-number-test.false)) c.loop-number.invariant
