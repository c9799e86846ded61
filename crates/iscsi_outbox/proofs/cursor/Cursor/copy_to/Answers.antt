use Rattle.std.proofs.Common.{arith}
use Rattle.iscsi_outbox.proofs.Copies.{copied}
use Rattle.iscsi_outbox.proofs.cursor.Cursor.copy_to.Goals as goal

pub returns : goal.returns
returns c =
    let first = rw c.as_slice-items.ensures at c.in_ok-extend_from_slice.ensures.items in
    let last = rw c.as_slice-items.ensures at c.in_ok-extend_from_slice-2.ensures.items in
    copied c.args.self.now c.args.bytes.now.items c.extend_from_slice.new.self.items c.copy_pieces.new.bytes.items
    c.extend_from_slice-2.new.self.items c.max-end.result c.max-last.result (omega arith) (omega arith) first c.in_ok-copy_pieces.ensures last
