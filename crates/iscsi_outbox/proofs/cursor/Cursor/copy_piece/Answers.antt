use Rattle.std.proofs.Common.{◌+◌, ◌++◌, ◌∙◌, slice_range, ℕ, List, drop, ap, append_assoc}
use Rattle.scsi_sense.specs.Given.{headroom}
use Rattle.iscsi_pdu.specs.DataIn.{data_in_header}
use Rattle.iscsi_transfer.specs.DataIn.{part_of}
use Rattle.iscsi_outbox.specs.Answer.{fields_of}
use Rattle.iscsi_outbox.proofs.Copies.{behind}
use Rattle.iscsi_outbox.proofs.cursor.Cursor.copy_piece.Goals as goal

pub returns : goal.returns
returns c =
    let bytes = drop headroom c.args.self.now.buffer.items in
    let part = part_of bytes c.args.piece in
    let more = rw c.as_slice.ensures at c.in_ok-extend_from_slice-2.ensures.items in
    let piece = c.args.piece in
    more
    ∙ ap (λ (xs : List ℕ). c.extend_from_slice.new.self.items ++ slice_range xs piece.offset (piece.offset + piece.length))
    (behind c.args.self.now.buffer.items headroom)
    ∙ ap (λ (xs : List ℕ). xs ++ part)
    (c.in_ok-extend_from_slice.ensures.items ∙ ap (λ (head : List ℕ). c.args.bytes.now.items ++ head) c.header-header.ensures)
    ∙ append_assoc c.args.bytes.now.items (data_in_header (fields_of c.args.self.now.shared bytes (c.args.number, c.args.piece))) part
