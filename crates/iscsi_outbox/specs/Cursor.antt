-- What is left of an answer, as its cursor keeps it. The data lies after the room for a header, and what ends the
-- answer lies after the data. Headers may lie over data up to where the piece that is being sent ends.
use Rattle.std.specs.Prelude.{◌≡◌, ◌<◌, ◌≤◌, ℕ, ◌+◌, ◌-◌, ◌%◌, ◌^◌, max, List, ◌++◌, length, drop, replicate}
use Rattle.std.specs.List.{flat_map, enumerate_from, slice_range}
use Rattle.scsi_sense.specs.Given.{headroom}
use Rattle.iscsi_pdu.specs.Answer.{spelling}
use Rattle.iscsi_pdu.specs.Segment.{padded}
use Rattle.iscsi_pdu.specs.declared.answer.Answer.{Answer}
use Rattle.iscsi_transfer.specs.DataIn.{pieces_of}
use Rattle.iscsi_transfer.specs.declared.data_in.Piece.{Piece}
use Rattle.iscsi_outbox.specs.declared.cursor.Cursor.{Cursor}
use Rattle.iscsi_outbox.specs.Answer.{AreAligned, unpadded}
use Rattle.iscsi_outbox.specs.Cut.{AreCut}

-- all pieces of the data
abbrev pub all_pieces : Cursor → List Piece
all_pieces c = pieces_of c.length c.limits.burst c.limits.segment

-- the pieces from this number on
unfoldable pub pieces_left : Cursor → List Piece
pieces_left c = drop c.number (all_pieces c)

-- what is left: of the piece that is being sent, of the pieces after it, and of what ends the answer
unfoldable pub left : Cursor → List ℕ
left c =
    slice_range c.buffer.items c.at (headroom + c.offset)
    ++ (flat_map (unpadded c.shared (drop headroom c.buffer.items)) (enumerate_from c.number (pieces_left c))
    ++ drop (max c.at (headroom + c.length)) c.buffer.items)

-- these bytes pad data of this length, and end its answer by whole PDUs
pub record EndsAnswer (length : ℕ) (bytes : List ℕ) : Type 0 where
  pub pdus : List Answer
  pub spelled : bytes ≡ replicate (padded length - length) 0 ++ flat_map spelling pdus

-- offset is where the piece that is being sent, the one before number, ends; no byte after it was sent
pub record IsPlaced (c : Cursor) : Type 0 where
  pub limits : AreAligned c.limits
  pub short : c.length < 2 ^ 32
  pub within : headroom + c.length ≤ length c.buffer.items
  pub at : c.at ≤ length c.buffer.items
  pub near : c.offset < c.length → c.at ≤ headroom + c.offset
  pub below : c.offset ≤ c.length
  pub early : c.number ≤ c.offset
  pub cut : AreCut c.length c.limits.burst c.offset c.length (pieces_left c)
  pub by_4 : c.offset < c.length → c.offset % 4 ≡ 0
  pub ends : c.offset < c.length → EndsAnswer c.length (drop (headroom + c.length) c.buffer.items)

-- a byte of the piece that is being sent is left, or there are no more pieces
pub record IsReady (c : Cursor) : Type 0 where
  pub placed : IsPlaced c
  pub some : c.offset < c.length → c.at < headroom + c.offset
