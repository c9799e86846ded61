use Rattle.std.proofs.Common.{◌≡◌, ◌≤◌, take, vec_len, vec_capacity}
use Rattle.iscsi_transfer.specs.DataIn.{pieces_of, piece_count}
use Rattle.iscsi_transfer.proofs.data_in.data_ins.Given as goal

-- the first pieces
abbrev pub invariant-loop-number : goal.invariant-loop-number
invariant-loop-number l = record {
  front : l.pieces.items ≡ take l.number (pieces_of l.length l.burst l.segment);
  len : vec_len l.pieces ≡ l.number;
  room : piece_count l.length l.burst l.segment ≤ vec_capacity l.pieces;
  count : l.count ≡ piece_count l.length l.burst l.segment;
}
