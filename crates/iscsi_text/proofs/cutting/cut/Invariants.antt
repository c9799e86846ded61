use Rattle.std.proofs.Common.{◌≡◌}
use Rattle.iscsi_text.specs.Cut.{piece_count}
use Rattle.iscsi_text.proofs.Cuts.{first_pieces}
use Rattle.iscsi_text.proofs.cutting.cut.Given as goal

-- the first pieces
abbrev pub invariant-loop-number : goal.invariant-loop-number
invariant-loop-number l = record {
  front : l.pieces.items ≡ first_pieces l.len l.limit l.number;
  count : l.count ≡ piece_count l.len l.limit;
}
