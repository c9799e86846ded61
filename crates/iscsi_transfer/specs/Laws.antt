-- Laws of the pieces of data.
use Rattle.std.specs.Prelude.{All, ◌≡◌, ℕ, ◌+◌, ◌-◌, ◌*◌, ◌<◌, ◌≤◌, ◌==◌, ◌||◌, List, length}
use Rattle.std.specs.Int.{div_ceil}
use Rattle.std.specs.List.{flat_map}
use Rattle.iscsi_transfer.specs.declared.data_in.Piece.{Piece}
use Rattle.iscsi_transfer.specs.DataIn.{burst_start, burst_end, piece_in, pieces_of, piece_count, part_of}

-- a piece has some bytes, no more than a segment, all of them in burst b, and F if it ends the burst
pub record Fits (piece : Piece) (length burst segment b : ℕ) : Type 0 where
  pub some : 1 ≤ piece.length
  pub short : piece.length ≤ segment
  pub behind : b * burst ≤ piece.offset
  pub below : piece.offset + piece.length ≤ (b + 1) * burst
  pub within : piece.offset + piece.length ≤ length
  pub last : piece.is_final ≡ (piece.offset + piece.length == (b + 1) * burst || piece.offset + piece.length == length)

-- each piece fits
abbrev pub PiecesFit : Type 0
PiecesFit = (length burst segment b k : ℕ) → 1 ≤ burst → 1 ≤ segment → b < div_ceil length burst
    → k < div_ceil (burst_end length burst b - burst_start burst b) segment
    → Fits (piece_in (burst_start burst b) (burst_end length burst b) segment k) length burst segment b

-- the pieces of data, joined, are the data
abbrev pub PiecesAreJoined : Type 0
PiecesAreJoined = (bytes : List ℕ) (burst segment : ℕ) → 1 ≤ burst → 1 ≤ segment → flat_map (part_of bytes) (pieces_of (length bytes) burst segment) ≡ bytes

-- the number of pieces is `piece_count`
abbrev pub PiecesAreCounted : Type 0
PiecesAreCounted = (size burst segment : ℕ) → 1 ≤ burst → 1 ≤ segment → length (pieces_of size burst segment) ≡ piece_count size burst segment

-- less data has no more pieces
abbrev pub LessHasFewer : Type 0
LessHasFewer = (less size burst segment : ℕ) → 1 ≤ burst → 1 ≤ segment → less ≤ size → piece_count less burst segment ≤ piece_count size burst segment

-- a piece lies in the data, and is no longer than a burst
pub record Lies (piece : Piece) (size burst : ℕ) : Type 0 where
  pub within : piece.offset + piece.length ≤ size
  pub short : piece.length ≤ burst

-- each piece lies in the data, and is no longer than a burst
abbrev pub PiecesLie : Type 0
PiecesLie = (size burst segment : ℕ) → 1 ≤ burst → 1 ≤ segment → All (λ piece. Lies piece size burst) (pieces_of size burst segment)
