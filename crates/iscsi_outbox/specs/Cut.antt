-- Where the pieces of data lie.
use Rattle.std.specs.Prelude.{◌≡◌, ◌<◌, ◌≤◌, ℕ, ◌+◌, ◌%◌, List, [], ◌∷◌}
use Rattle.iscsi_transfer.specs.declared.data_in.Piece.{Piece}

-- a piece that begins at this place, has some bytes of the data, at most a burst, and ends at a multiple of 4 or with
-- the data
pub record IsCut (size burst from : ℕ) (piece : Piece) : Type 0 where
  pub begins : piece.offset ≡ from
  pub some : 1 ≤ piece.length
  pub short : piece.length ≤ burst
  pub within : from + piece.length ≤ size
  pub aligned : from + piece.length < size → (from + piece.length) % 4 ≡ 0

-- each piece begins where the one before it ends, from this place up to the end of the data
abbrev pub AreCut : ℕ → ℕ → ℕ → ℕ → List Piece → Type 0
AreCut size burst from to [] = from ≡ to
AreCut size burst from to (piece ∷ pieces) = IsCut size burst from piece × AreCut size burst (from + piece.length) to pieces
