-- A text cut into pieces.
use Rattle.std.specs.Prelude.{ℕ, ◌+◌, ◌*◌, min, max, List, length, map}
use Rattle.std.specs.Int.{div_ceil}
use Rattle.std.specs.List.{range_with_len, slice_range}
use Rattle.std.specs.declared.ops.Range.{Range}

-- profile: piece number k begins at the k-th multiple of the limit, and ends at the next one or with the text
abbrev pub piece_at : ℕ → ℕ → ℕ → Range ℕ
piece_at len limit k = record { start = k * limit; end = min len ((k + 1) * limit) }

-- profile: the number of pieces; an empty text is one empty piece
abbrev pub piece_count : ℕ → ℕ → ℕ
piece_count len limit = max 1 (div_ceil len limit)

-- profile: the pieces of a text of this length
unfoldable pub cut_of : ℕ → ℕ → List (Range ℕ)
cut_of len limit = map (piece_at len limit) (range_with_len 0 (piece_count len limit))

-- the bytes of a piece
abbrev pub part_of : List ℕ → Range ℕ → List ℕ
part_of text piece = slice_range text piece.start piece.end

-- the bytes of each piece of a text
unfoldable pub parts_cut : ℕ → List ℕ → List (List ℕ)
parts_cut limit text = map (part_of text) (cut_of (length text) limit)
