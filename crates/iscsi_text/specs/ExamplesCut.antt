-- Texts cut into pieces, computed.
use Rattle.std.specs.Prelude.{◌≡◌, ℕ, List, [], ◌∷◌, codes, refl}
use Rattle.std.specs.declared.ops.Range.{Range}
use Rattle.iscsi_text.specs.Cut.{cut_of, parts_cut}

-- the piece from a place to another
abbrev from_to : ℕ → ℕ → Range ℕ
from_to start end = record { start = start; end = end }

-- an empty text is one empty piece
empty : cut_of 0 4 ≡ from_to 0 0 ∷ []
unfolding cut_of
empty = refl

-- a text as long as the limit is one piece; with one byte more it is two
one_piece : cut_of 4 4 ≡ from_to 0 4 ∷ []
unfolding cut_of
one_piece = refl

two_pieces : cut_of 5 4 ≡ from_to 0 4 ∷ from_to 4 5 ∷ []
unfolding cut_of
two_pieces = refl

-- a multiple of the limit has no empty piece at its end
whole_pieces : parts_cut 3 (codes "a=b=c=") ≡ codes "a=b" ∷ codes "=c=" ∷ []
unfolding parts_cut cut_of
whole_pieces = refl
