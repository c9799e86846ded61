-- Laws of the text format, and of cutting a text.
use Rattle.std.specs.Prelude.{◌≡◌, ℕ, ◌<◌, ◌≤◌, List, [], ◌∷◌, length, take, drop, Ok}
use Rattle.iscsi_text.specs.Pairs.{Pair, text_pairs, text_of}
use Rattle.iscsi_text.specs.Cut.{parts_cut}

-- the text of pairs that were read is read as these pairs
abbrev pub IsReadAgain : Type 0
IsReadAgain = (text : List ℕ) (pairs : List Pair) → text_pairs text ≡ Ok pairs → text_pairs (text_of pairs) ≡ Ok pairs

-- a text longer than the limit is a piece as long as the limit, and then the pieces of the rest
abbrev pub LongIsCut : Type 0
LongIsCut = (limit : ℕ) (text : List ℕ) → 1 ≤ limit → limit < length text → parts_cut limit text ≡ take limit text ∷ parts_cut limit (drop limit text)

-- any other text is one piece
abbrev pub ShortIsWhole : Type 0
ShortIsWhole = (limit : ℕ) (text : List ℕ) → 1 ≤ limit → length text ≤ limit → parts_cut limit text ≡ text ∷ []
