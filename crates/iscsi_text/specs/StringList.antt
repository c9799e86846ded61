-- Strings, one after the other in one text.
use Rattle.std.specs.Prelude.{◌≡◌, ℕ, ◌+◌, ◌≤◌, List, [], ◌∷◌, length, slice_range}
use Rattle.std.specs.Str.{IsCharBoundary}
use Rattle.iscsi_text.specs.Pairs.{Pair}

-- own: the strings of a text from a place on, by the places where they end
abbrev pub strings_in : List ℕ → ℕ → List ℕ → List (List ℕ)
strings_in text start [] = []
strings_in text start (end ∷ ends) = slice_range text start end ∷ strings_in text end ends

-- own: these places rise from a first one to the end of the text, and none is within a character
abbrev pub AreEnds : List ℕ → ℕ → List ℕ → Type 0
AreEnds text start [] = start ≡ length text
AreEnds text start (end ∷ ends) = (start ≤ end) × IsCharBoundary text end × AreEnds text end ends

-- own: each key with the value after it
abbrev pub pairs_of : List (List ℕ) → List Pair
pairs_of [] = []
pairs_of (key ∷ []) = []
pairs_of (key ∷ value ∷ strings) = (key, value) ∷ pairs_of strings

-- own: each key has its value
abbrev pub ArePairs : List (List ℕ) → Type 0
ArePairs strings = length strings ≡ length (pairs_of strings) + length (pairs_of strings)
