-- The lines of an input, and what they print, whatever a line does.
use Rattle.std.specs.Prelude.{◌≡◌, ℕ, ◌+◌, List, [], ◌∷◌, ◌++◌, length, Bool, ◌==◌, Option, None, Some, option_and_then, option_map, codes, refl}
use Rattle.std.specs.List.{slice_split}
use Rattle.target_replay.specs.declared.fault.ReplayFault.{ReplayFault}
use Rattle.target_replay.specs.declared.fault.ReplayFault.TheVariants as faults

abbrev pub is_newline : ℕ → Bool
is_newline byte = byte == 10

abbrev pub unless_empty : List ℕ → List (List ℕ)
unless_empty [] = []
unless_empty (byte ∷ line) = (byte ∷ line) ∷ []

abbrev pub without_empty_end : List (List ℕ) → List (List ℕ)
without_empty_end [] = []
without_empty_end (last ∷ []) = unless_empty last
without_empty_end (part ∷ next ∷ parts) = part ∷ without_empty_end (next ∷ parts)

-- profile: each line ends in a newline, which the last may lack
unfoldable pub lines : List ℕ → List (List ℕ)
lines input = without_empty_end (slice_split is_newline input)

-- the last line may lack its newline
two_lines : lines (codes "open 0\ngone 0") ≡ codes "open 0" ∷ codes "gone 0" ∷ []
unfolding lines
two_lines = refl

-- a line may be empty
empty_lines : lines (codes "\n\n") ≡ [] ∷ [] ∷ []
unfolding lines
empty_lines = refl

-- the input begins with these lines
abbrev pub BeginsWith : List ℕ → List (List ℕ) → Type 0
BeginsWith input front = (behind : List (List ℕ)) × (lines input ≡ front ++ behind)

-- ---- lines that are carried out, if `reply` is what one prints and the state after it, or none

module _ {S : Type 0} (reply : S → List ℕ → Option (List ℕ × S)) where
  -- the text, and then the output of the lines after it
  abbrev pub printed_before : List ℕ → Option (List ℕ × S) → Option (List ℕ × S)
  printed_before text behind = option_map (λ p. (text ++ p.0, p.1)) behind

  -- the output of the lines, one after the other, and the state after them; none if one is refused
  abbrev pub carried_out : S → List (List ℕ) → Option (List ℕ × S)
  carried_out s [] = Some ([], s)
  carried_out s (line ∷ behind) = option_and_then (λ p. printed_before p.0 (carried_out p.1 behind)) (reply s line)

  -- each of the lines is carried out, and this is their output
  abbrev pub Prints : S → List (List ℕ) → List ℕ → Type 0
  Prints s front text = (last : S) × (carried_out s front ≡ Some (text, last))

  -- the output of an input that ends by this fault of a line: a line refused, an allocation that failed, a write
  unfoldable pub StopsBy : ReplayFault → S → List ℕ → List ℕ → Type 0
  StopsBy (faults.Refused number) s input text =
      (front : List (List ℕ)) × (line : List ℕ) × BeginsWith input (front ++ line ∷ []) × Prints s front text × (carried_out s (front ++ line ∷ []) ≡ None)
      × (number ≡ length front + 1)
  StopsBy faults.OutOfMemory s input text = (front : List (List ℕ)) × BeginsWith input front × Prints s front text
  StopsBy faults.Output s input text = (front : List (List ℕ)) × (unprinted : List ℕ) × BeginsWith input front × Prints s front (text ++ unprinted)
  StopsBy faults.Input s input text = ⊥
