-- The lines of an input, one after the other.
use Rattle.std.proofs.Common.{◌≡◌, ℕ, ◌<◌, false, List, [], ◌∷◌, ◌++◌, length, length-append, refl, sym, ap, ◌∙◌, Option, None, Some, arith, append_assoc, append-nil}
use Rattle.std.specs.Prelude.{All, ◌==◌, option_and_then}
use Rattle.std.specs.List.{slice_split}
use Rattle.std.proofs.lemmas.List.Splits.{slice_split_at, slice_split_none, length-slice_split}
use Rattle.target_replay.specs.Lines.{is_newline, unless_empty, without_empty_end, lines, printed_before, carried_out}

-- no byte ends the line
abbrev pub IsOneLine : List ℕ → Type 0
IsOneLine line = All (λ byte. (byte == 10) ≡ false) line

without_empty_end-cons : (part : List ℕ) (parts : List (List ℕ)) → 0 < length parts → without_empty_end (part ∷ parts) ≡ part ∷ without_empty_end parts
without_empty_end-cons part [] lt = absurd (omega arith)
without_empty_end-cons part (next ∷ parts) lt = refl

without_empty_end-append : (front parts : List (List ℕ)) → 0 < length parts → without_empty_end (front ++ parts) ≡ front ++ without_empty_end parts
without_empty_end-append [] parts lt = refl
without_empty_end-append (part ∷ front) parts lt =
    without_empty_end-cons part (front ++ parts) (omega (arith, length-append front parts))
    ∙ ap (λ (parts : List (List ℕ)). part ∷ parts) (without_empty_end-append front parts lt)

-- where the parts of some bytes begin with these lines, the lines do
pub lines_behind : (bytes pending : List ℕ) (front : List (List ℕ)) → slice_split is_newline bytes ≡ front ++ slice_split is_newline pending
    → lines bytes ≡ front ++ lines pending
unfolding lines
lines_behind bytes pending front e =
    ap without_empty_end e ∙ without_empty_end-append front (slice_split is_newline pending) (omega (arith, length-slice_split is_newline pending))

pub split_next : (line rest : List ℕ) → IsOneLine line → slice_split is_newline (line ++ 10 ∷ rest) ≡ line ∷ slice_split is_newline rest
split_next line rest one = slice_split_at is_newline line 10 rest one refl

pub split_last : (line : List ℕ) → IsOneLine line → slice_split is_newline line ≡ line ∷ []
split_last line one = slice_split_none is_newline line one

pub lines_next : (line rest : List ℕ) → IsOneLine line → lines (line ++ 10 ∷ rest) ≡ line ∷ lines rest
lines_next line rest one = lines_behind (line ++ 10 ∷ rest) rest (line ∷ []) (split_next line rest one)

unless_empty_some : (line : List ℕ) → 0 < length line → unless_empty line ≡ line ∷ []
unless_empty_some [] some = absurd (omega arith)
unless_empty_some (byte ∷ line) some = refl

pub lines_last : (line : List ℕ) → IsOneLine line → 0 < length line → lines line ≡ line ∷ []
unfolding lines
lines_last line one some = ap without_empty_end (split_last line one) ∙ unless_empty_some line some

pub no_lines : lines [] ≡ []
unfolding lines
no_lines = refl

-- ---- lines that are carried out, whatever one does

module _ {S : Type 0} (reply : S → List ℕ → Option (List ℕ × S)) where
  -- and then the lines after
  abbrev and_behind : List (List ℕ) → Option (List ℕ × S) → Option (List ℕ × S)
  and_behind behind r = option_and_then (λ p. printed_before reply p.0 (carried_out reply p.1 behind)) r

  printed_before_nil : (r : Option (List ℕ × S)) → r ≡ printed_before reply [] r
  printed_before_nil None = refl
  printed_before_nil (Some p) = refl

  printed_before_twice : (t u : List ℕ) (r : Option (List ℕ × S)) → printed_before reply t (printed_before reply u r) ≡ printed_before reply (t ++ u) r
  printed_before_twice t u None = refl
  printed_before_twice t u (Some p) = ap (λ (text : List ℕ). Some (text, p.1)) (sym (append_assoc t u p.0))

  printed_before_behind : (t : List ℕ) (behind : List (List ℕ)) (r : Option (List ℕ × S))
      → printed_before reply t (and_behind behind r) ≡ and_behind behind (printed_before reply t r)
  printed_before_behind t behind None = refl
  printed_before_behind t behind (Some p) = printed_before_twice t p.0 (carried_out reply p.1 behind)

  first_of_more : (front behind : List (List ℕ)) → ((s : S) → carried_out reply s (front ++ behind) ≡ and_behind behind (carried_out reply s front))
      → (r : Option (List ℕ × S))
      → and_behind (front ++ behind) r ≡ and_behind behind (and_behind front r)
  first_of_more front behind rest None = refl
  first_of_more front behind rest (Some p) = ap (printed_before reply p.0) (rest p.1) ∙ printed_before_behind p.0 behind (carried_out reply p.1 front)

  carried_out-append : (front behind : List (List ℕ)) (s : S) → carried_out reply s (front ++ behind) ≡ and_behind behind (carried_out reply s front)
  carried_out-append [] behind s = printed_before_nil (carried_out reply s behind)
  carried_out-append (line ∷ front) behind s = first_of_more front behind (carried_out-append front behind) (reply s line)

  -- one more line
  pub carried_out_more : (s now next : S) (front : List (List ℕ)) (line text more : List ℕ) → carried_out reply s front ≡ Some (text, now)
      → reply now line ≡ Some (more, next)
      → carried_out reply s (front ++ line ∷ []) ≡ Some (text ++ more, next)
  carried_out_more s now next front line text more so_far e = carried_out-append front (line ∷ []) s ∙ ap (and_behind (line ∷ [])) so_far
      ∙ rw e (rw (append-nil more) refl)

  pub carried_out_refused : (s now : S) (front : List (List ℕ)) (line text : List ℕ) → carried_out reply s front ≡ Some (text, now) → reply now line ≡ None
      → carried_out reply s (front ++ line ∷ []) ≡ None
  carried_out_refused s now front line text so_far e = carried_out-append front (line ∷ []) s ∙ ap (and_behind (line ∷ [])) so_far ∙ rw e refl
