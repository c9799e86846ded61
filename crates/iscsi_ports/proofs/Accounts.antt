-- Each byte that the system gives is handed on or is ahead, call by call.
use Rattle.std.proofs.Common.{◌≡◌, ℕ, ◌<◌, ◌≤◌, min, List, [], ◌∷◌, ◌++◌, length, take, drop, set, Option, None, Ok, eq-eqb, append_assoc, refl, sym, ap, subst, ◌∙◌, inl, inr}
use Rattle.std.proofs.lemmas.Bool.{ne_eqb, cases_eq}
use Rattle.std.proofs.lemmas.List.{append-nil, take-append-drop, take_all, get_or-set_same, get_or-set_other, drop_min}
use Rattle.target_limits.specs.Numbers.{connection_limit}
use Rattle.iscsi_ports.specs.Calls.{Call, Reading, Handing, Closing, told_by, read_carried}
use Rattle.iscsi_ports.specs.Log.{Read}
use Rattle.iscsi_ports.specs.ReadBuffer.{given, handed, bytes_in, ahead_on, IsAccounted, AreDropped}

-- on the connection itself, and on the others
handed_here : (calls : List Call) (places : List (Option (List ℕ))) (place : Option (List ℕ)) (c room n : ℕ) (piece : List ℕ)
    → given c calls ≡ handed c calls ++ ahead_on c places → c < length places → piece ≡ take n (ahead_on c places)
    → bytes_in place ≡ drop n (ahead_on c places)
    → given c (Handing c room piece ∷ calls) ≡ handed c (Handing c room piece ∷ calls) ++ ahead_on c (set places c place)
handed_here calls places place c room n piece was lt piece_is rest =
    rw (eq-eqb c c refl, get_or-set_same places c place None lt, rest, piece_is, append_assoc, take-append-drop n (ahead_on c places)) was

handed_elsewhere : (calls : List Call) (places : List (Option (List ℕ))) (place : Option (List ℕ)) (c d room : ℕ) (piece : List ℕ)
    → given d calls ≡ handed d calls ++ ahead_on d places → (c ≡ d → ⊥)
    → given d (Handing c room piece ∷ calls) ≡ handed d (Handing c room piece ∷ calls) ++ ahead_on d (set places c place)
handed_elsewhere calls places place c d room piece was other =
    rw (ne_eqb c d other, get_or-set_other places c d place None (λ same. other (sym same))) was

pub accounted_handing : (calls : List Call) (places : List (Option (List ℕ))) (place : Option (List ℕ)) (c room n : ℕ) (piece : List ℕ)
    → IsAccounted calls places → c < length places → piece ≡ take n (ahead_on c places) → bytes_in place ≡ drop n (ahead_on c places)
    → IsAccounted (Handing c room piece ∷ calls) (set places c place)
accounted_handing calls places place c room n piece was lt piece_is rest = λ d in_range.
    elim (cases_eq c d) [
      | inl same ↦
          let P : ℕ → Type 0 = λ e. e ≤ connection_limit
          → given e (Handing c room piece ∷ calls) ≡ handed e (Handing c room piece ∷ calls) ++ ahead_on e (set places c place) in
          subst P same (λ here. handed_here calls places place c room n piece (was c here) lt piece_is rest) in_range
      | inr other ↦ handed_elsewhere calls places place c d room piece (was d in_range) other
    ]

read_here : (calls : List Call) (places : List (Option (List ℕ))) (place : Option (List ℕ)) (c room n : ℕ) (bytes : List ℕ)
    → given c calls ≡ handed c calls ++ ahead_on c places → c < length places → ahead_on c places ≡ [] → n ≡ min room (length bytes)
    → bytes_in place ≡ drop n bytes
    → given c (Reading c room (Ok bytes) ∷ calls) ≡ handed c (Reading c room (Ok bytes) ∷ calls) ++ ahead_on c (set places c place)
read_here calls places place c room n bytes was lt none count rest =
    let all : given c calls ≡ handed c calls = was ∙ ap (λ ahead. handed c calls ++ ahead) none ∙ append-nil (handed c calls) in
    rw (eq-eqb c c refl, get_or-set_same places c place None lt, rest, count, drop_min room bytes, append_assoc, take-append-drop room bytes)
    (ap (λ before. before ++ bytes) all)

read_elsewhere : (calls : List Call) (places : List (Option (List ℕ))) (place : Option (List ℕ)) (c d room : ℕ) (bytes : List ℕ)
    → given d calls ≡ handed d calls ++ ahead_on d places → (c ≡ d → ⊥)
    → given d (Reading c room (Ok bytes) ∷ calls) ≡ handed d (Reading c room (Ok bytes) ∷ calls) ++ ahead_on d (set places c place)
read_elsewhere calls places place c d room bytes was other =
    rw (ne_eqb c d other, get_or-set_other places c d place None (λ same. other (sym same))) was

pub accounted_reading : (calls : List Call) (places : List (Option (List ℕ))) (place : Option (List ℕ)) (c room n : ℕ) (bytes : List ℕ)
    → IsAccounted calls places → c < length places → ahead_on c places ≡ [] → n ≡ min room (length bytes) → bytes_in place ≡ drop n bytes
    → IsAccounted (Reading c room (Ok bytes) ∷ calls) (set places c place)
accounted_reading calls places place c room n bytes was lt none count rest = λ d in_range.
    elim (cases_eq c d) [
      | inl same ↦
          let P : ℕ → Type 0 = λ e. e ≤ connection_limit
          → given e (Reading c room (Ok bytes) ∷ calls) ≡ handed e (Reading c room (Ok bytes) ∷ calls) ++ ahead_on e (set places c place) in
          subst P same (λ here. read_here calls places place c room n bytes (was c here) lt none count rest) in_range
      | inr other ↦ read_elsewhere calls places place c d room bytes (was d in_range) other
    ]

-- all that the system gave has room
pub accounted_at_once : (calls : List Call) (places : List (Option (List ℕ))) (c room : ℕ) (bytes : List ℕ) → IsAccounted calls places
    → ahead_on c places ≡ [] → length bytes ≤ room → IsAccounted (Reading c room (Ok bytes) ∷ calls) places
accounted_at_once calls places c room bytes was none few = λ d in_range.
    elim (cases_eq c d) [
      | inl same ↦
          let before = was d in_range in
          let nothing : ahead_on d places ≡ [] = subst (λ e. ahead_on e places ≡ []) same none in
          rw (eq-eqb c d same, take_all room bytes few, nothing, append-nil (handed d calls ++ bytes))
          (ap (λ all. all ++ bytes) (rw (nothing, append-nil (handed d calls)) at before))
      | inr other ↦ rw (ne_eqb c d other) (was d in_range)
    ]

pub told_at_once : (c room : ℕ) (bytes : List ℕ) → length bytes ≤ room
    → told_by (Reading c room (Ok bytes)) ≡ Read c room (read_carried (Ok bytes)) ∷ []
told_at_once c room bytes few = rw (take_all room bytes few) refl

closed_here : (calls : List Call) (places : List (Option (List ℕ))) (c : ℕ) (dropped : List ℕ) → c < length places
    → given c (Closing c dropped ∷ calls) ≡ handed c (Closing c dropped ∷ calls) ++ ahead_on c (set places c None)
closed_here calls places c dropped lt = rw (eq-eqb c c refl, get_or-set_same places c None None lt) refl

closed_elsewhere : (calls : List Call) (places : List (Option (List ℕ))) (c d : ℕ) (dropped : List ℕ)
    → given d calls ≡ handed d calls ++ ahead_on d places → (c ≡ d → ⊥)
    → given d (Closing c dropped ∷ calls) ≡ handed d (Closing c dropped ∷ calls) ++ ahead_on d (set places c None)
closed_elsewhere calls places c d dropped was other =
    rw (ne_eqb c d other, get_or-set_other places c d None None (λ same. other (sym same))) was

pub accounted_closing : (calls : List Call) (places : List (Option (List ℕ))) (c : ℕ) (dropped : List ℕ) → IsAccounted calls places
    → c < length places → IsAccounted (Closing c dropped ∷ calls) (set places c None)
accounted_closing calls places c dropped was lt = λ d in_range.
    elim (cases_eq c d) [
      | inl same ↦
          let P : ℕ → Type 0 = λ e. given e (Closing c dropped ∷ calls) ≡ handed e (Closing c dropped ∷ calls) ++ ahead_on e (set places c None) in
          subst P same (closed_here calls places c dropped lt)
      | inr other ↦ closed_elsewhere calls places c d dropped (was d in_range) other
    ]

-- what is ahead at a close is dropped
pub dropped_closing : (calls : List Call) (places : List (Option (List ℕ))) (c : ℕ) (dropped : List ℕ) → IsAccounted calls places → AreDropped calls
    → c ≤ connection_limit → dropped ≡ ahead_on c places → AreDropped (Closing c dropped ∷ calls)
dropped_closing calls places c dropped accounted so_far le is = let here = accounted c le in cc
