-- The pieces of a text, one after the other, and what is read of them.
use Rattle.std.proofs.Common.{◌≡◌, ℕ, ◌+◌, ◌<◌, ◌≤◌, true, false, cond, ltb, List, [], ◌∷◌, ◌++◌, length, map, take, drop, Some, None, Result, Ok, Err, refl, sym, ap, ◌∙◌, arith, append_assoc}
use Rattle.std.specs.Prelude.{position, bytes_eq}
use Rattle.std.specs.List.{list_any, slice_split, before_first, after_first}
use Rattle.std.proofs.lemmas.Bool.{lt-ltb, le-ltb}
use Rattle.std.proofs.lemmas.List.{nil_from_length, append-nil, drop_all, map-append}
use Rattle.std.proofs.lemmas.List.Splits.{slice_split_first, slice_split_none, length-slice_split}
use Rattle.std.proofs.lemmas.List.Sums.{fails_before_first}
use Rattle.std.proofs.lemmas.List.Elements.{All-from_get_or}
use Rattle.iscsi_text.specs.declared.fault.TextFault.{TextFault}
use Rattle.iscsi_text.specs.declared.fault.TextFault.TheVariants as faults
use Rattle.iscsi_text.specs.Pairs.{Pair, Piece, is_zero, marked, pieces, key_in, pair_in, own_fault, fault_of, first_fault, pairs_unless, longest_text, text_pairs}
use Rattle.iscsi_text.proofs.Parts.{first_place, no_place}

-- ---- the first piece of a text

-- more parts follow
pub marked-cons : (part text : List ℕ) → marked (part ∷ slice_split is_zero text) ≡ record { bytes = part; ended = true } ∷ marked (slice_split is_zero text)
marked-cons part text = go (slice_split is_zero text) (some_part text)
  where
    some_part : (text : List ℕ) → 0 < length (slice_split is_zero text)
    some_part text = omega (arith, length-slice_split is_zero text)

    go : (parts : List (List ℕ)) → 0 < length parts → marked (part ∷ parts) ≡ record { bytes = part; ended = true } ∷ marked parts
    go [] lt = absurd (omega arith)
    go (next ∷ parts) lt = refl

pub pieces-nil : pieces [] ≡ []
unfolding pieces
pieces-nil = refl

pieces_cut : (text : List ℕ) (end : ℕ) → position is_zero text ≡ Some end
    → pieces text ≡ cond (ltb 0 (length (take end text))) (record { bytes = take end text; ended = true } ∷ pieces (drop (end + 1) text))
    (pieces (drop (end + 1) text))
unfolding pieces
pieces_cut text end e =
    let place = first_place is_zero text end e in
    rw (slice_split_first is_zero text 0 (omega arith), marked-cons (before_first is_zero text) (after_first is_zero text), place.0) refl

-- a zero byte ends the first piece
pub pieces_ended : (text : List ℕ) (end : ℕ) → position is_zero text ≡ Some end → 0 < length (take end text)
    → pieces text ≡ record { bytes = take end text; ended = true } ∷ pieces (drop (end + 1) text)
pieces_ended text end e some = rw (pieces_cut text end e, lt-ltb 0 (length (take end text)) some) refl

-- it is passed over, since it is empty
pub pieces_passed : (text : List ℕ) (end : ℕ) → position is_zero text ≡ Some end → length (take end text) ≡ 0 → pieces text ≡ pieces (drop (end + 1) text)
pieces_passed text end e none = rw (pieces_cut text end e, none) refl

pieces_alone : (text : List ℕ) → position is_zero text ≡ None → 0 < length text → pieces text ≡ record { bytes = text; ended = false } ∷ []
unfolding pieces
pieces_alone text e lt =
    let past = no_place is_zero text e in
    rw (
      slice_split_none is_zero text (All-from_get_or (λ b. is_zero b ≡ false) text 0
          (λ i in_text. fails_before_first is_zero text i 0 (omega arith))),
      lt-ltb 0 (length text) lt,
    ) refl

-- no zero byte is there
pub pieces_open : (text : List ℕ) → position is_zero text ≡ None → 0 < length text
    → pieces text ≡ record { bytes = text; ended = false } ∷ pieces (drop (length text) text)
pieces_open text e lt = pieces_alone text e lt ∙ rw (drop_all (length text) text (omega arith), pieces-nil) refl

-- ---- what is read of pieces, after the pairs that are there

abbrev pub keys_of : List Pair → List (List ℕ)
keys_of pairs = map (λ pair. pair.0) pairs

abbrev pub reads_on : List Pair → List Piece → Result (List Pair) TextFault
reads_on pairs later = pairs_unless (first_fault (keys_of pairs) later) (pairs ++ map pair_in later)

pub reads_on-nil : (pairs : List Pair) → reads_on pairs [] ≡ Ok pairs
reads_on-nil pairs = rw (append-nil pairs) refl

-- a faulty piece
pub reads_on-fault : (pairs : List Pair) (piece : Piece) (later : List Piece) (fault : TextFault) → fault_of (keys_of pairs) piece ≡ Some fault
    → reads_on pairs (piece ∷ later) ≡ Err fault
reads_on-fault pairs piece later fault e = rw e refl

-- a piece that is a pair
pub reads_on-pair : (pairs : List Pair) (piece : Piece) (later : List Piece) → fault_of (keys_of pairs) piece ≡ None
    → reads_on pairs (piece ∷ later) ≡ reads_on (pairs ++ pair_in piece ∷ []) later
reads_on-pair pairs piece later e = rw (e, map-append, append_assoc) refl

-- ---- the fault of a piece

pub fault_of-own : (earlier : List (List ℕ)) (piece : Piece) (fault : TextFault) → own_fault piece ≡ Some fault → fault_of earlier piece ≡ Some fault
fault_of-own earlier piece fault e = rw e refl

pub fault_of-twice : (earlier : List (List ℕ)) (piece : Piece) → own_fault piece ≡ None → list_any (bytes_eq (key_in piece)) earlier ≡ true
    → fault_of earlier piece ≡ Some faults.KeyTwice
fault_of-twice earlier piece e twice = rw (e, twice) refl

pub fault_of-none : (earlier : List (List ℕ)) (piece : Piece) → own_fault piece ≡ None → list_any (bytes_eq (key_in piece)) earlier ≡ false
    → fault_of earlier piece ≡ None
fault_of-none earlier piece e once = rw (e, once) refl

-- ---- a text of which pairs were read, and rest is left

pub record IsReadUpTo (text : List ℕ) (pairs : List Pair) (rest : List ℕ) : Type 0 where
  pub fits : length text ≤ 65536
  pub same : reads_on pairs (pieces rest) ≡ reads_on [] (pieces text)

text_pairs-reads_on : (text : List ℕ) → length text ≤ 65536 → text_pairs text ≡ reads_on [] (pieces text)
unfolding text_pairs
text_pairs-reads_on text le = rw (le-ltb longest_text (length text) le) refl

pub ends_with_fault : (text : List ℕ) (pairs : List Pair) (rest : List ℕ) (piece : Piece) (later : List Piece) (fault : TextFault) → IsReadUpTo text pairs rest
    → pieces rest ≡ piece ∷ later → fault_of (keys_of pairs) piece ≡ Some fault → text_pairs text ≡ Err fault
ends_with_fault text pairs rest piece later fault so_far e faulty =
    text_pairs-reads_on text so_far.fits ∙ sym so_far.same ∙ rw e (reads_on-fault pairs piece later fault faulty)

pub goes_on : (text : List ℕ) (pairs : List Pair) (rest : List ℕ) (piece : Piece) (after : List ℕ) → IsReadUpTo text pairs rest
    → pieces rest ≡ piece ∷ pieces after → fault_of (keys_of pairs) piece ≡ None → IsReadUpTo text (pairs ++ pair_in piece ∷ []) after
goes_on text pairs rest piece after so_far e faultless = record {
  fits = so_far.fits;
  same = sym (rw e (reads_on-pair pairs piece (pieces after) faultless)) ∙ so_far.same;
}

pub passes_over : (text : List ℕ) (pairs : List Pair) (rest after : List ℕ) → IsReadUpTo text pairs rest → pieces rest ≡ pieces after
    → IsReadUpTo text pairs after
passes_over text pairs rest after so_far e = record { fits = so_far.fits; same = ap (reads_on pairs) (sym e) ∙ so_far.same }

pub ends : (text : List ℕ) (pairs : List Pair) (rest : List ℕ) → IsReadUpTo text pairs rest → length rest ≡ 0 → text_pairs text ≡ Ok pairs
ends text pairs rest so_far none =
    text_pairs-reads_on text so_far.fits ∙ sym so_far.same ∙ rw (nil_from_length rest none, pieces-nil) (reads_on-nil pairs)
