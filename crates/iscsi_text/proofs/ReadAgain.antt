-- The text of pairs that were read is read as these pairs: it has the same pieces, and is no longer.
use Rattle.std.proofs.Common.{◌≡◌, ℕ, ◌<◌, ◌≤◌, Bool, true, false, cond, not, ltb, List, [], ◌∷◌, ◌++◌, length, map, get_or, All, Option, Some, None, Ok, Err, refl, sym, ap, ◌∙◌, arith, append_assoc}
use Rattle.std.specs.Option.{option_or}
use Rattle.std.specs.List.{filter, flat_map, slice_split, onto_first, join_with_byte, position_or_len, before_first, after_first, AllByRecursion}
use Rattle.std.proofs.lemmas.Bool.{ltb-true, ltb-false, le-ltb, eqb-true, and_parts}
use Rattle.std.proofs.lemmas.List.{append-nil, length-append}
use Rattle.std.proofs.lemmas.List.Elements.{All-nil, All-cons}
use Rattle.std.proofs.lemmas.List.Splits.{slice_split_at, join_with_byte-slice_split}
use Rattle.std.proofs.lemmas.List.Sums.{split_at_first, passes_at_first}
use Rattle.iscsi_text.specs.declared.fault.TextFault.{TextFault}
use Rattle.iscsi_text.specs.declared.fault.TextFault.TheVariants as faults
use Rattle.iscsi_text.specs.Pairs.{Pair, Piece, is_zero, is_equals, marked, is_nonempty, pieces, key_in, pair_in, has_key, own_fault, fault_of, first_fault, pairs_unless, longest_text, text_pairs, spelled, text_of}
use Rattle.iscsi_text.proofs.PieceFaults.{length-key}
use Rattle.iscsi_text.proofs.Pieces.{marked-cons, pieces-nil}

-- ---- pieces without a fault

pub record IsPair (piece : Piece) : Type 0 where
  pub ended : piece.ended ≡ true
  pub keyed : has_key piece ≡ true

guard_passed : (b : Bool) (fault : TextFault) (later : Option TextFault) → cond (not b) (Some fault) later ≡ None → (b ≡ true) × (later ≡ None)
guard_passed true fault later e = (refl, e)
guard_passed false fault later e = absurd cc

none_of_both : (first later : Option TextFault) → option_or first later ≡ None → (first ≡ None) × (later ≡ None)
none_of_both None later e = (refl, e)
none_of_both (Some fault) later e = absurd cc

is_pair : (piece : Piece) → own_fault piece ≡ None → IsPair piece
unfolding own_fault
is_pair piece e =
    let a = guard_passed _ _ _ e in
    let b = guard_passed _ _ _ a.1 in
    let c = guard_passed _ _ _ b.1 in
    record { ended = a.0; keyed = c.0 }

are_pairs : (earlier : List (List ℕ)) (ps : List Piece) → first_fault earlier ps ≡ None → AllByRecursion IsPair ps
are_pairs earlier [] e = tt
are_pairs earlier (piece ∷ later) e =
    let both = none_of_both (fault_of earlier piece) (first_fault (earlier ++ key_in piece ∷ []) later) e in
    (is_pair piece (none_of_both (own_fault piece) _ both.0).0, are_pairs (earlier ++ key_in piece ∷ []) later both.1)

-- ---- what a text's pieces are

abbrev isnt_zero : ℕ → Type 0
isnt_zero b = is_zero b ≡ false

abbrev pub HasNoZero : List ℕ → Type 0
HasNoZero bytes = All isnt_zero bytes

abbrev pub IsPiece : Piece → Type 0
IsPiece piece = HasNoZero piece.bytes × (is_nonempty piece ≡ true)

parts_have_no_zero : (text : List ℕ) → AllByRecursion HasNoZero (slice_split is_zero text)
parts_have_no_zero [] = (All-nil isnt_zero, tt)
parts_have_no_zero (b ∷ text) = by_test (is_zero b) refl (slice_split is_zero text) (parts_have_no_zero text)
  where
    by_test : (t : Bool) → is_zero b ≡ t → (parts : List (List ℕ)) → AllByRecursion HasNoZero parts
        → AllByRecursion HasNoZero (cond t ([] ∷ parts) (onto_first b parts))
    by_test true e parts all = (All-nil isnt_zero, all)
    by_test false e [] all = (All-cons isnt_zero b [] e (All-nil isnt_zero), tt)
    by_test false e (part ∷ parts) all = (All-cons isnt_zero b part e all.0, all.1)

marked_all : (P : List ℕ → Type 0) (parts : List (List ℕ)) → AllByRecursion P parts → AllByRecursion (λ piece. P piece.bytes) (marked parts)
marked_all P [] all = tt
marked_all P (part ∷ []) all = (all.0, tt)
marked_all P (part ∷ next ∷ parts) all = (all.0, marked_all P (next ∷ parts) all.1)

filter_all : (P : Piece → Type 0) (ps : List Piece) → AllByRecursion P ps
    → AllByRecursion (λ piece. P piece × (is_nonempty piece ≡ true)) (filter is_nonempty ps)
filter_all P [] all = tt
filter_all P (piece ∷ ps) all = by_test (is_nonempty piece) refl (filter_all P ps all.1)
  where
    by_test : (t : Bool) → is_nonempty piece ≡ t → AllByRecursion (λ piece. P piece × (is_nonempty piece ≡ true)) (filter is_nonempty ps)
        → AllByRecursion (λ piece. P piece × (is_nonempty piece ≡ true)) (cond t (piece ∷ filter is_nonempty ps) (filter is_nonempty ps))
    by_test true e rest = ((all.0, e), rest)
    by_test false e rest = rest

are_pieces : (text : List ℕ) → AllByRecursion IsPiece (pieces text)
unfolding pieces
are_pieces text = filter_all (λ piece. HasNoZero piece.bytes) (marked (slice_split is_zero text))
    (marked_all HasNoZero (slice_split is_zero text) (parts_have_no_zero text))

-- ---- pieces as a text

abbrev pub end_of : Bool → List ℕ
end_of true = 0 ∷ []
end_of false = []

abbrev pub bytes_of : List Piece → List ℕ
bytes_of ps = flat_map (λ piece. piece.bytes ++ end_of piece.ended) ps

bytes_of-marked : (parts : List (List ℕ)) → bytes_of (marked parts) ≡ join_with_byte 0 parts
bytes_of-marked [] = refl
bytes_of-marked (part ∷ []) = append-nil (part ++ []) ∙ append-nil part
bytes_of-marked (part ∷ next ∷ parts) = rw (bytes_of-marked (next ∷ parts)) (append_assoc part (0 ∷ []) (join_with_byte 0 (next ∷ parts)))

bytes_of-filter : (ps : List Piece) → length (bytes_of (filter is_nonempty ps)) ≤ length (bytes_of ps)
bytes_of-filter [] = omega arith
bytes_of-filter (piece ∷ ps) = by_test (is_nonempty piece) (bytes_of-filter ps)
  where
    by_test : (t : Bool) → length (bytes_of (filter is_nonempty ps)) ≤ length (bytes_of ps)
        → length (bytes_of (cond t (piece ∷ filter is_nonempty ps) (filter is_nonempty ps))) ≤ length (bytes_of (piece ∷ ps))
    by_test true le = omega (
      arith,
      length-append (piece.bytes ++ end_of piece.ended) (bytes_of (filter is_nonempty ps)),
      length-append (piece.bytes ++ end_of piece.ended) (bytes_of ps),
    )
    by_test false le = omega (arith, length-append (piece.bytes ++ end_of piece.ended) (bytes_of ps))

no_longer : (text : List ℕ) → length (bytes_of (pieces text)) ≤ length text
unfolding pieces
no_longer text =
    let whole : bytes_of (marked (slice_split is_zero text)) ≡ text = bytes_of-marked (slice_split is_zero text) ∙ join_with_byte-slice_split 0 text in
    omega (arith, bytes_of-filter (marked (slice_split is_zero text)), ap length whole)

pieces-cons : (bytes rest : List ℕ) → HasNoZero bytes → ltb 0 (length bytes) ≡ true
    → pieces (bytes ++ 0 ∷ rest) ≡ record { bytes = bytes; ended = true } ∷ pieces rest
unfolding pieces
pieces-cons bytes rest free some = rw (slice_split_at is_zero bytes 0 rest free refl, marked-cons bytes rest, some) refl

pieces-bytes_of : (ps : List Piece) → AllByRecursion IsPiece ps → AllByRecursion IsPair ps → pieces (bytes_of ps) ≡ ps
pieces-bytes_of [] are pairs = pieces-nil
pieces-bytes_of (piece ∷ ps) are pairs =
    let regrouped : bytes_of (piece ∷ ps) ≡ piece.bytes ++ 0 ∷ bytes_of ps = rw pairs.0.ended (append_assoc piece.bytes (0 ∷ []) (bytes_of ps)) in
    let same : record { bytes = piece.bytes; ended = true } ≡ piece = ap (λ (e : Bool). record { bytes = piece.bytes; ended = e }) (sym pairs.0.ended) in
    ap pieces regrouped ∙ pieces-cons piece.bytes (bytes_of ps) are.0.0 are.0.1 ∙ rw (same, pieces-bytes_of ps are.1 pairs.1) refl

-- ---- pairs as a text

spelled-pair_in : (piece : Piece) → IsPair piece → spelled (pair_in piece) ≡ piece.bytes ++ end_of piece.ended
spelled-pair_in piece pair =
    let found : position_or_len is_equals piece.bytes < length piece.bytes =
    omega (
      arith,
      ltb-true (length (key_in piece)) (length piece.bytes)
          (and_parts (ltb 0 (length (key_in piece))) (ltb (length (key_in piece)) (length piece.bytes)) pair.keyed).1,
      length-key piece.bytes,
    ) in
    let sign : get_or piece.bytes (position_or_len is_equals piece.bytes) 0 ≡ 61 = eqb-true _ _ (passes_at_first is_equals piece.bytes 0 found) in
    let whole : piece.bytes ≡ before_first is_equals piece.bytes ++ 61 ∷ after_first is_equals piece.bytes =
    split_at_first is_equals piece.bytes 0 found ∙ rw sign refl in
    rw pair.ended (ap (λ (x : List ℕ). x ++ 0 ∷ []) (sym whole))

text_of-pairs : (ps : List Piece) → AllByRecursion IsPair ps → text_of (map pair_in ps) ≡ bytes_of ps
text_of-pairs [] pairs = refl
text_of-pairs (piece ∷ ps) pairs = rw (spelled-pair_in piece pairs.0, text_of-pairs ps pairs.1) refl

-- ---- the law

pairs_read : (fault : Option TextFault) (found pairs : List Pair) → pairs_unless fault found ≡ Ok pairs → (fault ≡ None) × (found ≡ pairs)
pairs_read None found pairs e = (refl, cc)
pairs_read (Some fault) found pairs e = absurd cc

fits_and_reads : (text : List ℕ) (pairs : List Pair) → text_pairs text ≡ Ok pairs → (length text ≤ 65536)
    × (pairs_unless (first_fault [] (pieces text)) (map pair_in (pieces text)) ≡ Ok pairs)
unfolding text_pairs
fits_and_reads text pairs e = by_test (ltb longest_text (length text)) refl e
  where
    by_test : (t : Bool) → ltb longest_text (length text) ≡ t → cond t (Err faults.TooLong)
        (pairs_unless (first_fault [] (pieces text)) (map pair_in (pieces text))) ≡ Ok pairs
        → (length text ≤ 65536) × (pairs_unless (first_fault [] (pieces text)) (map pair_in (pieces text)) ≡ Ok pairs)
    by_test true is e = absurd cc
    by_test false is e = (ltb-false longest_text (length text) is, e)

reads : (text : List ℕ) (pairs : List Pair) → length text ≤ 65536 → pairs_unless (first_fault [] (pieces text)) (map pair_in (pieces text))
    ≡ Ok pairs → text_pairs text ≡ Ok pairs
unfolding text_pairs
reads text pairs le e = rw (le-ltb longest_text (length text) le) e

pub is_read_again : (text : List ℕ) (pairs : List Pair) → text_pairs text ≡ Ok pairs → text_pairs (text_of pairs) ≡ Ok pairs
is_read_again text pairs e =
    let read = fits_and_reads text pairs e in
    let parts = pairs_read (first_fault [] (pieces text)) (map pair_in (pieces text)) pairs read.1 in
    let faultless = are_pairs [] (pieces text) parts.0 in
    let spelled_so : text_of pairs ≡ bytes_of (pieces text) = ap text_of (sym parts.1) ∙ text_of-pairs (pieces text) faultless in
    let same : pieces (bytes_of (pieces text)) ≡ pieces text = pieces-bytes_of (pieces text) (are_pieces text) faultless in
    rw spelled_so (reads (bytes_of (pieces text)) pairs (omega (arith, no_longer text, read.0)) (rw same read.1))
