-- What is left of an answer is copied.
use Rattle.std.proofs.Common.{◌≡◌, ℕ, zero, suc, ◌+◌, ◌-◌, ◌<◌, ◌≤◌, ◌^◌, max, List, [], ◌∷◌, ◌++◌, length, take, drop, slice_get, Some, ap, sym, ◌∙◌, arith, append_assoc}
use Rattle.std.specs.List.{flat_map, enumerate_from, slice_range}
use Rattle.std.proofs.lemmas.List.{append-nil, drop_all, take_all, length-drop}
use Rattle.scsi_sense.specs.Given.{headroom}
use Rattle.iscsi_pdu.specs.Segment.{most_data}
use Rattle.iscsi_login.proofs.Lists.{drop_at}
use Rattle.iscsi_transfer.specs.declared.data_in.Piece.{Piece}
use Rattle.iscsi_outbox.specs.declared.cursor.Cursor.{Cursor}
use Rattle.iscsi_outbox.specs.Answer.{unpadded}
use Rattle.iscsi_outbox.specs.Cut.{AreCut}
use Rattle.iscsi_outbox.specs.Cursor.{all_pieces, pieces_left, left, IsPlaced}
use Rattle.iscsi_outbox.proofs.Cuts.{pieces_are_cut}

pub cut_at : (size burst from : ℕ) (pieces : List Piece) (k : ℕ) (piece : Piece) → AreCut size burst from size pieces → slice_get pieces k ≡ Some piece
    → (piece.offset + piece.length ≤ size) × (piece.length ≤ burst) × (from + k ≤ piece.offset)
cut_at size burst from [] k piece cut found = absurd cc
cut_at size burst from (p ∷ ps) zero piece cut found =
    let same : p ≡ piece = cc in
    let offset = ap (λ (q : Piece). q.offset) same in
    let long = ap (λ (q : Piece). q.length) same in
    let begins = cut.0.begins in
    let short = cut.0.short in
    let within = cut.0.within in
    (omega arith, omega arith, omega arith)
cut_at size burst from (p ∷ ps) (suc k) piece cut found =
    let some = cut.0.some in
    let rest = cut_at size burst (from + p.length) ps k piece cut.1 found in
    (rest.0, rest.1, omega (arith, rest.2))

-- where a piece of the data lies
pub record Lies (c : Cursor) (number : ℕ) (piece : Piece) : Type 0 where
  pub number_fits : number < 2 ^ 32
  pub offset_fits : piece.offset < 2 ^ 32
  pub short : piece.length ≤ most_data
  pub within : headroom + (piece.offset + piece.length) ≤ length c.buffer.items

pub lies : (c : Cursor) (number : ℕ) (piece : Piece) → IsPlaced c → slice_get (all_pieces c) number ≡ Some piece → Lies c number piece
lies c number piece placed found =
    let limits = placed.limits in
    let cut = pieces_are_cut c.length c.limits.burst c.limits.segment limits.burst limits.segment limits.burst_by_4 limits.segment_by_4 in
    let is = cut_at c.length c.limits.burst 0 (all_pieces c) number piece cut found in
    let fits = placed.short in
    let room = placed.within in
    let longest = limits.longest in
    record {
      number_fits = omega (arith, is.0, is.2);
      offset_fits = omega (arith, is.0);
      short = omega (arith, is.1);
      within = omega (arith, is.0);
    }

-- the pieces from this number on, as they are sent
abbrev pub pieces_from : Cursor → ℕ → List ℕ
pieces_from c number = flat_map (unpadded c.shared (drop headroom c.buffer.items)) (enumerate_from number (drop number (all_pieces c)))

pub next_piece : (c : Cursor) (number : ℕ) (piece : Piece) → slice_get (all_pieces c) number ≡ Some piece
    → pieces_from c number ≡ unpadded c.shared (drop headroom c.buffer.items) (number, piece) ++ pieces_from c (number + 1)
next_piece c number piece found =
    ap (λ (ps : List Piece). flat_map (unpadded c.shared (drop headroom c.buffer.items)) (enumerate_from number ps)) (drop_at (all_pieces c) number piece found)

-- one more of them was copied
pub copied_more : (c : Cursor) (number : ℕ) (piece : Piece) (old bytes new : List ℕ) → slice_get (all_pieces c) number ≡ Some piece
    → bytes ++ pieces_from c number ≡ old
    → new ≡ bytes ++ unpadded c.shared (drop headroom c.buffer.items) (number, piece) → new ++ pieces_from c (number + 1) ≡ old
copied_more c number piece old bytes new found so_far more =
    ap (λ (xs : List ℕ). xs ++ pieces_from c (number + 1)) more
    ∙ append_assoc bytes (unpadded c.shared (drop headroom c.buffer.items) (number, piece)) (pieces_from c (number + 1))
    ∙ ap (λ (xs : List ℕ). bytes ++ xs) (sym (next_piece c number piece found)) ∙ so_far

-- none is left
pub none_from : (c : Cursor) (number : ℕ) → length (all_pieces c) ≤ number → pieces_from c number ≡ []
none_from c number past =
    ap (λ (ps : List Piece). flat_map (unpadded c.shared (drop headroom c.buffer.items)) (enumerate_from number ps)) (drop_all number (all_pieces c) past)

-- all of them were copied
pub copied_all : (c : Cursor) (number : ℕ) (old bytes : List ℕ) → length (all_pieces c) ≤ number
    → bytes ++ pieces_from c number ≡ old ++ pieces_from c c.number
    → bytes ≡ old ++ flat_map (unpadded c.shared (drop headroom c.buffer.items)) (enumerate_from c.number (pieces_left c))
unfolding pieces_left
copied_all c number old bytes past e =
    sym (append-nil bytes) ∙ ap (λ (xs : List ℕ). bytes ++ xs) (sym (none_from c number past)) ∙ e

-- all that lies after a place
pub behind : (items : List ℕ) (at : ℕ) → slice_range items at (length items) ≡ drop at items
behind items at = take_all (length items - at) (drop at items) (omega (arith, length-drop at items))

-- what is left of the piece that is being sent, the pieces to come, and what ends the answer
pub copied : (c : Cursor) (old first second all : List ℕ) (end last : ℕ)
    → end ≡ max c.at (headroom + c.offset) → last ≡ max c.at (headroom + c.length)
    → first ≡ old ++ slice_range c.buffer.items c.at end
    → second ≡ first ++ flat_map (unpadded c.shared (drop headroom c.buffer.items)) (enumerate_from c.number (pieces_left c))
    → all ≡ second ++ slice_range c.buffer.items last (length c.buffer.items) → all ≡ old ++ left c
unfolding left
copied c old first second all end last is_end is_last e f g =
    let items = c.buffer.items in
    let pieces = flat_map (unpadded c.shared (drop headroom items)) (enumerate_from c.number (pieces_left c)) in
    let rest = drop (max c.at (headroom + c.length)) items in
    let count : end - c.at ≡ headroom + c.offset - c.at = omega (arith, is_end) in
    let front = slice_range items c.at (headroom + c.offset) in
    let start : first ≡ old ++ front = e ∙ ap (λ (n : ℕ). old ++ take n (drop c.at items)) count in
    let ending : all ≡ second ++ rest = g ∙ ap (λ (xs : List ℕ). second ++ xs) (behind items last ∙ ap (λ (n : ℕ). drop n items) is_last) in
    ending ∙ ap (λ (xs : List ℕ). xs ++ rest) (f ∙ ap (λ (xs : List ℕ). xs ++ pieces) start ∙ append_assoc old front pieces)
    ∙ append_assoc old (front ++ pieces) rest ∙ ap (λ (xs : List ℕ). old ++ xs) (append_assoc front pieces rest)
