-- What a new cursor has to send is the answer, and how long that is.
use Rattle.std.proofs.Common.{◌≡◌, ℕ, ◌+◌, ◌-◌, ◌*◌, ◌%◌, ◌^◌, ◌<◌, ◌≤◌, max, List, [], ◌∷◌, ◌++◌, length, map, take, drop, replicate, refl, ap, sym, ◌∙◌, inl, inr, arith, length-drop, append_assoc}
use Rattle.std.specs.List.{flat_map, enumerate_from}
use Rattle.std.proofs.lemmas.List.{append-nil, drop_at, drop-append-le, take-append-le, take-replicate, take-append-drop, length-append, length-take, length-replicate}
use Rattle.std.proofs.lemmas.Bool.{cases_lt}
use Rattle.bytes.specs.Filled.{Filled}
use Rattle.scsi_sense.specs.Given.{headroom}
use Rattle.iscsi_pdu.specs.Answer.{spelling}
use Rattle.iscsi_pdu.specs.DataIn.{data_in_header}
use Rattle.iscsi_pdu.specs.Segment.{padded}
use Rattle.iscsi_pdu.specs.declared.answer.Answer.{Answer}
use Rattle.iscsi_transfer.specs.declared.data_in.Piece.{Piece}
use Rattle.iscsi_transfer.specs.DataIn.{pieces_of, part_of}
use Rattle.iscsi_outbox.specs.declared.shared.SharedFields.{SharedFields}
use Rattle.iscsi_outbox.specs.declared.limits.Limits.{Limits}
use Rattle.iscsi_outbox.specs.declared.cursor.Cursor.{Cursor}
use Rattle.iscsi_outbox.specs.Answer.{AreAligned, fields_of, data_in, answered, unpadded}
use Rattle.iscsi_outbox.specs.Cut.{AreCut}
use Rattle.iscsi_outbox.specs.Cursor.{pieces_left, left, IsPlaced, IsReady}
use Rattle.iscsi_outbox.proofs.Cuts.{pieces_are_cut}
use Rattle.iscsi_outbox.proofs.Moves.{no_piece}

-- ---- only the last piece has padding

abbrev pub padding : ℕ → List ℕ
padding n = replicate (padded n - n) 0

no_padding : (n : ℕ) → n % 4 ≡ 0 → padding n ≡ []
no_padding n even = let none : padded n - n ≡ 0 = omega arith in ap (λ (k : ℕ). replicate k 0) none

same_padding : (n m : ℕ) → n % 4 ≡ m % 4 → padding n ≡ padding m
same_padding n m same = let is : padded n - n ≡ padded m - m = omega arith in ap (λ (k : ℕ). replicate k 0) is

pub padding_is : (n : ℕ) → take (padded n - n) (0 ∷ 0 ∷ 0 ∷ []) ≡ padding n
padding_is n = take-replicate (padded n - n) 3 0 (omega arith)

-- a piece of data is one of the data with more after it
part_before : (d t : List ℕ) (p : Piece) → p.offset + p.length ≤ length d → part_of (d ++ t) p ≡ part_of d p
part_before d t p within =
    ap (take (p.offset + p.length - p.offset)) (drop-append-le p.offset d t (omega arith))
    ∙ take-append-le (p.offset + p.length - p.offset) (drop p.offset d) t (omega (arith, length-drop p.offset d))

part_long : (d : List ℕ) (p : Piece) → p.offset + p.length ≤ length d → length (part_of d p) ≡ p.length
part_long d p within = simp (length-take, length-drop) (omega arith)

last_padded : (head part pad : List ℕ) → (head ++ (part ++ pad)) ++ [] ≡ ((head ++ part) ++ []) ++ pad
last_padded head part pad =
    append-nil (head ++ (part ++ pad)) ∙ sym (append_assoc head part pad) ∙ ap (λ (xs : List ℕ). xs ++ pad) (sym (append-nil (head ++ part)))

one_padded : (head part rest pad : List ℕ) → (head ++ (part ++ [])) ++ (rest ++ pad) ≡ ((head ++ part) ++ rest) ++ pad
one_padded head part rest pad =
    ap (λ (xs : List ℕ). (head ++ xs) ++ (rest ++ pad)) (append-nil part) ∙ sym (append_assoc (head ++ part) rest pad)

-- from a multiple of 4 on, pieces without padding, and the padding after the last, are whole Data-Ins
pub padded_last : (size burst from : ℕ) (pieces : List Piece) (number : ℕ) (shared : SharedFields) (d t : List ℕ)
    → from % 4 ≡ 0 → size ≡ length d → AreCut size burst from size pieces
    → flat_map spelling (map (data_in shared d) (enumerate_from number pieces))
    ≡ flat_map (unpadded shared (d ++ t)) (enumerate_from number pieces) ++ padding size
padded_last size burst from [] number shared d t by_4 long cut = sym (no_padding size (omega (arith, cut)))
padded_last size burst from (p ∷ ps) number shared d t by_4 long cut =
    let begins = cut.0.begins in
    let lies = cut.0.within in
    let aligned = cut.0.aligned in
    let within : p.offset + p.length ≤ length d = omega arith in
    let part = sym (part_before d t p within) in
    let counted : padding (length (part_of d p)) ≡ padding p.length = ap (λ (n : ℕ). padding n) (part_long d p within) in
    let head = data_in_header (fields_of shared d (number, p)) in
    let others = flat_map spelling (map (data_in shared d) (enumerate_from (number + 1) ps)) in
    let rest = flat_map (unpadded shared (d ++ t)) (enumerate_from (number + 1) ps) in
    let same : ((head ++ part_of d p) ++ rest) ++ padding size ≡ (unpadded shared (d ++ t) (number, p) ++ rest) ++ padding size =
    ap (λ (xs : List ℕ). ((data_in_header (record (fields_of shared d (number, p)) { body = xs }) ++ xs) ++ rest) ++ padding size) part in
    elim (cases_lt (from + p.length) size) [
      | inl before ↦
          let even = aligned before in
          let none : padding (length (part_of d p)) ≡ [] = counted ∙ no_padding p.length (omega arith) in
          ap (λ (xs : List ℕ). (head ++ (part_of d p ++ xs)) ++ others) none
          ∙ ap (λ (xs : List ℕ). (head ++ (part_of d p ++ []))
          ++ xs) (padded_last size burst (from + p.length) ps (number + 1) shared d t even long cut.1)
          ∙ one_padded head (part_of d p) rest (padding size) ∙ same
      | inr past ↦
          let none = no_piece size burst (from + p.length) ps (omega arith) cut.1 in
          let pad : padding (length (part_of d p)) ≡ padding size = counted ∙ same_padding p.length size (omega arith) in
          ap (λ (xs : List ℕ). (head ++ (part_of d p ++ xs)) ++ others) pad
          ∙ ap (λ (qs : List Piece). (head ++ (part_of d p ++ padding size))
          ++ flat_map spelling (map (data_in shared d) (enumerate_from (number + 1) qs))) none
          ∙ last_padded head (part_of d p) (padding size)
          ∙ ap (λ (qs : List Piece). ((head ++ part_of d p) ++ flat_map (unpadded shared (d ++ t)) (enumerate_from (number + 1) qs))
          ++ padding size) (sym none)
          ∙ same
    ]

-- ---- the cursor

abbrev pub start : Filled → SharedFields → Limits → ℕ → Cursor
start buffer shared limits size =
    record { buffer = buffer; shared = shared; limits = limits; length = size; number = 0; offset = 0; at = headroom }

pub start_placed : (buffer : Filled) (shared : SharedFields) (limits : Limits) (items : List ℕ) (last : Answer) (size : ℕ) → AreAligned limits
    → size < 2 ^ 32 → length items ≡ headroom + size → buffer.items ≡ (items ++ padding size) ++ spelling last
    → IsPlaced (start buffer shared limits size)
unfolding pieces_left
start_placed buffer shared limits items last size aligned short long written =
    let room : headroom + size ≤ length buffer.items =
    omega (
      arith,
      long,
      ap (λ (xs : List ℕ). length xs) written,
      length-append (items ++ padding size) (spelling last),
      length-append items (padding size),
    ) in record {
      limits = aligned;
      short = short;
      within = room;
      at = omega arith;
      near = λ _. omega arith;
      below = omega arith;
      early = omega arith;
      cut = pieces_are_cut size limits.burst limits.segment aligned.burst aligned.segment aligned.burst_by_4 aligned.segment_by_4;
      by_4 = λ _. refl;
      ends = λ _. record {
        pdus = last ∷ [];
        spelled =
            ap (drop (headroom + size)) (written ∙ append_assoc items (padding size) (spelling last))
            ∙ drop_at items (padding size ++ spelling last) (headroom + size) long
            ∙ ap (λ (xs : List ℕ). padding size ++ xs) (sym (append-nil (spelling last)));
      };
    }

pub start_answered : (buffer : Filled) (shared : SharedFields) (limits : Limits) (items last : List ℕ) (size : ℕ) → AreAligned limits
    → length items ≡ headroom + size → buffer.items ≡ (items ++ padding size) ++ last
    → left (start buffer shared limits size) ≡ answered shared limits (drop headroom items) last
unfolding left pieces_left
start_answered buffer shared limits items last size aligned long written =
    let pieces = pieces_of size limits.burst limits.segment in
    let tail = padding size ++ last in
    let d = drop headroom items in
    let all : buffer.items ≡ items ++ tail = written ∙ append_assoc items (padding size) last in
    let behind : drop headroom buffer.items ≡ d ++ tail = ap (drop headroom) all ∙ drop-append-le headroom items tail (omega arith) in
    let size_is : size ≡ length d = omega (arith, length-drop headroom items) in
    let end : drop (max headroom (headroom + size)) buffer.items ≡ tail =
    ap (drop (max headroom (headroom + size))) all ∙ drop_at items tail (max headroom (headroom + size)) (omega arith) in
    let cut = pieces_are_cut size limits.burst limits.segment aligned.burst aligned.segment aligned.burst_by_4 aligned.segment_by_4 in
    ap (λ (xs : List ℕ). flat_map (unpadded shared xs) (enumerate_from 0 pieces) ++ drop (max headroom (headroom + size)) buffer.items) behind
    ∙ ap (λ (xs : List ℕ). flat_map (unpadded shared (d ++ tail)) (enumerate_from 0 pieces) ++ xs) end
    ∙ sym (append_assoc (flat_map (unpadded shared (d ++ tail)) (enumerate_from 0 pieces)) (padding size) last)
    ∙ ap (λ (xs : List ℕ). xs ++ last) (sym (padded_last size limits.burst 0 pieces 0 shared d tail refl size_is cut))
    ∙ ap (λ (n : ℕ). flat_map spelling (map (data_in shared d) (enumerate_from 0 (pieces_of n limits.burst limits.segment))) ++ last) size_is

-- an answer that lies ready
abbrev pub all_ready : Filled → SharedFields → Limits → Cursor
all_ready buffer shared limits =
    record { buffer = buffer; shared = shared; limits = limits; length = 0; number = 0; offset = 0; at = 0 }

no_pieces : (limits : Limits) → AreAligned limits → pieces_of 0 limits.burst limits.segment ≡ []
no_pieces limits aligned =
    no_piece 0 limits.burst 0 (pieces_of 0 limits.burst limits.segment) refl
    (pieces_are_cut 0 limits.burst limits.segment aligned.burst aligned.segment aligned.burst_by_4 aligned.segment_by_4)

pub ready_left : (buffer : Filled) (shared : SharedFields) (limits : Limits) → AreAligned limits → left (all_ready buffer shared limits) ≡ buffer.items
unfolding left pieces_left
ready_left buffer shared limits aligned =
    ap (λ (ps : List Piece). take headroom buffer.items
    ++ (flat_map (unpadded shared (drop headroom buffer.items)) (enumerate_from 0 ps) ++ drop headroom buffer.items)) (no_pieces limits aligned)
    ∙ take-append-drop headroom buffer.items

pub ready_is : (buffer : Filled) (shared : SharedFields) (limits : Limits) → AreAligned limits → headroom ≤ length buffer.items
    → IsReady (all_ready buffer shared limits)
unfolding pieces_left
ready_is buffer shared limits aligned room = record {
  placed = record {
    limits = aligned;
    short = omega arith;
    within = omega arith;
    at = omega arith;
    near = λ more. absurd (omega (arith, more));
    below = omega arith;
    early = omega arith;
    cut = pieces_are_cut 0 limits.burst limits.segment aligned.burst aligned.segment aligned.burst_by_4 aligned.segment_by_4;
    by_4 = λ more. refl;
    ends = λ more. absurd (omega (arith, more));
  };
  some = λ more. absurd (omega (arith, more));
}

-- pieces after their headers, and what ends the answer
pub laid_answered : (shared : SharedFields) (limits : Limits) (d last written : List ℕ) (size : ℕ) → AreAligned limits → size ≡ length d
    → written ≡ (flat_map (unpadded shared d) (enumerate_from 0 (pieces_of size limits.burst limits.segment)) ++ padding size) ++ last
    → written ≡ answered shared limits d last
laid_answered shared limits d last written size aligned is laid =
    let pieces = pieces_of size limits.burst limits.segment in
    let cut = pieces_are_cut size limits.burst limits.segment aligned.burst aligned.segment aligned.burst_by_4 aligned.segment_by_4 in
    laid ∙ ap (λ (xs : List ℕ). (flat_map (unpadded shared xs) (enumerate_from 0 pieces) ++ padding size) ++ last) (sym (append-nil d))
    ∙ ap (λ (xs : List ℕ). xs ++ last) (sym (padded_last size limits.burst 0 pieces 0 shared d [] refl is cut))
    ∙ ap (λ (n : ℕ). flat_map spelling (map (data_in shared d) (enumerate_from 0 (pieces_of n limits.burst limits.segment))) ++ last) is

-- ---- how long it is

pieces_long : (size burst from : ℕ) (pieces : List Piece) (number : ℕ) (shared : SharedFields) (d : List ℕ) → size ≤ length d
    → AreCut size burst from size pieces
    → length (flat_map (unpadded shared d) (enumerate_from number pieces)) + from ≡ headroom * length pieces + size
pieces_long size burst from [] number shared d long cut = omega (arith, cut)
pieces_long size burst from (p ∷ ps) number shared d long cut =
    let begins = cut.0.begins in
    let lies = cut.0.within in
    let part = part_long d p (omega arith) in
    let head : length (data_in_header (fields_of shared d (number, p))) ≡ headroom = refl in
    let rest = pieces_long size burst (from + p.length) ps (number + 1) shared d long cut.1 in
    omega (
      arith,
      part,
      rest,
      head,
      length-append (unpadded shared d (number, p)) (flat_map (unpadded shared d) (enumerate_from (number + 1) ps)),
      length-append (data_in_header (fields_of shared d (number, p))) (part_of d p),
    )

pub answer_long : (shared : SharedFields) (limits : Limits) (d last : List ℕ) → AreAligned limits
    → length (answered shared limits d last) ≡ headroom * length (pieces_of (length d) limits.burst limits.segment) + padded (length d) + length last
answer_long shared limits d last aligned =
    let size = length d in
    let pieces = pieces_of size limits.burst limits.segment in
    let cut = pieces_are_cut size limits.burst limits.segment aligned.burst aligned.segment aligned.burst_by_4 aligned.segment_by_4 in
    let split = ap (λ (xs : List ℕ). length xs) (padded_last size limits.burst 0 pieces 0 shared d [] refl refl cut) in
    let same = ap (λ (xs : List ℕ). length (flat_map (unpadded shared xs) (enumerate_from 0 pieces))) (append-nil d) in
    let long = pieces_long size limits.burst 0 pieces 0 shared d (omega arith) cut in
    omega (
      arith,
      split,
      same,
      long,
      length-append (flat_map (unpadded shared (d ++ [])) (enumerate_from 0 pieces)) (padding size),
      length-replicate {A = ℕ} (padded size - size) 0,
      length-append (flat_map spelling (map (data_in shared d) (enumerate_from 0 pieces))) last,
    )
