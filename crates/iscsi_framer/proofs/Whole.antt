-- The first PDU is taken from the bytes that are kept and those of a piece.
use Rattle.std.proofs.Common.{◌≡◌, ℕ, ◌+◌, ◌-◌, ◌<◌, ◌≤◌, false, List, ◌++◌, length, take, Option, Some, None, sym, ap, ◌∙◌, subst, inl, inr, arith, append_assoc, append-nil, length-append}
use Rattle.std.specs.Prelude.{IfSome}
use Rattle.std.proofs.Math.Seq.{take-append-add}
use Rattle.std.proofs.lemmas.Bool.{cases_Bool, cases_lt}
use Rattle.iscsi_pdu.specs.Header.{header_length}
use Rattle.iscsi_pdu.specs.Frames.{Frame, has_frame, frame_length}
use Rattle.iscsi_pdu.proofs.Frames.{has_frame-true, has_frame-from, frame_length-header}
use Rattle.iscsi_framer.specs.Framer.{IsSplit, HoldsNoMore, IsWholly}
use Rattle.iscsi_framer.proofs.Split.{front_taken}
use Rattle.iscsi_framer.proofs.Fronts.{Fronted, taken_in}

-- ---- the header, and what is kept after it

pub after_header : (front behind bytes kept : List ℕ) → IsSplit header_length front behind → front ++ behind ≡ bytes → header_length ≤ length front
    → kept ≡ behind → bytes ≡ take header_length bytes ++ kept
after_header front behind bytes kept s is full kept_is =
    let first : take header_length bytes ≡ front =
    ap (take header_length) (sym is) ∙ front_taken header_length front behind s (omega (arith, full, length-append front behind)) in
    sym is ∙ ap (λ (x : List ℕ). x ++ behind) (sym first) ∙ ap (λ (x : List ℕ). take header_length bytes ++ x) (sym kept_is)

-- no frame is there without a header
pub no_header_frame : (bytes : List ℕ) → length bytes < header_length → has_frame bytes ≡ false
no_header_frame bytes short =
    elim (cases_Bool (has_frame bytes)) [
      | inl there ↦ (let header = (has_frame-true bytes there).header in absurd (omega (arith, header, short)))
      | inr none ↦ none
    ]

-- nor is it with a piece that does not end the header
pub short_with : (front behind bytes piece : List ℕ) → IsSplit header_length front behind → front ++ behind ≡ bytes
    → length piece < header_length - length front → length (bytes ++ piece) < header_length
short_with front behind bytes piece s is less =
    let only : bytes ≡ front = sym is ∙ ap (λ (x : List ℕ). front ++ x) (s.whole (omega (arith, less))) ∙ append-nil front in
    omega (arith, less, length-append bytes piece, ap (λ (x : List ℕ). length x) only)

-- ---- no more than one

-- less than a frame is no more
pub part_no_more : (bytes : List ℕ) → has_frame bytes ≡ false → HoldsNoMore bytes
part_no_more bytes none = λ short. elim (cases_lt (frame_length bytes) (length bytes)) [
  | inl more ↦ (
      let header : header_length ≤ length bytes = omega (arith, more, frame_length-header bytes) in
      let taken = taken_in bytes header short in
      let there = has_frame-from bytes (record { header = header; taken = taken; whole = omega (arith, more) }) in
      absurd (cc (there, none)))
  | inr fits ↦ fits
]

-- nor is it with the rest of its header
pub fronted_no_more : (before piece front more bytes : List ℕ) → Fronted before piece front more bytes → HoldsNoMore before → HoldsNoMore bytes
fronted_no_more before piece front more bytes f one = elim f.small [
  | inl none ↦ subst HoldsNoMore (sym (f.bytes_are ∙ ap (λ (x : List ℕ). before ++ x) none ∙ append-nil before)) one
  | inr small ↦ λ short. omega (arith, small, frame_length-header bytes)
]

-- what came is one frame
pub fronted_wholly : (o : Option Frame) (before piece front more bytes : List ℕ) (used : ℕ) → Fronted before piece front more bytes
    → IfSome o (λ frame. IsWholly frame (bytes ++ take used more)) → IfSome o (λ frame. IsWholly frame (before ++ take (length front + used) piece))
fronted_wholly None before piece front more bytes used f whole = tt
fronted_wholly (Some frame) before piece front more bytes used f whole =
    let same : bytes ++ take used more ≡ before ++ take (length front + used) piece =
    ap (λ (x : List ℕ). x ++ take used more) f.bytes_are ∙ append_assoc before front (take used more)
    ∙ ap (λ (x : List ℕ). before ++ x) (sym (ap (take (length front + used)) f.piece_is ∙ take-append-add front more used)) in
    subst (IsWholly frame) same whole
