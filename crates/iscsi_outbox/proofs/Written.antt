-- Headers that are written in front of pieces.
use Rattle.std.proofs.Common.{◌≡◌, ℕ, zero, suc, ◌+◌, ◌-◌, ◌*◌, ◌%◌, ◌<◌, ◌≤◌, min, List, ◌++◌, length, take, drop, slice_get, Some, refl, ap, sym, ◌∙◌, arith, append_assoc}
use Rattle.std.specs.List.{flat_map, enumerate_from}
use Rattle.std.proofs.Math.Nat.{add-mul, mul-add, lt_of_mul-lt-mul_right, mul-le-mul_right}
use Rattle.std.proofs.lemmas.List.{append-nil, drop_all, drop-drop, drop_at, take_all, take-take, length-append, length-take-le, length-drop}
use Rattle.bytes.proofs.Ranges.{take-append_past}
use Rattle.scsi_sense.specs.Given.{headroom, gathered, IsLaid}
use Rattle.scsi_sense.proofs.Laid.{gathered_long, piece_lies}
use Rattle.iscsi_pdu.specs.DataIn.{data_in_header}
use Rattle.iscsi_pdu.specs.Segment.{most_data}
use Rattle.iscsi_login.proofs.Lists as lists
use Rattle.iscsi_transfer.specs.declared.data_in.Piece.{Piece}
use Rattle.iscsi_transfer.specs.DataIn.{pieces_of, piece_count, part_of}
use Rattle.iscsi_transfer.proofs.Counts.{pieces_are_counted}
use Rattle.iscsi_transfer.proofs.Even.{even_piece, even_count}
use Rattle.iscsi_outbox.specs.declared.shared.SharedFields.{SharedFields}
use Rattle.iscsi_outbox.specs.declared.limits.Limits.{Limits}
use Rattle.iscsi_outbox.specs.Answer.{AreAligned, AreEven, shorter, fields_with, pieces, unpadded}
use Rattle.iscsi_outbox.proofs.Copies.{cut_at}
use Rattle.iscsi_outbox.proofs.Cuts.{pieces_are_cut}

-- places among pieces with their headers, and in the data alone
apart : (k piece : ℕ) → k * (headroom + piece) ≡ headroom * k + k * piece
apart k piece = omega (arith, mul-add k headroom piece)

-- the bytes from this place on, each piece after its header
abbrev pub pieces_from : SharedFields → List ℕ → List Piece → ℕ → List ℕ
pieces_from shared d ps number = flat_map (unpadded shared d) (enumerate_from number (drop number ps))

-- so many headers are written, up to this place
pub record AreWritten (shared : SharedFields) (limits : Limits) (count number at : ℕ) (old now : List ℕ) : Type 0 where
  pub long : length now ≡ length old
  pub place : at ≡ headroom * number + min (number * shorter limits) (length (gathered (shorter limits) count old))
  pub front : take at now ++ pieces_from shared (gathered (shorter limits) count old) (pieces limits (gathered (shorter limits) count old)) number
      ≡ pieces_from shared (gathered (shorter limits) count old) (pieces limits (gathered (shorter limits) count old)) 0
  pub others : drop at now ≡ drop at old

-- where the next piece stands
pub record Stands (limits : Limits) (count number at : ℕ) (old now : List ℕ) (piece : Piece) : Type 0 where
  pub number_fits : number ≤ piece.offset
  pub inside : piece.offset + piece.length ≤ length (gathered (shorter limits) count old)
  pub short : piece.length ≤ most_data
  pub place : at ≡ number * (headroom + shorter limits)
  pub ends : at + headroom + piece.length ≤ length now
  pub next : headroom * (number + 1) + min ((number + 1) * shorter limits) (length (gathered (shorter limits) count old)) ≡ at + headroom + piece.length
  pub body : take piece.length (drop (at + headroom) now) ≡ part_of (gathered (shorter limits) count old) piece

-- the piece with this number
pub found_in : (limits : Limits) (d : List ℕ) (size number : ℕ) (piece : Piece) → size ≡ length d
    → slice_get (pieces_of size limits.burst limits.segment) number ≡ Some piece → slice_get (pieces limits d) number ≡ Some piece
found_in limits d size number piece same is = ap (λ (n : ℕ). slice_get (pieces_of n limits.burst limits.segment) number) (sym same) ∙ is

pub stands : (shared : SharedFields) (limits : Limits) (count size number at : ℕ) (old now : List ℕ) (piece : Piece) → AreAligned limits
    → AreEven limits → IsLaid (shorter limits) count old → size ≡ length (gathered (shorter limits) count old)
    → AreWritten shared limits count number at old now → slice_get (pieces_of size limits.burst limits.segment) number ≡ Some piece
    → Stands limits count number at old now piece
stands shared limits count size number at old now piece aligned even laid same_size so_far is_found =
    let found = found_in limits (gathered (shorter limits) count old) size number piece same_size is_found in
    let p = shorter limits in
    let d = gathered p count old in
    let burst = limits.burst in
    let segment = limits.segment in
    let whole : burst % p ≡ 0 = even in
    let is = even_piece (length d) burst segment p number piece aligned.burst aligned.segment refl whole found in
    let long = gathered_long p count old laid in
    let within = laid.within in
    let same = so_far.long in
    let here = apart number p in
    let all = apart count p in
    let below : number < count = lt_of_mul-lt-mul_right p (omega (arith, is.2, within, long, all)) in
    let up = mul-le-mul_right p (let one : suc number ≤ count = omega arith in one) in
    let more = add-mul number 1 p in
    let cut = cut_at (length d) burst 0 (pieces limits d) number piece
    (pieces_are_cut (length d) burst segment aligned.burst aligned.segment aligned.burst_by_4 aligned.segment_by_4) found in
    let longest = aligned.longest in
    let place : at ≡ number * (headroom + p) = omega (arith, so_far.place, is.2, here) in
    let lies : take p (drop (number * p) d) ≡ take p (drop (headroom + number * (headroom + p)) old) = piece_lies p count number old laid below in
    let begins : drop (at + headroom) now ≡ drop (headroom + number * (headroom + p)) old =
    sym (drop-drop headroom at now) ∙ ap (drop headroom) so_far.others ∙ drop-drop headroom at old
    ∙ ap (λ (m : ℕ). drop m old) (let sum : at + headroom ≡ headroom + number * (headroom + p) = omega (arith, place) in sum) in
    let few : piece.length ≤ p = omega (arith, is.1) in
    record {
      number_fits = omega (arith, cut.2);
      inside = cut.0;
      short = omega (arith, cut.1, longest);
      place = place;
      ends = omega (arith, place, here, is.1, is.2, long, same, below);
      next = omega (arith, place, here, is.1, is.2, more);
      body = ap (take piece.length) begins ∙ sym (take-take piece.length p (drop (headroom + number * (headroom + p)) old) few)
          ∙ ap (take piece.length) (sym lies) ∙ take-take piece.length p (drop (number * p) d) few
          ∙ ap (λ (m : ℕ). take piece.length (drop m d)) (sym is.0)
          ∙ ap (λ (m : ℕ). take m (drop piece.offset d)) (let sum : piece.length ≡ piece.offset + piece.length - piece.offset = omega arith in sum);
    }

-- one more header is written
pub written_more : (shared : SharedFields) (limits : Limits) (count number at : ℕ) (old now new head : List ℕ) (piece : Piece)
    → AreWritten shared limits count number at old now → Stands limits count number at old now piece
    → slice_get (pieces limits (gathered (shorter limits) count old)) number ≡ Some piece
    → head ≡ data_in_header (fields_with shared (part_of (gathered (shorter limits) count old) piece) (number, piece))
    → new ≡ take at now ++ (head ++ drop (at + headroom) now)
    → AreWritten shared limits count (number + 1) (at + headroom + piece.length) old new
written_more shared limits count number at old now new head piece so_far stand found is put =
    let d = gathered (shorter limits) count old in
    let ps = pieces limits d in
    let ends = stand.ends in
    let n = piece.length in
    let body = take n (drop (at + headroom) now) in
    let behind = drop (at + headroom) now in
    let long : length head ≡ headroom = ap (λ (xs : List ℕ). length xs) is in
    let front : length (take at now) ≡ at = length-take-le at now (omega arith) in
    let both : length (take at now ++ head) ≡ at + headroom = omega (arith, long, front, length-append (take at now) head) in
    let joined : new ≡ (take at now ++ head) ++ behind = put ∙ sym (append_assoc (take at now) head behind) in
    let behind_is : drop (at + headroom) new ≡ behind = ap (drop (at + headroom)) joined ∙ drop_at (take at now ++ head) behind (at + headroom) both in
    let taken : take (at + headroom + n) new ≡ take at now ++ unpadded shared d (number, piece) =
    ap (take (at + headroom + n)) joined
    ∙ take-append_past (take at now ++ head) behind n (at + headroom + n) (omega (arith, both))
    ∙ append_assoc (take at now) head body
    ∙ ap (λ (xs : List ℕ). take at now ++ (head ++ xs)) stand.body
    ∙ ap (λ (xs : List ℕ). take at now ++ (xs ++ part_of d piece)) is in
    record {
      long = ap (λ (xs : List ℕ). length xs) put ∙ omega (
        arith,
        long,
        front,
        length-append (take at now) (head ++ behind),
        length-append head behind,
        length-drop (at + headroom) now,
      ) ∙ so_far.long;
      place = sym stand.next;
      front = ap (λ (xs : List ℕ). xs ++ pieces_from shared d ps (number + 1)) taken
          ∙ append_assoc (take at now) (unpadded shared d (number, piece)) (pieces_from shared d ps (number + 1))
          ∙ ap (λ (qs : List Piece). take at now ++ flat_map (unpadded shared d) (enumerate_from number qs)) (sym (lists.drop_at ps number piece found))
          ∙ so_far.front;
      others = sym (drop-drop n (at + headroom) new) ∙ ap (drop n) behind_is ∙ drop-drop n (at + headroom) now
          ∙ (let sum : at + headroom + n ≡ at + (headroom + n) = omega arith in ap (λ (m : ℕ). drop m now) sum)
          ∙ sym (drop-drop (headroom + n) at now) ∙ ap (drop (headroom + n)) so_far.others ∙ drop-drop (headroom + n) at old
          ∙ (let sum : at + (headroom + n) ≡ at + headroom + n = omega arith in ap (λ (m : ℕ). drop m old) sum);
    }

-- all are
pub written_all : (shared : SharedFields) (limits : Limits) (count number at : ℕ) (old now : List ℕ) → AreAligned limits
    → AreEven limits → IsLaid (shorter limits) count old → AreWritten shared limits count number at old now
    → number ≡ piece_count (length (gathered (shorter limits) count old)) limits.burst limits.segment
    → now ≡ pieces_from shared (gathered (shorter limits) count old) (pieces limits (gathered (shorter limits) count old)) 0
written_all shared limits zero number at old now aligned even laid so_far all = let some = laid.some in absurd (omega arith)
written_all shared limits (suc n) number at old now aligned even laid so_far all =
    let p = shorter limits in
    let d = gathered p (suc n) old in
    let whole : limits.burst % p ≡ 0 = even in
    let long = gathered_long p (suc n) old laid in
    let full = laid.full in
    let within = laid.within in
    let most = apart (suc n) p in
    let more = add-mul n 1 p in
    let count : number ≡ suc n =
    all ∙ even_count (length d) limits.burst limits.segment p n aligned.burst aligned.segment refl whole
    (omega (arith, full, long, most, more)) (omega (arith, within, long, most)) in
    let product : number * p ≡ suc n * p = ap (λ (m : ℕ). m * p) count in
    let all_pieces = pieces_are_counted (length d) limits.burst limits.segment aligned.burst aligned.segment in
    let past : length (pieces limits d) ≤ number = omega (arith, all, all_pieces) in
    let end : length now ≤ at = omega (arith, so_far.long, so_far.place, long, count, product, within, most) in
    sym (take_all at now end) ∙ sym (append-nil (take at now))
    ∙ ap (λ (ps : List Piece). take at now ++ flat_map (unpadded shared d) (enumerate_from number ps)) (sym (drop_all number (pieces limits d) past))
    ∙ so_far.front
