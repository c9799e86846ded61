-- What a framer's `take` makes of the bytes of a header.
use Rattle.std.proofs.Common.{◌≡◌, ℕ, ◌+◌, ◌-◌, ◌<◌, ◌≤◌, ◌==◌, ◌⊎◌, min, true, false, List, [], ◌++◌, length, take, drop, refl, sym, ap, ◌∙◌, subst, inl, inr, arith, append_assoc, append-nil, length-append, Result, Ok, Err, IfErr}
use Rattle.std.proofs.Math.Seq.{take-append-add}
use Rattle.std.proofs.lemmas.Bool.{cases_Bool, cases_lt, le-leb}
use Rattle.std.proofs.lemmas.List.{take-append-drop, take_at, take_all, drop_all, length-take-le, nil_from_length, get_or-take}
use Rattle.iscsi_pdu.specs.Header.{header_length, opcode_number, data_length}
use Rattle.iscsi_pdu.specs.Segment.{most_data}
use Rattle.iscsi_pdu.specs.Frames.{is_long, frame_length}
use Rattle.iscsi_framer.specs.Framer.{IsSplit}
use Rattle.iscsi_pdu.specs.Parts.{is_data_out, data_so_far, HoldsOne, Waits, Brings, IsUsed, Takes}
use Rattle.iscsi_pdu.specs.declared.fault.PduFault.{PduFault}
use Rattle.iscsi_pdu.specs.declared.fault.PduFault.TheVariants as faults
use Rattle.iscsi_pdu.specs.declared.part.Part.{Part}
use Rattle.iscsi_pdu.specs.declared.part.Part.TheVariants as parts
use Rattle.iscsi_pdu.proofs.Frames.{has_frame-from, is_long-true, is_long-from, frame_length-header}
use Rattle.iscsi_pdu.proofs.Cuts.{data_length-append, long_is_no_frame, long_stays}
use Rattle.iscsi_framer.proofs.Split.{front_full}
use Rattle.iscsi_pdu.proofs.Fields.{fields}
use Rattle.iscsi_pdu.proofs.DataOuts.{is_data_out-short, is_data_out-more, is_data_out-header, data_so_far-short, shown-other, one_other, has_frame-short}

-- ---- no header yet

pub short_waits : (bytes more : List ℕ) → length bytes < header_length → more ≡ [] → Takes bytes more 0 parts.Nothing bytes
short_waits bytes more short none =
    let same : bytes ++ take 0 more ≡ bytes = append-nil bytes in
    let other = is_data_out-short bytes short in
    record {
      used_is = sym (ap (λ (x : List ℕ). length x) none);
      brings = subst (λ (x : List ℕ). Waits bytes x bytes) (sym same) (record {
        none = has_frame-short bytes (omega (arith, short, frame_length-header bytes));
        same = refl;
        left = sym (shown-other bytes other);
      });
    }

pub short_one : (bytes : List ℕ) → length bytes < header_length → HoldsOne bytes
short_one bytes short = one_other bytes (is_data_out-short bytes short) (has_frame-short bytes (omega (arith, short, frame_length-header bytes)))

-- ---- what the header says

pub out_by : (bytes header : List ℕ) → header_length ≤ length bytes → header ≡ take header_length bytes
    → is_data_out bytes ≡ (opcode_number header == 0x05)
unfolding is_data_out
out_by bytes header there is = rw (is, get_or-take header_length bytes 0 0 (omega arith), le-leb _ _ there) refl

pub is_longer : (bytes header : List ℕ) → header_length ≤ length bytes → header ≡ take header_length bytes → most_data < data_length header
    → is_long bytes ≡ true
is_longer bytes header there is longer_in =
    let f = fields bytes header is in
    is_long-from bytes (record { header = there; longer = omega (arith, longer_in, f.data_is) })

pub no_header_long : (bytes : List ℕ) → length bytes < header_length → is_long bytes ≡ false
no_header_long bytes short =
    elim (cases_Bool (is_long bytes)) [
      | inl long ↦ (let l = is_long-true bytes long in let there = l.header in absurd (omega (arith, there, short)))
      | inr none ↦ none
    ]

-- what succeeded is no fault
pub no_fault : {T : Type 0} {value : T} → Ok value ≡ Err faults.TooLong → ⊥
no_fault e = cc

-- out of memory is another fault
pub only_memory : {T : Type 0} (r : Result T PduFault) → IfErr r (λ fault. fault ≡ faults.Memory) → r ≡ Err faults.TooLong → ⊥
only_memory (Ok x) memory e = absurd (cc (e))
only_memory (Err fault) memory e = absurd (cc (memory, e))

-- ---- the bytes of the header come first

pub record Fronted (before piece front more bytes : List ℕ) : Type 0 where
  pub bytes_are : bytes ≡ before ++ front
  pub piece_is : piece ≡ front ++ more
  pub first : length bytes < header_length → more ≡ []
  pub small : (front ≡ []) ⊎ (length bytes ≤ header_length)

-- as the code has it
pub fronted : (header behind piece : List ℕ) (k : ℕ) → IsSplit header_length header behind → k ≡ min (length piece) (header_length - length header)
    → Fronted (header ++ behind) piece (take k piece) (drop k piece) ((header ++ take k piece) ++ behind)
fronted header behind piece k s k_is =
    let short = s.short in
    let long_take : length (take k piece) ≡ k = length-take-le k piece (omega (arith, k_is)) in
    let whole : piece ≡ take k piece ++ drop k piece = sym (take-append-drop k piece) in
    elim (cases_lt (length header) header_length) [
      | inl less ↦ (
          let none : behind ≡ [] = s.whole less in
          let is : (header ++ take k piece) ++ behind ≡ (header ++ behind) ++ take k piece =
          ap (λ (b : List ℕ). (header ++ take k piece) ++ b) none ∙ append-nil (header ++ take k piece)
          ∙ sym (ap (λ (b : List ℕ). (header ++ b) ++ take k piece) none ∙ ap (λ (h : List ℕ). h ++ take k piece) (append-nil header)) in
          let long : length ((header ++ take k piece) ++ behind) ≡ length header + k =
          omega (arith, length-append (header ++ take k piece) behind, length-append header (take k piece), long_take, ap (λ (x : List ℕ). length x) none) in
          record {
            bytes_are = is;
            piece_is = whole;
            first = λ few. drop_all k piece (omega (arith, few, long, k_is));
            small = inr (omega (arith, long, k_is));
          })
      | inr full ↦ (
          let zero_k : k ≡ 0 = omega (arith, k_is, full) in
          let none : take k piece ≡ [] = ap (λ (n : ℕ). take n piece) zero_k in
          record {
            bytes_are = ap (λ (x : List ℕ). (header ++ x) ++ behind) none ∙ ap (λ (h : List ℕ). h ++ behind) (append-nil header)
                ∙ sym (ap (λ (x : List ℕ). (header ++ behind) ++ x) none ∙ append-nil (header ++ behind));
            piece_is = whole;
            first = λ few. absurd (omega (arith, few, full, length-append (header ++ take k piece) behind, length-append header (take k piece)));
            small = inl none;
          })
    ]

-- by the names of the code
pub fronted_by : (before header behind piece front more after : List ℕ) (k : ℕ) → header ++ behind ≡ before → IsSplit header_length header behind
    → k ≡ min (length piece) (header_length - length header) → front ≡ take k piece → more ≡ drop k piece → after ≡ header ++ front
    → Fronted before piece front more (after ++ behind)
fronted_by before header behind piece front more after k is s k_is front_is more_is after_is =
    rw (after_is, front_is, more_is, ← is) (fronted header behind piece k s k_is)

front_data : (before piece front more bytes : List ℕ) → Fronted before piece front more bytes → data_so_far bytes ≡ data_so_far before
front_data before piece front more bytes f =
    let long : length bytes ≡ length before + length front = ap (λ (x : List ℕ). length x) f.bytes_are ∙ length-append before front in
    elim f.small [
      | inl none ↦ ap data_so_far (f.bytes_are ∙ ap (λ (x : List ℕ). before ++ x) none ∙ append-nil before)
      | inr small ↦ data_so_far-short bytes small ∙ sym (data_so_far-short before (omega (arith, long, small)))
    ]

front_used : (front more piece : List ℕ) (part : Part) (used : ℕ) → piece ≡ front ++ more → IsUsed part used more → IsUsed part (length front + used) piece
front_used front more piece parts.Nothing used is u = omega (arith, u, ap (λ (x : List ℕ). length x) is, length-append front more)
front_used front more piece (parts.Frame frame) used is u = omega (arith, u, ap (λ (x : List ℕ). length x) is, length-append front more)
front_used front more piece (parts.Data header lent) used is u = omega (arith, u, ap (λ (x : List ℕ). length x) is, length-append front more)
front_used front more piece (parts.End header) used is u = omega (arith, u, ap (λ (x : List ℕ). length x) is, length-append front more)

front_brings : (bytes before used : List ℕ) (part : Part) (after : List ℕ) → data_so_far bytes ≡ data_so_far before → length before ≤ length bytes
    → Brings bytes used part after → Brings before used part after
front_brings bytes before used parts.Nothing after same le t = record { none = t.none; same = t.same ∙ same; left = t.left }
front_brings bytes before used (parts.Frame frame) after same le t = t
front_brings bytes before used (parts.Data header lent) after same le t =
    let some = t.some in
    record {
      some = omega (arith, some, le);
      out = t.out;
      header_is = t.header_is;
      data_is = t.data_is ∙ ap (λ (x : List ℕ). x ++ lent.now) same;
      left = t.left;
    }
front_brings bytes before used (parts.End header) after same le t =
    record { out = t.out; whole = t.whole; exact = t.exact; header_is = t.header_is; same = t.same ∙ same; left = t.left }

pub front_takes : (before piece front more bytes : List ℕ) (used : ℕ) (part : Part) (after : List ℕ) → Fronted before piece front more bytes
    → Takes bytes more used part after → Takes before piece (length front + used) part after
front_takes before piece front more bytes used part after f t =
    let long : length bytes ≡ length before + length front = ap (λ (x : List ℕ). length x) f.bytes_are ∙ length-append before front in
    let same : bytes ++ take used more ≡ before ++ take (length front + used) piece =
    ap (λ (x : List ℕ). x ++ take used more) f.bytes_are ∙ append_assoc before front (take used more)
    ∙ ap (λ (x : List ℕ). before ++ x) (sym (ap (take (length front + used)) f.piece_is ∙ take-append-add front more used)) in
    record {
      used_is = front_used front more piece part used f.piece_is t.used_is;
      brings = subst (λ (x : List ℕ). Brings before x part after) same
          (front_brings bytes before (bytes ++ take used more) part after (front_data before piece front more bytes f) (omega (arith, long)) t.brings);
    }

pub long_alike : (a b : List ℕ) → header_length ≤ length a → is_long (a ++ b) ≡ is_long a
long_alike a b enough =
    elim (cases_Bool (is_long a)) [
      | inl long ↦ long_stays a b long ∙ sym long
      | inr none ↦ (
          elim (cases_Bool (is_long (a ++ b))) [
            | inl long ↦ (
                let l = is_long-true (a ++ b) long in
                let longer_in = l.longer in
                let back = is_long-from a (record { header = enough; longer = omega (arith, longer_in, data_length-append a b enough) }) in
                absurd (cc (back, none)))
            | inr still ↦ still ∙ sym none
          ])
    ]

-- whether too much is named shows in the header
pub front_long : (before piece front more bytes : List ℕ) → Fronted before piece front more bytes → is_long (before ++ piece) ≡ is_long bytes
front_long before piece front more bytes f =
    let parts_are : before ++ piece ≡ bytes ++ more =
    ap (λ (x : List ℕ). before ++ x) f.piece_is ∙ sym (append_assoc before front more) ∙ ap (λ (x : List ℕ). x ++ more) (sym f.bytes_are) in
    elim (cases_lt (length bytes) header_length) [
      | inl few ↦ ap is_long (parts_are ∙ ap (λ (x : List ℕ). bytes ++ x) (f.first few) ∙ append-nil bytes)
      | inr enough ↦ ap is_long parts_are ∙ long_alike bytes more enough
    ]

pub taken_in : (b : List ℕ) → header_length ≤ length b → is_long b ≡ false → data_length b ≤ most_data
taken_in b header short =
    elim (cases_lt most_data (data_length b)) [
      | inl longer_in ↦ (let long = is_long-from b (record { header = header; longer = longer_in }) in absurd (cc (long, short)))
      | inr fits ↦ fits
    ]

held_within : (b : List ℕ) → HoldsOne b → is_long b ≡ false → length b ≤ frame_length b
held_within b one short =
    elim (cases_Bool (is_data_out b)) [
      | inl out ↦ one.lent out
      | inr other ↦ (
          elim (cases_lt (frame_length b) (length b)) [
            | inl more ↦ (
                let header : header_length ≤ length b = omega (arith, more, frame_length-header b) in
                let taken = taken_in b header short in
                let there = has_frame-from b (record { header = header; taken = taken; whole = omega (arith, more) }) in
                absurd (cc (there, one.kept other)))
            | inr fits ↦ fits
          ])
    ]

-- of a Data-Out whose header is there all of it is the piece's
pub front_lent : (before piece front more bytes : List ℕ) → Fronted before piece front more bytes → is_data_out before ≡ true → is_long before ≡ false
    → (is_data_out bytes ≡ true) × (is_long bytes ≡ false)
front_lent before piece front more bytes f out short = (
  ap is_data_out f.bytes_are ∙ is_data_out-more before front out,
  ap is_long f.bytes_are ∙ long_alike before front (is_data_out-header before out) ∙ short,
)

-- what is kept is less than two PDUs
pub one_within : (before piece front more bytes : List ℕ) → Fronted before piece front more bytes → HoldsOne before → is_long bytes ≡ false
    → length bytes ≤ frame_length bytes
one_within before piece front more bytes f one short =
    elim f.small [
      | inl none ↦ (
          let same : bytes ≡ before = f.bytes_are ∙ ap (λ (x : List ℕ). before ++ x) none ∙ append-nil before in
          let fits = held_within before one (sym (ap is_long same) ∙ short) in
          omega (arith, fits, ap (λ (x : List ℕ). length x) same, ap frame_length same))
      | inr small ↦ omega (arith, small, frame_length-header bytes)
    ]

-- what is kept of too long a PDU is no more than one
pub one_long : (before piece front more bytes : List ℕ) → Fronted before piece front more bytes → HoldsOne before → is_long bytes ≡ true → HoldsOne bytes
one_long before piece front more bytes f one long =
    elim f.small [
      | inl none ↦ subst HoldsOne (sym (f.bytes_are ∙ ap (λ (x : List ℕ). before ++ x) none ∙ append-nil before)) one
      | inr small ↦ record { lent = λ e. omega (arith, small, frame_length-header bytes); kept = λ e. long_is_no_frame bytes long }
    ]

-- ---- out of memory: the bytes of the header are taken back

pub record TakenBack (header behind kept left : List ℕ) : Type 0 where
  pub split : IsSplit header_length (take (length header) kept) left
  pub same : take (length header) kept ++ left ≡ header ++ behind

-- the bytes with those of the header, under other names
pub taken_back : (header behind piece front kept left : List ℕ) (k : ℕ) → IsSplit header_length header behind → IsSplit header_length kept left
    → k ≡ min (length piece) (header_length - length header) → front ≡ take k piece → kept ++ left ≡ (header ++ front) ++ behind
    → TakenBack header behind kept left
taken_back header behind piece front kept left k s t k_is front_is is =
    let short = s.short in
    let long : length kept + length left ≡ length header + length front + length behind =
    omega (arith, length-append kept left, ap (λ (x : List ℕ). length x) is, length-append (header ++ front) behind, length-append header front) in
    let long_front : length front ≡ k = ap (λ (x : List ℕ). length x) front_is ∙ length-take-le k piece (omega (arith, k_is)) in
    elim (cases_lt (length header) header_length) [
      | inl less ↦ (
          let none : behind ≡ [] = s.whole less in
          let empty : length behind ≡ 0 = ap (λ (x : List ℕ). length x) none in
          let left_none : left ≡ [] =
          elim (cases_lt (length kept) header_length) [
            | inl fewer ↦ t.whole fewer
            | inr full ↦ nil_from_length left (omega (arith, full, long, long_front, k_is, empty))
          ] in
          let kept_is : kept ≡ header ++ front =
          sym (append-nil kept) ∙ sym (ap (λ (x : List ℕ). kept ++ x) left_none) ∙ is ∙ ap (λ (x : List ℕ). (header ++ front) ++ x) none
          ∙ append-nil (header ++ front) in
          let first : take (length header) kept ≡ header = ap (take (length header)) kept_is ∙ take_at header front (length header) refl in
          record {
            split = rw (first, left_none) (record { short = omega (arith, less); whole = λ fewer. refl });
            same = rw (first, left_none, none) refl;
          })
      | inr all ↦ (
          let front_none : front ≡ [] = nil_from_length front (omega (arith, long_front, k_is, all)) in
          let joined_is : kept ++ left ≡ header ++ behind =
          is ∙ ap (λ (x : List ℕ). (header ++ x) ++ behind) front_none ∙ ap (λ (x : List ℕ). x ++ behind) (append-nil header) in
          let full : length header ≡ header_length = omega (arith, short, all) in
          let kept_full : length kept ≡ header_length =
          front_full header_length kept left t (omega (arith, long, full, length-append kept left)) in
          let whole : take (length header) kept ≡ kept = take_all (length header) kept (omega (arith, full, kept_full)) in
          record { split = rw whole t; same = rw whole joined_is })
    ]
