-- The next bytes of a PDU are gathered.
use Rattle.std.proofs.Common.{◌≡◌, ℕ, ◌+◌, ◌-◌, ◌≤◌, false, List, [], ◌++◌, length, take, drop, Option, Some, None, refl, sym, ap, ◌∙◌, subst, arith, append_assoc}
use Rattle.std.specs.Prelude.{IfSome, IfNone}
use Rattle.std.proofs.lemmas.List.{take_all, drop_at, drop-drop, length-take-le}
use Rattle.iscsi_pdu.specs.Header.{header_length, additional_length, data_length}
use Rattle.iscsi_pdu.specs.Frames.{Frame, has_frame, first_frame}
use Rattle.iscsi_framer.specs.Framer.{IsSplit, IsWholly, LendsSome, part_of}
use Rattle.iscsi_pdu.specs.Parts.{is_data_out, HoldsOne, Waits, Takes}
use Rattle.iscsi_pdu.specs.declared.part.Part.TheVariants as parts
use Rattle.iscsi_framer.proofs.Split.{front_full}
use Rattle.iscsi_pdu.proofs.DataOuts.{is_data_out-append, data_so_far-other, shown-other, one_other, one_nothing}
use Rattle.iscsi_pdu.proofs.Fields.{whole_of, fields}
use Rattle.iscsi_framer.proofs.Taking.{Begun, longer, whole_frame}

-- ---- what it is to `take`, if it is no Data-Out

waits_part : (bytes more after : List ℕ) (used : ℕ) → header_length ≤ length bytes → is_data_out bytes ≡ false → used ≡ length more
    → has_frame (bytes ++ more) ≡ false → after ≡ bytes ++ more → Takes bytes more used parts.Nothing after
waits_part bytes more after used there other all none kept =
    let other_now : is_data_out (bytes ++ more) ≡ false = is_data_out-append bytes more there ∙ other in
    let with_all : bytes ++ more ≡ bytes ++ take used more = ap (λ (x : List ℕ). bytes ++ x) (sym (take_all used more (omega (arith, all)))) in
    record {
      used_is = all;
      brings = subst (λ (x : List ℕ). Waits bytes x after) with_all (record {
        none = none;
        same = data_so_far-other (bytes ++ more) other_now ∙ sym (data_so_far-other bytes other);
        left = kept ∙ sym (shown-other (bytes ++ more) other_now);
      });
    }

waits_one : (bytes more after : List ℕ) → header_length ≤ length bytes → is_data_out bytes ≡ false → has_frame (bytes ++ more) ≡ false
    → after ≡ bytes ++ more → HoldsOne after
waits_one bytes more after there other none kept =
    subst HoldsOne (sym kept) (one_other (bytes ++ more) (is_data_out-append bytes more there ∙ other) none)

gives_part : (frame : Frame) (bytes more after : List ℕ) (used : ℕ) → header_length ≤ length bytes → is_data_out bytes ≡ false
    → used ≤ length more → IsWholly frame (bytes ++ take used more) → after ≡ [] → Takes bytes more used (parts.Frame frame) after
gives_part frame bytes more after used there other within w none = record {
  used_is = within;
  brings = record {
    other = is_data_out-append bytes (take used more) there ∙ other;
    whole = w.whole;
    exact = w.exact;
    first = sym w.first;
    left = none;
  };
}

pub gathered_part : (o : Option Frame) (bytes more after : List ℕ) (used : ℕ) → header_length ≤ length bytes → is_data_out bytes ≡ false
    → used ≤ length more → IfSome o (λ frame. IsWholly frame (bytes ++ take used more)) → IfSome o (λ _. after ≡ [])
    → IfNone o (has_frame (bytes ++ more) ≡ false) → IfNone o (after ≡ bytes ++ more) → IfNone o (used ≡ length more)
    → Takes bytes more used (part_of o) after
gathered_part (Some frame) bytes more after used there other within whole left none kept all =
    gives_part frame bytes more after used there other within whole left
gathered_part None bytes more after used there other within whole left none kept all = waits_part bytes more after used there other all none kept

pub gathered_one : (o : Option Frame) (bytes more after : List ℕ) → header_length ≤ length bytes → is_data_out bytes ≡ false
    → IfSome o (λ _. after ≡ []) → IfNone o (has_frame (bytes ++ more) ≡ false) → IfNone o (after ≡ bytes ++ more) → HoldsOne after
gathered_one (Some frame) bytes more after there other left none kept = subst HoldsOne (sym left) one_nothing
gathered_one None bytes more after there other left none kept = waits_one bytes more after there other none kept

pub gathered_lends : (o : Option Frame) → LendsSome (part_of o)
gathered_lends (Some frame) = tt
gathered_lends None = tt

-- ---- its bytes are gathered

-- the data segment, in the bytes after the header
body_is : (front behind more header : List ℕ) → length front ≡ header_length → Begun (front ++ behind) header
    → take (data_length header) (drop (additional_length header) (behind ++ more))
    ≡ take (data_length ((front ++ behind) ++ more)) (drop (header_length + additional_length ((front ++ behind) ++ more)) ((front ++ behind) ++ more))
body_is front behind more header full b =
    let bytes = (front ++ behind) ++ more in
    let f = fields bytes header (longer (front ++ behind) header more b).header_is in
    let at : drop header_length bytes ≡ behind ++ more =
    ap (drop header_length) (append_assoc front behind more) ∙ drop_at front (behind ++ more) header_length full in
    let place : drop (header_length + additional_length header) bytes ≡ drop (additional_length header) (behind ++ more) =
    sym (drop-drop (additional_length header) header_length bytes) ∙ ap (drop (additional_length header)) at in
    ap (take (data_length header)) (sym place)
    ∙ ap (λ (n : ℕ). take (data_length header) (drop (header_length + n) bytes)) (sym f.additional)
    ∙ ap (λ (n : ℕ). take n (drop (header_length + additional_length bytes) bytes)) (sym f.data_is)

first_is : (bytes header body : List ℕ) → header ≡ take header_length bytes
    → body ≡ take (data_length bytes) (drop (header_length + additional_length bytes) bytes) → first_frame bytes ≡ record { header = header; body = body }
unfolding first_frame
first_is bytes header body is same = rw (is, same) refl

pub record Gathered (front behind more header body : List ℕ) (used : ℕ) : Type 0 where
  pub split : IsSplit header_length front behind
  pub begun : Begun (front ++ behind) header
  pub used_is : used ≡ whole_of header - length (front ++ behind)
  pub enough : used ≤ length more
  pub body_is : body ≡ take (data_length header) (drop (additional_length header) (behind ++ take used more))

pub gives : (front behind more header body : List ℕ) (used : ℕ) → Gathered front behind more header body used
    → IsWholly (record { header = header; body = body }) ((front ++ behind) ++ take used more)
gives front behind more header body used g =
    let bytes = front ++ behind in
    let b = g.begun in
    let there = b.there in
    let fits = b.within in
    let used_is = g.used_is in
    let long : length (take used more) ≡ used = length-take-le used more g.enough in
    let l = longer bytes header (take used more) b in
    let f = fields bytes header b.header_is in
    let all : length bytes + used ≡ whole_of header = omega (arith, used_is, f.framed, fits) in
    record {
      whole = whole_frame bytes header (take used more) b (omega (arith, long, all));
      exact = omega (arith, l.long, l.framed, long, all);
      first = first_is (bytes ++ take used more) header body l.header_is
          (g.body_is ∙ body_is front behind (take used more) header (front_full header_length front behind g.split there) b);
    }
