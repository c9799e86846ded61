-- The parts that a framer gives, put together, are the frames.
use Rattle.std.proofs.Common.{◌≡◌, ℕ, List, [], ◌∷◌, ◌++◌, length, take, drop, true, false, refl, sym, ap, ◌∙◌, subst, inl, inr, arith, append_assoc, append-nil}
use Rattle.std.proofs.lemmas.Bool.{cases_Bool}
use Rattle.std.proofs.lemmas.List.{drop_all}
use Rattle.iscsi_pdu.specs.Header.{header_length}
use Rattle.iscsi_pdu.specs.Frames.{Frame, has_frame, first_frame, frame_length, frames, rest}
use Rattle.iscsi_pdu.specs.Parts.{is_data_out, data_so_far, shown, Brings, Call, AreCalls, bytes_used, bytes_left, joined, parts_given}
use Rattle.iscsi_pdu.specs.Laws.{PartsAreFrames, LeftIsTheRest}
use Rattle.iscsi_pdu.specs.declared.part.Part.{Part}
use Rattle.iscsi_pdu.specs.declared.part.Part.TheVariants as parts
use Rattle.iscsi_pdu.proofs.Frames.{frames_step, rest_step, frames_none, rest_none}
use Rattle.iscsi_pdu.proofs.Cuts.{has_frame-append, first_frame-append, behind-append}
use Rattle.iscsi_pdu.proofs.DataOuts.{Alike, alike_frame, alike_framed, alike_shown, alike_more, alike_data, alike_same, shown_alike, shown-other, shown_nothing, is_data_out-more, data_so_far-out, data_so_far-short}

-- ---- what is given is so of the bytes as they came

alike_brings : (a b used : List ℕ) (part : Part) (after : List ℕ) → Alike a b → Brings a (a ++ used) part after → Brings b (b ++ used) part after
alike_brings a b used parts.Nothing after h t =
    let both = alike_more a b used h in
    record { none = sym (alike_frame _ _ both) ∙ t.none; same = alike_same a b used h t.same; left = t.left ∙ alike_shown _ _ both }
alike_brings a b used (parts.Frame frame) after h t =
    let out = is_data_out-more a used h.out_a in
    absurd (cc (out, t.other))
alike_brings a b used (parts.Data header lent) after h t =
    let both = alike_more a b used h in
    record {
      some = omega (arith, t.some, h.long, both.long);
      out = both.out_b;
      header_is = t.header_is ∙ both.head;
      data_is = alike_data a b used _ h t.data_is;
      left = t.left ∙ alike_shown _ _ both;
    }
alike_brings a b used (parts.End header) after h t =
    let both = alike_more a b used h in
    record {
      out = both.out_b;
      whole = sym (alike_frame _ _ both) ∙ t.whole;
      exact = sym both.long ∙ t.exact ∙ alike_framed _ _ both;
      header_is = t.header_is ∙ both.head;
      same = alike_same a b used h t.same;
      left = t.left;
    }

brings_shown : (before came used : List ℕ) (part : Part) (after : List ℕ) → before ≡ shown came → Brings before (before ++ used) part after
    → Brings came (came ++ used) part after
brings_shown before came used part after is t =
    elim (cases_Bool (is_data_out came)) [
      | inl out ↦
          alike_brings before came used part after (subst (λ (x : List ℕ). Alike x came) (sym is) (shown_alike came out)) t
      | inr other ↦ subst (λ (x : List ℕ). Brings x (x ++ used) part after) (is ∙ shown-other came other) t
    ]

-- ---- a frame that is just whole

record IsExact (bytes more : List ℕ) : Type 0 where
  frames_are : frames (bytes ++ more) ≡ first_frame bytes ∷ frames more
  rest_is : rest (bytes ++ more) ≡ rest more

exact_frame : (bytes more : List ℕ) → has_frame bytes ≡ true → length bytes ≡ frame_length bytes → IsExact bytes more
exact_frame bytes more there exact =
    let both = has_frame-append bytes more there in
    let none : drop (frame_length bytes) bytes ≡ [] = drop_all (frame_length bytes) bytes (omega (arith, exact)) in
    record {
      frames_are = frames_step (bytes ++ more) both ∙ rw (first_frame-append bytes more there, behind-append bytes more there, none) refl;
      rest_is = rest_step (bytes ++ more) both ∙ rw (behind-append bytes more there, none) refl;
    }

-- its data is what has come of it
frame_is : (bytes header body : List ℕ) → is_data_out bytes ≡ true → header ≡ take header_length bytes → data_so_far bytes ≡ body
    → record { header = header; body = body } ≡ first_frame bytes
unfolding first_frame
frame_is bytes header body out is same = rw (is, ← same, data_so_far-out bytes out) refl

-- ---- the parts put together

record IsJoined (data_before : List ℕ) (given : List Part) (bytes left : List ℕ) : Type 0 where
  frames_same : joined data_before given ≡ frames bytes
  left_same : left ≡ shown (rest bytes)

-- what holds of the calls after one
abbrev Others : List Call → Type 0
Others calls = (before came : List ℕ) → before ≡ shown came → AreCalls before calls → has_frame (bytes_left before calls) ≡ false
    → IsJoined (data_so_far came) (parts_given calls) (came ++ bytes_used calls) (bytes_left before calls)

-- bytes that came before the others used
behind : (came used more left : List ℕ) (data_before : List ℕ) (given : List Part) → IsJoined data_before given ((came ++ used) ++ more) left
    → IsJoined data_before given (came ++ (used ++ more)) left
behind came used more left data_before given j = subst (λ (x : List ℕ). IsJoined data_before given x left) (append_assoc came used more) j

-- a whole frame, and then the others
after_frame : (bytes more left : List ℕ) (frame : Frame) (given : List Part) → has_frame bytes ≡ true → length bytes ≡ frame_length bytes
    → frame ≡ first_frame bytes → IsJoined [] given more left → (joined_frames : List Frame) → joined_frames ≡ frame ∷ joined [] given
    → (joined_frames ≡ frames (bytes ++ more)) × (left ≡ shown (rest (bytes ++ more)))
after_frame bytes more left frame given there exact first j joined_frames is =
    let e = exact_frame bytes more there exact in (
      is ∙ ap (λ (l : List Frame). frame ∷ l) j.frames_same ∙ ap (λ (f : Frame). f ∷ frames more) first ∙ sym e.frames_are,
      j.left_same ∙ ap shown (sym e.rest_is),
    )

step : (part : Part) (came used after : List ℕ) (calls : List Call) → Others calls → Brings came (came ++ used) part after
    → AreCalls after calls → has_frame (bytes_left after calls) ≡ false
    → IsJoined (data_so_far came) (part ∷ parts_given calls) (came ++ (used ++ bytes_used calls)) (bytes_left after calls)
step parts.Nothing came used after calls others t are ended =
    let j = others after (came ++ used) t.left are ended in
    behind came used (bytes_used calls) (bytes_left after calls) (data_so_far came) (parts.Nothing ∷ parts_given calls) (record {
      frames_same = ap (λ (d : List ℕ). joined d (parts_given calls)) (sym t.same) ∙ j.frames_same;
      left_same = j.left_same;
    })
step (parts.Frame frame) came used after calls others t are ended =
    let none : data_so_far [] ≡ [] = data_so_far-short [] (omega arith) in
    let j = others after [] (t.left ∙ sym shown_nothing) are ended in
    let k : IsJoined [] (parts_given calls) (bytes_used calls) (bytes_left after calls) =
    subst (λ (d : List ℕ). IsJoined d (parts_given calls) (bytes_used calls) (bytes_left after calls)) none j in
    let both = after_frame (came ++ used) (bytes_used calls) (bytes_left after calls) frame (parts_given calls) t.whole t.exact t.first k
    (frame ∷ joined [] (parts_given calls)) refl in
    behind came used (bytes_used calls) (bytes_left after calls) (data_so_far came) (parts.Frame frame ∷ parts_given calls)
    (record { frames_same = both.0; left_same = both.1 })
step (parts.Data header lent) came used after calls others t are ended =
    let j = others after (came ++ used) t.left are ended in
    behind came used (bytes_used calls) (bytes_left after calls) (data_so_far came) (parts.Data header lent ∷ parts_given calls) (record {
      frames_same = ap (λ (d : List ℕ). joined d (parts_given calls)) (sym t.data_is) ∙ j.frames_same;
      left_same = j.left_same;
    })
step (parts.End header) came used after calls others t are ended =
    let none : data_so_far [] ≡ [] = data_so_far-short [] (omega arith) in
    let j = others after [] (t.left ∙ sym shown_nothing) are ended in
    let k : IsJoined [] (parts_given calls) (bytes_used calls) (bytes_left after calls) =
    subst (λ (d : List ℕ). IsJoined d (parts_given calls) (bytes_used calls) (bytes_left after calls)) none j in
    let frame : Frame = record { header = header; body = data_so_far came } in
    let both = after_frame (came ++ used) (bytes_used calls) (bytes_left after calls) frame (parts_given calls) t.whole t.exact
    (frame_is (came ++ used) header (data_so_far came) t.out t.header_is t.same) k (frame ∷ joined [] (parts_given calls)) refl in
    behind came used (bytes_used calls) (bytes_left after calls) (data_so_far came) (parts.End header ∷ parts_given calls)
    (record { frames_same = both.0; left_same = both.1 })

-- no frame is left, so none is among the bytes as they came
nothing_whole : (came : List ℕ) → has_frame (shown came) ≡ false → has_frame came ≡ false
nothing_whole came none =
    elim (cases_Bool (is_data_out came)) [
      | inl out ↦ sym (alike_frame _ _ (shown_alike came out)) ∙ none
      | inr other ↦ sym (ap has_frame (shown-other came other)) ∙ none
    ]

all_joined : (calls : List Call) → Others calls
all_joined [] before came is are ended =
    let none = nothing_whole came (sym (ap has_frame is) ∙ ended) in
    record {
      frames_same = sym (ap frames (append-nil came) ∙ frames_none came none);
      left_same = is ∙ sym (ap (λ (b : List ℕ). shown (rest b)) (append-nil came) ∙ ap shown (rest_none came none));
    }
all_joined (call ∷ calls) before came is are ended =
    step call.part came (take call.used call.piece) call.after calls (all_joined calls)
    (brings_shown before came (take call.used call.piece) call.part call.after is are.0.brings) are.1 ended

from_nothing : (calls : List Call) → AreCalls [] calls → has_frame (bytes_left [] calls) ≡ false
    → IsJoined (data_so_far []) (parts_given calls) (bytes_used calls) (bytes_left [] calls)
from_nothing calls are ended = all_joined calls [] [] (sym shown_nothing) are ended

pub parts_are_frames : PartsAreFrames
parts_are_frames calls are ended =
    ap (λ (d : List ℕ). joined d (parts_given calls)) (sym (data_so_far-short [] (omega arith))) ∙ (from_nothing calls are ended).frames_same

pub left_is_the_rest : LeftIsTheRest
left_is_the_rest calls are ended = (from_nothing calls are ended).left_same
