-- Data-Outs of whose data only the length is kept.
use Rattle.std.proofs.Common.{◌≡◌, ℕ, ◌+◌, ◌-◌, ◌<◌, ◌≤◌, true, false, List, [], ◌++◌, length, take, drop, replicate, refl, sym, ap, ◌∙◌, inl, inr, arith, append-nil, length-append, length-drop}
use Rattle.std.proofs.lemmas.Bool.{leb-true, le-leb, and_parts, cases_Bool}
use Rattle.std.proofs.lemmas.List.{take-append-le, take-append-drop, take-take, take_all, drop_all, length-take-le, length-replicate, get_or_append_left, append_cancel_left}
use Rattle.iscsi_pdu.specs.Header.{header_length, additional_length, data_length}
use Rattle.iscsi_pdu.specs.Frames.{has_frame, frame_length}
use Rattle.iscsi_pdu.specs.Parts.{is_data_out, data_so_far, shown, HoldsOne}
use Rattle.iscsi_pdu.proofs.Frames.{has_frame-true, frame_length-header, no_frame}
use Rattle.iscsi_pdu.proofs.Cuts.{additional_length-append, data_length-append, additional_length-take, data_length-take}
use Rattle.iscsi_pdu.proofs.Zeros.{drop_append, take_append}

-- ---- the header says whether it is one

pub is_data_out-header : (b : List ℕ) → is_data_out b ≡ true → header_length ≤ length b
unfolding is_data_out
is_data_out-header b h = leb-true _ _ (and_parts _ _ h).0

pub is_data_out-short : (b : List ℕ) → length b < header_length → is_data_out b ≡ false
is_data_out-short b less =
    elim (cases_Bool (is_data_out b)) [
      | inl out ↦ absurd (omega (arith, is_data_out-header b out))
      | inr other ↦ other
    ]

pub is_data_out-append : (a b : List ℕ) → header_length ≤ length a → is_data_out (a ++ b) ≡ is_data_out a
unfolding is_data_out
is_data_out-append a b h =
    let both : header_length ≤ length (a ++ b) = omega (arith, length-append a b) in
    rw (le-leb _ _ both, le-leb _ _ h, get_or_append_left a b 0 0 (omega arith)) refl

pub is_data_out-more : (a b : List ℕ) → is_data_out a ≡ true → is_data_out (a ++ b) ≡ true
is_data_out-more a b h = is_data_out-append a b (is_data_out-header a h) ∙ h

-- ---- what has come of its data

pub data_so_far-out : (b : List ℕ) → is_data_out b ≡ true → data_so_far b ≡ take (data_length b) (drop (header_length + additional_length b) b)
unfolding data_so_far
data_so_far-out b h = rw h refl

pub data_so_far-other : (b : List ℕ) → is_data_out b ≡ false → data_so_far b ≡ []
unfolding data_so_far
data_so_far-other b h = rw h refl

pub data_so_far-short : (b : List ℕ) → length b ≤ header_length → data_so_far b ≡ []
data_so_far-short b short =
    elim (cases_Bool (is_data_out b)) [
      | inl out ↦ (
          let none : drop (header_length + additional_length b) b ≡ [] = drop_all (header_length + additional_length b) b (omega (arith, short)) in
          data_so_far-out b out ∙ ap (take (data_length b)) none ∙ take_all (data_length b) [] (omega arith))
      | inr other ↦ data_so_far-other b other
    ]

-- the data among the bytes that come next
abbrev pub next_data : List ℕ → List ℕ → List ℕ
next_data before more =
    take (data_length before - (length before - (header_length + additional_length before)))
    (drop (header_length + additional_length before - length before) more)

pub data_so_far-more : (a b : List ℕ) → is_data_out a ≡ true → data_so_far (a ++ b) ≡ data_so_far a ++ next_data a b
data_so_far-more a b h =
    let enough = is_data_out-header a h in
    let start = header_length + additional_length a in
    let d = data_length a in
    let same_start : header_length + additional_length (a ++ b) ≡ start = ap (λ (n : ℕ). header_length + n) (additional_length-append a b enough) in
    let long : length (drop start a) ≡ length a - start = length-drop start a in
    data_so_far-out (a ++ b) (is_data_out-more a b h)
    ∙ ap (λ (n : ℕ). take n (drop (header_length + additional_length (a ++ b)) (a ++ b))) (data_length-append a b enough)
    ∙ ap (λ (n : ℕ). take d (drop n (a ++ b))) same_start
    ∙ ap (take d) (drop_append start a b)
    ∙ take_append d (drop start a) (drop (start - length a) b)
    ∙ ap (λ (n : ℕ). take d (drop start a) ++ take (d - n) (drop (start - length a) b)) long
    ∙ ap (λ (l : List ℕ). l ++ next_data a b) (sym (data_so_far-out a h))

-- ---- what is kept of it

pub shown-out : (b : List ℕ) → is_data_out b ≡ true → shown b ≡ take header_length b ++ replicate (length b - header_length) 0
unfolding shown
shown-out b h = rw h refl

pub shown-other : (b : List ℕ) → is_data_out b ≡ false → shown b ≡ b
unfolding shown
shown-other b h = rw h refl

pub shown_nothing : shown [] ≡ []
shown_nothing = shown-other [] (is_data_out-short [] (omega arith))

-- ---- the same Data-Out, with other data

pub record Alike (a b : List ℕ) : Type 0 where
  pub out_a : is_data_out a ≡ true
  pub out_b : is_data_out b ≡ true
  pub head : take header_length a ≡ take header_length b
  pub long : length a ≡ length b

pub alike_additional : (a b : List ℕ) → Alike a b → additional_length a ≡ additional_length b
alike_additional a b h = sym (additional_length-take a) ∙ ap (λ (x : List ℕ). additional_length x) h.head ∙ additional_length-take b

pub alike_data_length : (a b : List ℕ) → Alike a b → data_length a ≡ data_length b
alike_data_length a b h = sym (data_length-take a) ∙ ap (λ (x : List ℕ). data_length x) h.head ∙ data_length-take b

pub alike_framed : (a b : List ℕ) → Alike a b → frame_length a ≡ frame_length b
unfolding frame_length
alike_framed a b h =
    let additional : additional_length a ≡ additional_length b = alike_additional a b h in
    let body : data_length a ≡ data_length b = alike_data_length a b h in
    omega arith

pub alike_frame : (a b : List ℕ) → Alike a b → has_frame a ≡ has_frame b
unfolding has_frame
alike_frame a b h = rw (h.long, alike_data_length a b h, alike_framed a b h) refl

pub alike_shown : (a b : List ℕ) → Alike a b → shown a ≡ shown b
alike_shown a b h = shown-out a h.out_a ∙ rw (h.head, h.long) (sym (shown-out b h.out_b))

pub alike_more : (a b u : List ℕ) → Alike a b → Alike (a ++ u) (b ++ u)
alike_more a b u h =
    let la = is_data_out-header a h.out_a in
    let lb = is_data_out-header b h.out_b in
    record {
      out_a = is_data_out-more a u h.out_a;
      out_b = is_data_out-more b u h.out_b;
      head = take-append-le header_length a u la ∙ h.head ∙ sym (take-append-le header_length b u lb);
      long = omega (arith, length-append a u, length-append b u, h.long);
    }

next_same : (a b u : List ℕ) → Alike a b → next_data a u ≡ next_data b u
next_same a b u h =
    ap (λ (n : ℕ). take (data_length a - (n - (header_length + additional_length a))) (drop (header_length + additional_length a - n) u)) h.long
    ∙ ap (λ (n : ℕ). take (data_length a - (length b - (header_length + n))) (drop (header_length + n - length b) u)) (alike_additional a b h)
    ∙ ap (λ (n : ℕ). take (n - (length b - (header_length + additional_length b))) (drop (header_length + additional_length b - length b) u))
    (alike_data_length a b h)

pub alike_data : (a b u d : List ℕ) → Alike a b → data_so_far (a ++ u) ≡ data_so_far a ++ d → data_so_far (b ++ u) ≡ data_so_far b ++ d
alike_data a b u d h e =
    let same : next_data a u ≡ d = append_cancel_left (data_so_far a) (next_data a u) d (sym (data_so_far-more a u h.out_a) ∙ e) in
    data_so_far-more b u h.out_b ∙ ap (λ (x : List ℕ). data_so_far b ++ x) (sym (next_same a b u h) ∙ same)

pub alike_same : (a b u : List ℕ) → Alike a b → data_so_far (a ++ u) ≡ data_so_far a → data_so_far (b ++ u) ≡ data_so_far b
alike_same a b u h e = alike_data a b u [] h (e ∙ sym (append-nil (data_so_far a))) ∙ append-nil (data_so_far b)

pub shown_alike : (b : List ℕ) → is_data_out b ≡ true → Alike (shown b) b
shown_alike b h =
    let lb = is_data_out-header b h in
    let header : List ℕ = take header_length b in
    let n = length b - header_length in
    let lh : length header ≡ header_length = length-take-le header_length b lb in
    let behind : List ℕ = drop header_length b in
    let parts : b ≡ header ++ behind = sym (take-append-drop header_length b) in
    let is : shown b ≡ header ++ replicate n 0 = shown-out b h in
    let enough : header_length ≤ length header = omega (arith, lh) in
    let out_h : is_data_out header ≡ true = sym (is_data_out-append header behind enough) ∙ ap is_data_out (sym parts) ∙ h in
    record {
      out_a = ap is_data_out is ∙ is_data_out-more header (replicate n 0) out_h;
      out_b = h;
      head = ap (take header_length) is ∙ take-append-le header_length header (replicate n 0) enough ∙ take-take header_length header_length b (omega arith);
      long = ap (λ (x : List ℕ). length x) is ∙ omega (arith, length-append header (replicate n 0), length-replicate {A = ℕ} n 0, lh, lb);
    }

-- ---- what is kept is no more than one

pub one_nothing : HoldsOne []
one_nothing = record { lent = λ e. omega (arith, frame_length-header []); kept = λ e. no_frame }

pub one_other : (b : List ℕ) → is_data_out b ≡ false → has_frame b ≡ false → HoldsOne b
one_other b other none = record { lent = λ e. absurd (cc (e, other)); kept = λ e. none }

pub one_shown : (b : List ℕ) → is_data_out b ≡ true → length b ≤ frame_length b → HoldsOne (shown b)
one_shown b out within =
    let same = shown_alike b out in
    let out_a = same.out_a in
    let framed = alike_framed (shown b) b same in
    let long = same.long in
    record { lent = λ e. omega (arith, long, framed, within); kept = λ e. absurd (cc (e, out_a)) }

-- fewer bytes than the header names are no frame
pub has_frame-short : (b : List ℕ) → length b < frame_length b → has_frame b ≡ false
has_frame-short b less =
    elim (cases_Bool (has_frame b)) [
      | inl there ↦ absurd (omega (arith, less, (has_frame-true b there).whole))
      | inr none ↦ none
    ]
