-- The bytes of a half-read Data-Out are counted by a framer's `take`, and noted.
use Rattle.std.proofs.Common.{◌≡◌, ◌⊎◌, ℕ, ◌+◌, ◌-◌, ◌<◌, ◌≤◌, List, [], ◌++◌, length, take, drop, true, false, refl, sym, ap, ◌∙◌, subst, arith, inl, inr, length-append, append_assoc}
use Rattle.std.specs.Borrow.{Bor}
use Rattle.std.proofs.Math.Seq.{take-add}
use Rattle.std.proofs.lemmas.List.{append-nil, take_all, take-append-le, take-append-drop, length-take, length-take-le, length-drop, take_at}
use Rattle.std.proofs.lemmas.Bool.{cases_Bool, le-leb}
use Rattle.iscsi_pdu.specs.Header.{header_length}
use Rattle.iscsi_pdu.specs.Parts.{is_data_out, shown, HoldsOne, Takes}
use Rattle.iscsi_pdu.specs.declared.part.Part.{Part}
use Rattle.iscsi_pdu.specs.declared.part.Part.TheVariants as parts
use Rattle.iscsi_pdu.specs.Frames.{Frame, has_frame, is_long, first_frame, frame_length, missing, wanted}
use Rattle.iscsi_pdu.proofs.Frames.{is_long-true, is_long-from}
use Rattle.iscsi_pdu.proofs.DataOuts.{is_data_out-header, is_data_out-more, Alike, shown_alike, alike_more, alike_frame, alike_framed, alike_shown, alike_data_length, one_shown}
use Rattle.iscsi_framer.specs.Framer.{IsWholly}
use Rattle.iscsi_framer.proofs.Fronts.{long_alike}
use Rattle.iscsi_connection.specs.Passing.{IsHalfRead, IsCounted, IsWhole}
use Rattle.iscsi_connection.proofs.Ahead.{Begun, begun_half, begun_more}

-- ---- a framer counts it

-- more of these bytes, in the framer and in fact
counts_alike : (framer bytes more : List ℕ) → Begun bytes → framer ≡ shown bytes → Alike (framer ++ more) (bytes ++ more)
counts_alike framer bytes more b shows = alike_more framer bytes more (subst (λ (x : List ℕ). Alike x bytes) (sym shows) (shown_alike bytes b.out))

-- what the framer holds is a Data-Out
pub counts_out : (framer bytes : List ℕ) → Begun bytes → framer ≡ shown bytes → is_data_out framer ≡ true
counts_out framer bytes b shows = ap is_data_out shows ∙ (shown_alike bytes b.out).out_a

alike_long : (x y : List ℕ) → Alike x y → is_long x ≡ true → is_long y ≡ true
alike_long x y a long =
    let l = is_long-true x long in
    let there = l.header in
    let more = l.longer in
    is_long-from y (record { header = omega (arith, there, a.long); longer = omega (arith, more, alike_data_length x y a) })

pub counts_short : (framer bytes : List ℕ) → Begun bytes → framer ≡ shown bytes → is_long framer ≡ false
counts_short framer bytes b shows = elim (cases_Bool (is_long (shown bytes))) [
  | inl long ↦ absurd (cc (alike_long (shown bytes) bytes (shown_alike bytes b.out) long, b.short))
  | inr short ↦ ap is_long shows ∙ short
]

-- the header
pub counts_head : (framer bytes : List ℕ) → Begun bytes → framer ≡ shown bytes → take header_length framer ≡ take header_length bytes
counts_head framer bytes b shows = ap (take header_length) shows ∙ (shown_alike bytes b.out).head

-- as many bytes are missing
pub wanted_counted : (framer bytes : List ℕ) → IsCounted framer bytes → wanted framer ≡ wanted bytes
unfolding missing
wanted_counted framer bytes c =
    let a = shown_alike bytes c.half.out in
    let there = is_data_out-header bytes c.half.out in
    let there_too = is_data_out-header (shown bytes) a.out_a in
    ap wanted c.shows ∙ rw (le-leb _ _ there, le-leb _ _ there_too, a.long, alike_framed (shown bytes) bytes a) refl

-- it is begun to be counted
pub half_one : (bytes : List ℕ) → IsHalfRead bytes → HoldsOne bytes
half_one bytes h = record { lent = λ e. (begun_half bytes h).within; kept = λ other. absurd (cc (h.out, other)) }

pub record PassesOver (framer kept after : List ℕ) : Type 0 where
  pub same : take header_length after ++ kept ≡ framer
  pub counted : IsCounted after (take header_length after ++ kept)

pub passes_over : (framer kept after : List ℕ) (used : ℕ) → IsHalfRead framer → framer ≡ take header_length framer ++ kept
    → Takes framer [] used parts.Nothing after → PassesOver framer kept after
passes_over framer kept after used h is t =
    let brings = t.brings in
    let none : framer ++ take used [] ≡ framer = ap (λ (x : List ℕ). framer ++ x) (take_all used [] (omega arith)) ∙ append-nil framer in
    let shows : after ≡ shown framer = brings.left ∙ ap shown none in
    let same : take header_length after ++ kept ≡ framer =
    ap (λ (x : List ℕ). x ++ kept) (ap (take header_length) shows ∙ (shown_alike framer h.out).head) ∙ sym is in
    record { same = same; counted = subst (IsCounted after) (sym same) (record { half = h; shows = shows }) }

-- nothing else is given
pub not_over : (framer after : List ℕ) (used : ℕ) (part : Part) → IsHalfRead framer → Takes framer [] used part after → (part ≡ parts.Nothing → ⊥) → ⊥
not_over framer after used parts.Nothing h t other = other refl
not_over framer after used (parts.Frame frame) h t other = cc (is_data_out-more framer (take used []) h.out, t.brings.other)
not_over framer after used (parts.Data header lent) h t other =
    let some = t.brings.some in
    omega (arith, some, length-append framer (take used []), length-take {A = ℕ} used [])
not_over framer after used (parts.End header) h t other =
    let none : framer ++ take used [] ≡ framer = ap (λ (x : List ℕ). framer ++ x) (take_all used [] (omega arith)) ∙ append-nil framer in
    cc (ap has_frame (sym none) ∙ t.brings.whole, h.part)

-- its header names no more than it may
pub never_long : (framer bytes piece : List ℕ) → IsCounted framer bytes → is_long (bytes ++ piece) ≡ true → ⊥
never_long framer bytes piece c long =
    cc (long, long_alike bytes piece (is_data_out-header bytes c.half.out) ∙ c.half.short)

-- ---- the next bytes are counted

-- a call of the framer's `take`, and the bytes in fact
pub record Calls (framer bytes rest after : List ℕ) (used : ℕ) : Type 0 where
  pub begun : Begun bytes
  pub shows : framer ≡ shown bytes
  pub one : HoldsOne after

-- no PDU but a Data-Out is there
no_frame_given : (frame : Frame) (framer bytes rest after : List ℕ) (used : ℕ) → Calls framer bytes rest after used
    → Takes framer rest used (parts.Frame frame) after → ⊥
no_frame_given frame framer bytes rest after used c t =
    cc (is_data_out-more framer (take used rest) (counts_out framer bytes c.begun c.shows), t.brings.other)

-- some of its data came
pub record Goes (bytes rest after : List ℕ) (used : ℕ) : Type 0 where
  pub begun : Begun (bytes ++ take used rest)
  pub shows : after ≡ shown (bytes ++ take used rest)
  pub some : 0 < used
  pub within : used ≤ length rest

data_goes : (header : List ℕ) (lent : Bor (List ℕ)) (framer bytes rest after : List ℕ) (used : ℕ) → Calls framer bytes rest after used
    → Takes framer rest used (parts.Data header lent) after → Goes bytes rest after used
data_goes header lent framer bytes rest after used c t =
    let more : List ℕ = take used rest in
    let a = counts_alike framer bytes more c.begun c.shows in
    let brings = t.brings in
    let some = brings.some in
    let shows : after ≡ shown (bytes ++ more) = brings.left ∙ alike_shown (framer ++ more) (bytes ++ more) a in
    let b = shown_alike (bytes ++ more) a.out_b in
    let fits = c.one.lent (ap is_data_out shows ∙ b.out_a) in
    record {
      begun = begun_more bytes more c.begun
          (omega (arith, fits, ap (λ (x : List ℕ). length x) shows, ap frame_length shows, b.long, alike_framed (shown (bytes ++ more)) (bytes ++ more) b));
      shows = shows;
      some = omega (arith, some, length-append framer more, length-take used rest);
      within = t.used_is;
    }

-- all of the piece came, and it is not whole
pub record Stays (bytes rest after : List ℕ) (used : ℕ) : Type 0 where
  pub half : IsHalfRead (bytes ++ rest)
  pub shows : after ≡ shown (bytes ++ rest)
  pub all : used ≡ length rest

nothing_stays : (framer bytes rest after : List ℕ) (used : ℕ) → Calls framer bytes rest after used → Takes framer rest used parts.Nothing after
    → Stays bytes rest after used
nothing_stays framer bytes rest after used c t =
    let all : take used rest ≡ rest = take_all used rest (omega (arith, t.used_is)) in
    let a = counts_alike framer bytes (take used rest) c.begun c.shows in
    let brings = t.brings in
    let none : has_frame (bytes ++ take used rest) ≡ false = sym (alike_frame (framer ++ take used rest) (bytes ++ take used rest) a) ∙ brings.none in
    let shows : after ≡ shown (bytes ++ take used rest) = brings.left ∙ alike_shown (framer ++ take used rest) (bytes ++ take used rest) a in
    let begun = c.begun.begun in
    let half : IsHalfRead (bytes ++ take used rest) = record {
      out = a.out_b;
      short = long_alike bytes (take used rest) (is_data_out-header bytes c.begun.out) ∙ c.begun.short;
      begun = omega (arith, begun, length-append bytes (take used rest));
      part = none;
    } in
    record {
      half = subst (λ (x : List ℕ). IsHalfRead (bytes ++ x)) all half;
      shows = shows ∙ ap (λ (x : List ℕ). shown (bytes ++ x)) all;
      all = t.used_is;
    }

-- its last byte came
pub record Passes (header bytes rest after : List ℕ) (used : ℕ) : Type 0 where
  pub out : is_data_out (bytes ++ take used rest) ≡ true
  pub whole : has_frame (bytes ++ take used rest) ≡ true
  pub exact : length (bytes ++ take used rest) ≡ frame_length (bytes ++ take used rest)
  pub header_is : header ≡ take header_length bytes
  pub none : after ≡ []
  pub within : used ≤ length rest

end_passes : (header framer bytes rest after : List ℕ) (used : ℕ) → Calls framer bytes rest after used → Takes framer rest used (parts.End header) after
    → Passes header bytes rest after used
end_passes header framer bytes rest after used c t =
    let more : List ℕ = take used rest in
    let a = counts_alike framer bytes more c.begun c.shows in
    let brings = t.brings in
    record {
      out = a.out_b;
      whole = sym (alike_frame (framer ++ more) (bytes ++ more) a) ∙ brings.whole;
      exact = sym a.long ∙ brings.exact ∙ alike_framed (framer ++ more) (bytes ++ more) a;
      header_is = brings.header_is ∙ a.head ∙ take-append-le header_length bytes more (is_data_out-header bytes c.begun.out);
      none = brings.left;
      within = t.used_is;
    }

-- ---- the bytes of a piece, so many of which were counted before

-- those and the next
next_of : (bytes piece : List ℕ) (used more : ℕ)
    → (bytes ++ take used piece) ++ take more (drop used piece) ≡ bytes ++ take (used + more) piece
next_of bytes piece used more =
    append_assoc bytes (take used piece) (take more (drop used piece)) ∙ ap (λ (x : List ℕ). bytes ++ x) (sym (take-add used more piece))

-- those and all others
all_of : (bytes piece : List ℕ) (used : ℕ) → (bytes ++ take used piece) ++ drop used piece ≡ bytes ++ piece
all_of bytes piece used =
    append_assoc bytes (take used piece) (drop used piece) ∙ ap (λ (x : List ℕ). bytes ++ x) (take-append-drop used piece)

-- it is whole
passes_wholly : (header bytes piece after : List ℕ) (used more : ℕ) → Passes header (bytes ++ take used piece) (drop used piece) after more
    → IsWholly (first_frame (bytes ++ take (used + more) piece)) (bytes ++ take (used + more) piece)
passes_wholly header bytes piece after used more p =
    let is = next_of bytes piece used more in
    record {
      whole = ap has_frame (sym is) ∙ p.whole;
      exact = sym (ap (λ (x : List ℕ). length x) is) ∙ p.exact ∙ ap frame_length is;
      first = refl;
    }

-- so many of a piece are counted, of which the framer and the notes had some before
pub record Counting (framer_before noted_before framer noted piece : List ℕ) (used : ℕ) : Type 0 where
  pub begun : Begun ((take header_length framer_before ++ noted_before) ++ take used piece)
  pub shows : framer ≡ shown ((take header_length framer_before ++ noted_before) ++ take used piece)
  pub noted_is : noted ≡ noted_before ++ take used piece
  pub within : used ≤ length piece

pub counting_none : (framer noted piece : List ℕ) → IsCounted framer (take header_length framer ++ noted)
    → Counting framer noted framer noted piece 0
counting_none framer noted piece c =
    let none : (take header_length framer ++ noted) ++ [] ≡ take header_length framer ++ noted = append-nil (take header_length framer ++ noted) in
    record {
      begun = subst Begun (sym none) (begun_half (take header_length framer ++ noted) c.half);
      shows = c.shows ∙ ap shown (sym none);
      noted_is = sym (append-nil noted);
      within = omega arith;
    }

pub counting_one : (framer_before noted_before framer noted piece : List ℕ) (used : ℕ)
    → Counting framer_before noted_before framer noted piece used → HoldsOne framer
counting_one framer_before noted_before framer noted piece used c =
    subst HoldsOne (sym c.shows) (one_shown ((take header_length framer_before ++ noted_before) ++ take used piece) c.begun.out c.begun.within)

-- more is counted
counting_more : (framer_before noted_before framer noted piece after noted_after : List ℕ) (used more : ℕ)
    → Counting framer_before noted_before framer noted piece used
    → Goes ((take header_length framer_before ++ noted_before) ++ take used piece) (drop used piece) after more
    → noted_after ≡ noted ++ take more (drop used piece) → Counting framer_before noted_before after noted_after piece (used + more)
counting_more framer_before noted_before framer noted piece after noted_after used more c g is =
    let both = next_of (take header_length framer_before ++ noted_before) piece used more in
    let within = g.within in
    let before = c.within in
    record {
      begun = subst Begun both g.begun;
      shows = g.shows ∙ ap shown both;
      noted_is = is ∙ ap (λ (x : List ℕ). x ++ take more (drop used piece)) c.noted_is ∙ next_of noted_before piece used more;
      within = omega (arith, within, before, length-drop used piece);
    }

-- what is noted of it and its header, as it is whole
pub record PassesWholly (framer noted header piece later : List ℕ) (used : ℕ) : Type 0 where
  pub header_is : header ≡ take header_length (take header_length framer ++ noted)
  pub same : header ++ later ≡ (take header_length framer ++ noted) ++ take used piece
  pub whole : IsWhole header later
  pub wholly : IsWholly (first_frame ((take header_length framer ++ noted) ++ take used piece)) ((take header_length framer ++ noted) ++ take used piece)

passes_whole : (framer noted header piece after later : List ℕ) (used more : ℕ) → IsCounted framer (take header_length framer ++ noted)
    → Passes header ((take header_length framer ++ noted) ++ take used piece) (drop used piece) after more
    → later ≡ noted ++ take (used + more) piece → PassesWholly framer noted header piece later (used + more)
passes_whole framer noted header piece after later used more c p later_is =
    let head : List ℕ = take header_length framer in
    let bytes : List ℕ = head ++ noted in
    let b = begun_half bytes c.half in
    let there = is_data_out-header framer (counts_out framer bytes b c.shows) in
    let long : length head ≡ header_length = length-take-le header_length framer there in
    let begun = c.half.begun in
    let enough : header_length ≤ length bytes = omega (arith, begun) in
    let own : take header_length bytes ≡ head = take_at head noted header_length long in
    let header_is : header ≡ take header_length bytes = p.header_is ∙ take-append-le header_length bytes (take used piece) enough in
    let both = next_of bytes piece used more in
    let same : header ++ later ≡ bytes ++ take (used + more) piece =
    ap (λ (x : List ℕ). x ++ later) (header_is ∙ own) ∙ ap (λ (x : List ℕ). head ++ x) later_is
    ∙ sym (append_assoc head noted (take (used + more) piece)) in
    record {
      header_is = header_is;
      same = same;
      whole = record {
        long = ap (λ (x : List ℕ). length x) (header_is ∙ own) ∙ long;
        out = ap is_data_out (same ∙ sym both) ∙ p.out;
        whole = ap has_frame (same ∙ sym both) ∙ p.whole;
      };
      wholly = passes_wholly header bytes piece after used more p;
    }

-- what is kept and noted of it, if the piece ends before
pub record Keeps (framer noted piece after noted_after : List ℕ) : Type 0 where
  pub same : take header_length after ++ noted_after ≡ (take header_length framer ++ noted) ++ piece
  pub half : IsHalfRead ((take header_length framer ++ noted) ++ piece)
  pub counted : IsCounted after (take header_length after ++ noted_after)

keeps_all : (framer_before noted_before framer noted piece after noted_after : List ℕ) (used more : ℕ)
    → Counting framer_before noted_before framer noted piece used → IsCounted framer_before (take header_length framer_before ++ noted_before)
    → Stays ((take header_length framer_before ++ noted_before) ++ take used piece) (drop used piece) after more
    → noted_after ≡ noted ++ take more (drop used piece) → Keeps framer_before noted_before piece after noted_after
keeps_all framer_before noted_before framer noted piece after noted_after used more c counted s is =
    let head : List ℕ = take header_length framer_before in
    let bytes : List ℕ = head ++ noted_before in
    let all : (bytes ++ take used piece) ++ drop used piece ≡ bytes ++ piece = all_of bytes piece used in
    let half : IsHalfRead (bytes ++ piece) = subst IsHalfRead all s.half in
    let shows : after ≡ shown (bytes ++ piece) = s.shows ∙ ap shown all in
    let b = begun_half bytes counted.half in
    let there = is_data_out-header framer_before (counts_out framer_before bytes b counted.shows) in
    let long : length head ≡ header_length = length-take-le header_length framer_before there in
    let begun = counted.half.begun in
    let first : take header_length after ≡ head =
    ap (take header_length) shows ∙ (shown_alike (bytes ++ piece) half.out).head ∙ take-append-le header_length bytes piece (omega (arith, begun))
    ∙ take_at head noted_before header_length long in
    let rest : take more (drop used piece) ≡ drop used piece = take_all more (drop used piece) (omega (arith, s.all)) in
    let noted_is : noted_after ≡ noted_before ++ piece =
    is ∙ ap (λ (x : List ℕ). noted ++ x) rest ∙ ap (λ (x : List ℕ). x ++ drop used piece) c.noted_is ∙ all_of noted_before piece used in
    let same : take header_length after ++ noted_after ≡ bytes ++ piece =
    ap (λ (x : List ℕ). x ++ noted_after) first ∙ ap (λ (x : List ℕ). head ++ x) noted_is ∙ sym (append_assoc head noted_before piece) in
    record { same = same; half = half; counted = subst (IsCounted after) (sym same) (record { half = half; shows = shows }) }

-- ---- as the code has it

-- a call of the framer's `take` with the rest of the piece
pub record Step (framer_before noted_before framer noted piece after : List ℕ) (used more : ℕ) (part : Part) : Type 0 where
  pub counted : IsCounted framer_before (take header_length framer_before ++ noted_before)
  pub counting : Counting framer_before noted_before framer noted piece used
  pub takes : Takes framer (take (length piece - used) (drop used piece)) more part after
  pub one : HoldsOne after

pub step_of : {framer_before noted_before framer noted piece after : List ℕ} {used more : ℕ} {part : Part}
    → IsCounted framer_before (take header_length framer_before ++ noted_before) → Counting framer_before noted_before framer noted piece used
    → Takes framer (take (length piece - used) (drop used piece)) more part after → HoldsOne after
    → Step framer_before noted_before framer noted piece after used more part
step_of counted counting takes one = record { counted = counted; counting = counting; takes = takes; one = one }

rest_of : (piece : List ℕ) (used : ℕ) → take (length piece - used) (drop used piece) ≡ drop used piece
rest_of piece used = take_all (length piece - used) (drop used piece) (omega (arith, length-drop used piece))

-- what it used, noted
noted_of : (noted later piece : List ℕ) (used more : ℕ) → later ≡ noted ++ take more (take (length piece - used) (drop used piece))
    → later ≡ noted ++ take more (drop used piece)
noted_of noted later piece used more is = is ∙ ap (λ (x : List ℕ). noted ++ take more x) (rest_of piece used)

given_as : (framer piece after : List ℕ) (used more : ℕ) (part other : Part) → part ≡ other
    → Takes framer (take (length piece - used) (drop used piece)) more part after → Takes framer (drop used piece) more other after
given_as framer piece after used more part other same takes =
    subst (λ (x : List ℕ). Takes framer x more other after) (rest_of piece used)
    (subst (λ (p : Part). Takes framer (take (length piece - used) (drop used piece)) more p after) same takes)

calls_of : (framer_before noted_before framer noted piece after : List ℕ) (used more : ℕ) (part : Part)
    → Step framer_before noted_before framer noted piece after used more part
    → Calls framer ((take header_length framer_before ++ noted_before) ++ take used piece) (drop used piece) after more
calls_of framer_before noted_before framer noted piece after used more part s =
    record { begun = s.counting.begun; shows = s.counting.shows; one = s.one }

-- it failed, which it does not
pub never_fails : (framer_before noted_before framer noted piece : List ℕ) (used : ℕ) → Counting framer_before noted_before framer noted piece used
    → (is_data_out framer ≡ true → is_long framer ≡ false → false ≡ true) → ⊥
never_fails framer_before noted_before framer noted piece used c lent =
    let now : List ℕ = (take header_length framer_before ++ noted_before) ++ take used piece in
    cc (lent (counts_out framer now c.begun c.shows) (counts_short framer now c.begun c.shows))

pub step_goes : (framer_before noted_before framer noted piece after later : List ℕ) (used more : ℕ) (part : Part) (header : List ℕ) (lent : Bor (List ℕ))
    → Step framer_before noted_before framer noted piece after used more part → part ≡ parts.Data header lent
    → later ≡ noted ++ take more (take (length piece - used) (drop used piece))
    → Counting framer_before noted_before after later piece (used + more)
step_goes framer_before noted_before framer noted piece after later used more part header lent s same is =
    let bytes = (take header_length framer_before ++ noted_before) ++ take used piece in
    counting_more framer_before noted_before framer noted piece after later used more s.counting
    (data_goes header lent framer bytes (drop used piece) after more
    (calls_of framer_before noted_before framer noted piece after used more part s)
    (given_as framer piece after used more part (parts.Data header lent) same s.takes)) (noted_of noted later piece used more is)

pub step_stays : (framer_before noted_before framer noted piece after later : List ℕ) (used more : ℕ) (part : Part)
    → Step framer_before noted_before framer noted piece after used more part → (part ≡ parts.Nothing) ⊎ ((frame : Frame) × (part ≡ parts.Frame frame))
    → later ≡ noted ++ take more (take (length piece - used) (drop used piece)) → Keeps framer_before noted_before piece after later
step_stays framer_before noted_before framer noted piece after later used more part s same is =
    let bytes = (take header_length framer_before ++ noted_before) ++ take used piece in
    let calls = calls_of framer_before noted_before framer noted piece after used more part s in
    let stays : Stays bytes (drop used piece) after more = elim same [
      | inl nothing ↦ nothing_stays framer bytes (drop used piece) after more calls
          (given_as framer piece after used more part parts.Nothing nothing s.takes)
      | inr frame ↦ absurd (no_frame_given frame.0 framer bytes (drop used piece) after more calls
          (given_as framer piece after used more part (parts.Frame frame.0) frame.1 s.takes))
    ] in
    keeps_all framer_before noted_before framer noted piece after later used more s.counting s.counted stays (noted_of noted later piece used more is)

pub step_ends : (framer_before noted_before framer noted header piece after later : List ℕ) (used more : ℕ) (part : Part)
    → Step framer_before noted_before framer noted piece after used more part → part ≡ parts.End header
    → later ≡ noted ++ take more (take (length piece - used) (drop used piece))
    → PassesWholly framer_before noted_before header piece later (used + more)
step_ends framer_before noted_before framer noted header piece after later used more part s same is =
    let bytes = (take header_length framer_before ++ noted_before) ++ take used piece in
    let passes = end_passes header framer bytes (drop used piece) after more (calls_of framer_before noted_before framer noted piece after used more part s)
    (given_as framer piece after used more part (parts.End header) same s.takes) in
    passes_whole framer_before noted_before header piece after later used more s.counted passes
    (noted_of noted later piece used more is ∙ ap (λ (x : List ℕ). x ++ take more (drop used piece)) s.counting.noted_is
    ∙ next_of noted_before piece used more)
