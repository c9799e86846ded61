-- The laws of frames: pieces, spellings, and that no other frames are spelled.
use Rattle.std.proofs.Common.{◌≡◌, ℕ, zero, suc, ◌+◌, ◌-◌, ◌*◌, ◌≤◌, true, false, List, [], ◌∷◌, ◌++◌, length, take, drop, refl, sym, ap, ◌∙◌, inl, inr, arith, append_assoc, length-append, length-drop}
use Rattle.std.proofs.lemmas.Bool.{cases_Bool}
use Rattle.std.proofs.lemmas.List.{take-append-le, drop-append-le, take-append-drop, take_at, drop_at, get_or-take, get_or_append_left, length-take-le, nil_from_length}
use Rattle.std.proofs.Math.Seq.{take-add}
use Rattle.iscsi_pdu.specs.Header.{header_length, additional_length, data_length}
use Rattle.iscsi_pdu.specs.Segment.{padded}
use Rattle.iscsi_pdu.specs.Frames.{Frame, has_frame, frame_length, first_frame, frames, rest, Spells, AreSpelled}
use Rattle.iscsi_pdu.specs.Laws.{IsCut, LongIsNoFrame, LongStays, FramesInPieces, RestInPieces, FramesAreCut, OnlyFrames, OnlyRest}
use Rattle.iscsi_pdu.proofs.Frames.{has_frame-true, has_frame-from, is_long-true, is_long-from, no_frame, drop_shorter, frames_step, rest_step, frames_none, rest_none}

-- ---- bytes after a header change none of its fields

pub additional_length-append : (a b : List ℕ) → header_length ≤ length a → additional_length (a ++ b) ≡ additional_length a
additional_length-append a b h = ap (λ (n : ℕ). 4 * n) (get_or_append_left a b 0 4 (omega arith))

pub data_length-append : (a b : List ℕ) → header_length ≤ length a → data_length (a ++ b) ≡ data_length a
data_length-append a b h =
    rw (get_or_append_left a b 0 5 (omega arith), get_or_append_left a b 0 6 (omega arith), get_or_append_left a b 0 7 (omega arith)) refl

pub frame_length-append : (a b : List ℕ) → header_length ≤ length a → frame_length (a ++ b) ≡ frame_length a
unfolding frame_length
frame_length-append a b h =
    let additional : additional_length (a ++ b) ≡ additional_length a = additional_length-append a b h in
    let body : data_length (a ++ b) ≡ data_length a = data_length-append a b h in
    omega arith

pub has_frame-append : (a b : List ℕ) → has_frame a ≡ true → has_frame (a ++ b) ≡ true
has_frame-append a b there =
    let f = has_frame-true a there in
    let n = length-append a b in
    let body = data_length-append a b f.header in
    let all = frame_length-append a b f.header in
    has_frame-from (a ++ b) (record { header = omega (arith, f.header); taken = omega (arith, f.taken); whole = omega (arith, f.whole) })

-- the parts of a frame lie within it
body_within : (bytes : List ℕ) → header_length + additional_length bytes + data_length bytes ≤ frame_length bytes
unfolding frame_length
body_within bytes = omega arith

pub first_frame-append : (a b : List ℕ) → has_frame a ≡ true → first_frame (a ++ b) ≡ first_frame a
unfolding first_frame
first_frame-append a b there =
    let f = has_frame-true a there in
    let within = body_within a in
    let start = header_length + additional_length a in
    let header : take header_length (a ++ b) ≡ take header_length a = take-append-le header_length a b f.header in
    let behind : drop start (a ++ b) ≡ drop start a ++ b = drop-append-le start a b (omega (arith, f.whole)) in
    let body : take (data_length a) (drop start a ++ b) ≡ take (data_length a) (drop start a) =
    take-append-le (data_length a) (drop start a) b (omega (arith, f.whole, length-drop start a)) in
    let additional = additional_length-append a b f.header in
    let length = data_length-append a b f.header in
    rw (header, additional, length, behind, body) refl

pub behind-append : (a b : List ℕ) → has_frame a ≡ true → drop (frame_length (a ++ b)) (a ++ b) ≡ drop (frame_length a) a ++ b
behind-append a b there =
    let f = has_frame-true a there in
    rw (frame_length-append a b f.header) (drop-append-le (frame_length a) a b f.whole)

-- ---- long frames

pub long_is_no_frame : LongIsNoFrame
long_is_no_frame bytes long =
    let l = is_long-true bytes long in
    elim (cases_Bool (has_frame bytes)) [
      | inl there ↦
          let f = has_frame-true bytes there in
          absurd (omega (arith, l.longer, f.taken))
      | inr none ↦ none
    ]

pub long_stays : LongStays
long_stays bytes more long =
    let l = is_long-true bytes long in
    let n = length-append bytes more in
    let body = data_length-append bytes more l.header in
    is_long-from (bytes ++ more) (record { header = omega (arith, l.header); longer = omega (arith, l.longer) })

-- ---- pieces

record InPieces (a b : List ℕ) : Type 0 where
  frames_same : frames (a ++ b) ≡ frames a ++ frames (rest a ++ b)
  rest_same : rest (a ++ b) ≡ rest (rest a ++ b)

pieces_none : (a b : List ℕ) → has_frame a ≡ false → InPieces a b
pieces_none a b none =
    record { frames_same = rw (frames_none a none, rest_none a none) refl; rest_same = rw (rest_none a none) refl }

pieces_step : (a b : List ℕ) → has_frame a ≡ true → InPieces (drop (frame_length a) a) b → InPieces a b
pieces_step a b there behind =
    let both = has_frame-append a b there in
    record {
      frames_same = rw (
        frames_step (a ++ b) both,
        frames_step a there,
        rest_step a there,
        first_frame-append a b there,
        behind-append a b there,
        behind.frames_same,
      ) refl;
      rest_same = rw (rest_step (a ++ b) both, rest_step a there, behind-append a b there, behind.rest_same) refl;
    }

in_pieces : (n : ℕ) (a b : List ℕ) → length a ≤ n → InPieces a b
in_pieces zero a b le = pieces_none a b (rw (nil_from_length a (omega arith)) no_frame)
in_pieces (suc n) a b le =
    elim (cases_Bool (has_frame a)) [
      | inl there ↦
          let less = drop_shorter a there in
          pieces_step a b there (in_pieces n (drop (frame_length a) a) b (omega arith))
      | inr none ↦ pieces_none a b none
    ]

pub frames_in_pieces : FramesInPieces
frames_in_pieces a b = (in_pieces (length a) a b (omega arith)).frames_same

pub rest_in_pieces : RestInPieces
rest_in_pieces a b = (in_pieces (length a) a b (omega arith)).rest_same

-- ---- what lies in front of the rest is the spelling of the frames

pub additional_length-take : (bytes : List ℕ) → additional_length (take header_length bytes) ≡ additional_length bytes
additional_length-take bytes = ap (λ (n : ℕ). 4 * n) (get_or-take header_length bytes 4 0 (omega arith))

pub data_length-take : (bytes : List ℕ) → data_length (take header_length bytes) ≡ data_length bytes
data_length-take bytes =
    rw (
      get_or-take header_length bytes 5 0 (omega arith),
      get_or-take header_length bytes 6 0 (omega arith),
      get_or-take header_length bytes 7 0 (omega arith),
    ) refl

-- a front in four parts, one after the other
take_parts : (a b c d : ℕ) (bytes : List ℕ) → take (a + b + c + d) bytes ≡ take a bytes
    ++ (take b (drop a bytes) ++ (take c (drop (a + b) bytes) ++ take d (drop (a + b + c) bytes)))
take_parts a b c d bytes =
    rw (take-add (a + b + c) d bytes, take-add (a + b) c bytes, take-add a b bytes) (simp append_assoc)

front_spells : (bytes : List ℕ) → has_frame bytes ≡ true → Spells (first_frame bytes) (take (frame_length bytes) bytes)
unfolding first_frame frame_length
front_spells bytes there =
    let f = has_frame-true bytes there in
    let whole : header_length + additional_length bytes + padded (data_length bytes) ≤ length bytes = f.whole in
    let start = header_length + additional_length bytes in
    let n = data_length bytes in
    let sum : header_length + additional_length bytes + padded n ≡ start + n + (padded n - n) = omega arith in
    let body-len : length (take n (drop start bytes)) ≡ n = length-take-le n (drop start bytes) (omega (arith, length-drop start bytes)) in
    record {
      additional = take (additional_length bytes) (drop header_length bytes);
      padding = take (padded n - n) (drop (start + n) bytes);
      spelled = rw sum (take_parts header_length (additional_length bytes) n (padded n - n) bytes);
      header_is_whole = length-take-le header_length bytes f.header;
      additional_is_whole = length-take-le (additional_length bytes) (drop header_length bytes) (omega (arith, length-drop header_length bytes))
          ∙ sym (additional_length-take bytes);
      body_is_whole = body-len ∙ sym (data_length-take bytes);
      body_is_taken = rw body-len f.taken;
      padding_is_whole = rw body-len (omega (arith, length-take-le (padded n - n) (drop (start + n) bytes) (omega (arith, length-drop (start + n) bytes))));
    }

cut_none : (bytes : List ℕ) → has_frame bytes ≡ false → IsCut bytes (frames bytes) (rest bytes)
cut_none bytes none =
    rw (frames_none bytes none, rest_none bytes none) (record { whole = []; spelled = refl; joined = refl; ended = none })

cut_step : (bytes : List ℕ) → has_frame bytes ≡ true → IsCut (drop (frame_length bytes) bytes) (frames (drop (frame_length bytes) bytes))
    (rest (drop (frame_length bytes) bytes)) → IsCut bytes (frames bytes) (rest bytes)
cut_step bytes there behind =
    let front = take (frame_length bytes) bytes in
    let joined : bytes ≡ front ++ (behind.whole ++ rest (drop (frame_length bytes) bytes)) =
    sym (take-append-drop (frame_length bytes) bytes) ∙ ap (λ (x : List ℕ). front ++ x) behind.joined in
    rw (frames_step bytes there, rest_step bytes there) (record {
      whole = front ++ behind.whole;
      spelled = (front, behind.whole, refl, front_spells bytes there, behind.spelled);
      joined = joined ∙ sym (append_assoc front behind.whole (rest (drop (frame_length bytes) bytes)));
      ended = behind.ended;
    })

are_cut : (n : ℕ) (bytes : List ℕ) → length bytes ≤ n → IsCut bytes (frames bytes) (rest bytes)
are_cut zero bytes le = cut_none bytes (rw (nil_from_length bytes (omega arith)) no_frame)
are_cut (suc n) bytes le =
    elim (cases_Bool (has_frame bytes)) [
      | inl there ↦
          let less = drop_shorter bytes there in
          cut_step bytes there (are_cut n (drop (frame_length bytes) bytes) (omega arith))
      | inr none ↦ cut_none bytes none
    ]

pub frames_are_cut : FramesAreCut
frames_are_cut bytes = are_cut (length bytes) bytes (omega arith)

-- ---- no other frames are spelled

-- what a spelling says of itself: it is a frame, whole
record IsOneFrame (frame : Frame) (spelling : List ℕ) : Type 0 where
  there : has_frame spelling ≡ true
  first : first_frame spelling ≡ frame
  all : frame_length spelling ≡ length spelling

frame_is : (frame : Frame) (header body : List ℕ) → header ≡ frame.header → body ≡ frame.body → record { header = header; body = body } ≡ frame
frame_is frame header body h b = rw (h, b) refl

one_frame : (frame : Frame) (spelling : List ℕ) → Spells frame spelling → IsOneFrame frame spelling
unfolding first_frame frame_length
one_frame frame spelling s =
    let data_part = frame.body ++ s.padding in
    let tail = s.additional ++ data_part in
    let header-len : header_length ≤ length frame.header = omega (arith, s.header_is_whole) in
    let additional : additional_length spelling ≡ length s.additional =
    ap additional_length s.spelled ∙ (additional_length-append frame.header tail header-len ∙ sym s.additional_is_whole) in
    let body-len : data_length spelling ≡ length frame.body =
    ap data_length s.spelled ∙ (data_length-append frame.header tail header-len ∙ sym s.body_is_whole) in
    let whole : length spelling ≡ header_length + length s.additional + padded (length frame.body) =
    omega (
      arith,
      ap length s.spelled,
      length-append frame.header tail,
      length-append s.additional data_part,
      length-append frame.body s.padding,
      s.header_is_whole,
      s.padding_is_whole,
    ) in
    let all : header_length + additional_length spelling + padded (data_length spelling) ≡ length spelling =
    rw (additional, body-len) (sym whole) in
    let header : take header_length spelling ≡ frame.header = rw s.spelled (take_at frame.header tail header_length s.header_is_whole) in
    let behind : drop (header_length + length s.additional) spelling ≡ data_part =
    rw (s.spelled, ← append_assoc frame.header s.additional data_part)
    (drop_at (frame.header ++ s.additional) data_part (header_length + length s.additional)
    (omega (arith, length-append frame.header s.additional, s.header_is_whole))) in
    let body : take (length frame.body) data_part ≡ frame.body = take_at frame.body s.padding (length frame.body) refl in
    record {
      there = has_frame-from spelling (record { header = omega (arith, whole); taken = omega (arith, body-len, s.body_is_taken); whole = omega (arith, all) });
      first = rw (additional, body-len) (frame_is frame _ _ header (rw behind body));
      all = all;
    }

-- a spelling in front is the first frame, and what follows it the bytes after
record IsFront (frame : Frame) (spelling more : List ℕ) : Type 0 where
  there : has_frame (spelling ++ more) ≡ true
  first : first_frame (spelling ++ more) ≡ frame
  behind : drop (frame_length (spelling ++ more)) (spelling ++ more) ≡ more

front : (frame : Frame) (spelling more : List ℕ) → Spells frame spelling → IsFront frame spelling more
front frame spelling more s =
    let one = one_frame frame spelling s in
    let f = has_frame-true spelling one.there in
    record {
      there = has_frame-append spelling more one.there;
      first = first_frame-append spelling more one.there ∙ one.first;
      behind = rw (frame_length-append spelling more f.header, one.all) (drop_at spelling more (length spelling) refl);
    }

-- what is cut is the frames, with the rest
record IsTheCut (bytes : List ℕ) (cut : List Frame) (remaining : List ℕ) : Type 0 where
  frames_same : cut ≡ frames bytes
  rest_same : remaining ≡ rest bytes

the_cut : (cut : List Frame) (whole remaining : List ℕ) → AreSpelled cut whole → has_frame remaining ≡ false → IsTheCut (whole ++ remaining) cut remaining
the_cut [] whole remaining spelled ended =
    rw spelled (record { frames_same = sym (frames_none remaining ended); rest_same = sym (rest_none remaining ended) })
the_cut (frame ∷ others) whole remaining (spelling, more, joined, spells, spelled) ended =
    let behind = the_cut others more remaining spelled ended in
    let f = front frame spelling (more ++ remaining) spells in
    rw (joined, append_assoc spelling more remaining) (record {
      frames_same = rw (frames_step (spelling ++ (more ++ remaining)) f.there, f.first, f.behind, ← behind.frames_same) refl;
      rest_same = rw (rest_step (spelling ++ (more ++ remaining)) f.there, f.behind) behind.rest_same;
    })

pub only_frames : OnlyFrames
only_frames bytes cut remaining c = rw c.joined (the_cut cut c.whole remaining c.spelled c.ended).frames_same

pub only_rest : OnlyRest
only_rest bytes cut remaining c = rw c.joined (the_cut cut c.whole remaining c.spelled c.ended).rest_same
