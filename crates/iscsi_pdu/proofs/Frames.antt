-- How frames are cut from the front of bytes, and that it does not matter in which pieces they came.
use Rattle.std.proofs.Common.{◌≡◌, ℕ, zero, suc, ◌<◌, ◌≤◌, true, false, List, [], ◌∷◌, length, drop, refl, sym, ◌∙◌, inl, inr, arith, length-drop}
use Rattle.std.proofs.lemmas.Bool.{leb-true, ltb-true, le-leb, lt-ltb, and_parts, and_from, cases_Bool}
use Rattle.std.proofs.lemmas.List.{nil_from_length}
use Rattle.iscsi_pdu.specs.Header.{header_length, data_length}
use Rattle.iscsi_pdu.specs.Segment.{most_data}
use Rattle.iscsi_pdu.specs.Frames.{Frame, is_long, has_frame, frame_length, first_frame, frames_within, frames, rest_within, rest}

-- what it says that bytes begin with a frame
pub record HasFrame (bytes : List ℕ) : Type 0 where
  pub header : header_length ≤ length bytes
  pub taken : data_length bytes ≤ most_data
  pub whole : frame_length bytes ≤ length bytes

pub has_frame-true : (bytes : List ℕ) → has_frame bytes ≡ true → HasFrame bytes
unfolding has_frame
has_frame-true bytes h =
    let outer = and_parts _ _ h in
    let inner = and_parts _ _ outer.0 in
    record { header = leb-true _ _ inner.0; taken = leb-true _ _ inner.1; whole = leb-true _ _ outer.1 }

pub has_frame-from : (bytes : List ℕ) → HasFrame bytes → has_frame bytes ≡ true
unfolding has_frame
has_frame-from bytes h =
    and_from _ _ (and_from _ _ (le-leb _ _ h.header) (le-leb _ _ h.taken)) (le-leb _ _ h.whole)

-- what it says that bytes begin with a header that names too much data
pub record IsLong (bytes : List ℕ) : Type 0 where
  pub header : header_length ≤ length bytes
  pub longer : most_data < data_length bytes

pub is_long-true : (bytes : List ℕ) → is_long bytes ≡ true → IsLong bytes
unfolding is_long
is_long-true bytes h =
    let both = and_parts _ _ h in
    record { header = leb-true _ _ both.0; longer = ltb-true _ _ both.1 }

pub is_long-from : (bytes : List ℕ) → IsLong bytes → is_long bytes ≡ true
unfolding is_long
is_long-from bytes h = and_from _ _ (le-leb _ _ h.header) (lt-ltb _ _ h.longer)

-- a frame has at least its header
pub frame_length-header : (bytes : List ℕ) → header_length ≤ frame_length bytes
unfolding frame_length
frame_length-header bytes = omega arith

-- what is left after a frame is shorter
pub drop_shorter : (bytes : List ℕ) → has_frame bytes ≡ true → length (drop (frame_length bytes) bytes) < length bytes
drop_shorter bytes h =
    let f = has_frame-true bytes h in
    omega (arith, length-drop (frame_length bytes) bytes, frame_length-header bytes, f.header, f.whole)

pub no_frame : has_frame [] ≡ false
unfolding has_frame
no_frame = refl

-- ---- fuel: as much as there are bytes is enough

pub frames_within-enough : (n m : ℕ) (bytes : List ℕ) → length bytes ≤ n → length bytes ≤ m → frames_within n bytes ≡ frames_within m bytes
frames_within-enough zero zero bytes p q = refl
frames_within-enough zero (suc m) bytes p q = rw (nil_from_length bytes (omega arith), no_frame) refl
frames_within-enough (suc n) zero bytes p q = rw (nil_from_length bytes (omega arith), no_frame) refl
frames_within-enough (suc n) (suc m) bytes p q =
    elim (cases_Bool (has_frame bytes)) [
      | inl there ↦
          let less = drop_shorter bytes there in
          let same = frames_within-enough n m (drop (frame_length bytes) bytes) (omega arith) (omega arith) in
          rw (there, same) refl
      | inr none ↦ rw none refl
    ]

pub rest_within-enough : (n m : ℕ) (bytes : List ℕ) → length bytes ≤ n → length bytes ≤ m → rest_within n bytes ≡ rest_within m bytes
rest_within-enough zero zero bytes p q = refl
rest_within-enough zero (suc m) bytes p q = rw (nil_from_length bytes (omega arith), no_frame) refl
rest_within-enough (suc n) zero bytes p q = rw (nil_from_length bytes (omega arith), no_frame) refl
rest_within-enough (suc n) (suc m) bytes p q =
    elim (cases_Bool (has_frame bytes)) [
      | inl there ↦
          let less = drop_shorter bytes there in
          let same = rest_within-enough n m (drop (frame_length bytes) bytes) (omega arith) (omega arith) in
          rw (there, same) refl
      | inr none ↦ rw none refl
    ]

-- ---- one step

-- with fuel for one more byte than there are
frames-suc : (bytes : List ℕ) → frames bytes ≡ frames_within (suc (length bytes)) bytes
unfolding frames
frames-suc bytes = frames_within-enough (length bytes) (suc (length bytes)) bytes (omega arith) (omega arith)

rest-suc : (bytes : List ℕ) → rest bytes ≡ rest_within (suc (length bytes)) bytes
unfolding rest
rest-suc bytes = rest_within-enough (length bytes) (suc (length bytes)) bytes (omega arith) (omega arith)

-- the first frame is the one in front, and the others are those after it
pub frames_step : (bytes : List ℕ) → has_frame bytes ≡ true → frames bytes ≡ first_frame bytes ∷ frames (drop (frame_length bytes) bytes)
unfolding frames
frames_step bytes there =
    let behind = drop (frame_length bytes) bytes in
    let less = drop_shorter bytes there in
    let same = frames_within-enough (length bytes) (length behind) behind (omega arith) (omega arith) in
    frames-suc bytes ∙ rw (there, same) refl

pub rest_step : (bytes : List ℕ) → has_frame bytes ≡ true → rest bytes ≡ rest (drop (frame_length bytes) bytes)
unfolding rest
rest_step bytes there =
    let behind = drop (frame_length bytes) bytes in
    let less = drop_shorter bytes there in
    let same = rest_within-enough (length bytes) (length behind) behind (omega arith) (omega arith) in
    rest-suc bytes ∙ rw (there, same) refl

pub frames_none : (bytes : List ℕ) → has_frame bytes ≡ false → frames bytes ≡ []
frames_none bytes none = frames-suc bytes ∙ rw none refl

pub rest_none : (bytes : List ℕ) → has_frame bytes ≡ false → rest bytes ≡ bytes
rest_none bytes none = rest-suc bytes ∙ rw none refl

-- the same for a frame and the bytes after it under other names
pub frames_taken : (bytes after : List ℕ) (frame : Frame) → has_frame bytes ≡ true → first_frame bytes ≡ frame
    → after ≡ drop (frame_length bytes) bytes → frames bytes ≡ frame ∷ frames after
frames_taken bytes after frame there first behind = frames_step bytes there ∙ rw (first, behind) refl

pub rest_taken : (bytes after : List ℕ) → has_frame bytes ≡ true → after ≡ drop (frame_length bytes) bytes → rest after ≡ rest bytes
rest_taken bytes after there behind = rw behind (sym (rest_step bytes there))
