-- Laws of the frames of bytes, for any bytes.
use Rattle.std.specs.Prelude.{◌≡◌, ℕ, ◌<◌, List, [], ◌∷◌, ◌++◌, length, drop, true, false}
use Rattle.iscsi_pdu.specs.Frames.{Frame, is_long, has_frame, frame_length, first_frame, frames, rest, AreSpelled}
use Rattle.iscsi_pdu.specs.Parts.{Call, AreCalls, bytes_used, bytes_left, joined, parts_given, shown}

-- the bytes are the spellings of these frames, and then less than a whole frame
pub record IsCut (bytes : List ℕ) (cut : List Frame) (remaining : List ℕ) : Type 0 where
  pub whole : List ℕ
  pub spelled : AreSpelled cut whole
  pub joined : bytes ≡ whole ++ remaining
  pub ended : has_frame remaining ≡ false

-- a frame at the front is the first frame
abbrev pub FirstFrame : Type 0
FirstFrame = (bytes : List ℕ) → has_frame bytes ≡ true → frames bytes ≡ first_frame bytes ∷ frames (drop (frame_length bytes) bytes)

-- the first frame does not change the rest
abbrev pub FirstRest : Type 0
FirstRest = (bytes : List ℕ) → has_frame bytes ≡ true → rest (drop (frame_length bytes) bytes) ≡ rest bytes

-- the bytes after the first frame are fewer
abbrev pub FirstIsShorter : Type 0
FirstIsShorter = (bytes : List ℕ) → has_frame bytes ≡ true → length (drop (frame_length bytes) bytes) < length bytes

-- without a frame at the front there is no frame
abbrev pub NoFrames : Type 0
NoFrames = (bytes : List ℕ) → has_frame bytes ≡ false → frames bytes ≡ []

-- without a frame at the front all bytes are the rest
abbrev pub NoFrameRest : Type 0
NoFrameRest = (bytes : List ℕ) → has_frame bytes ≡ false → rest bytes ≡ bytes

-- a long frame is no frame
abbrev pub LongIsNoFrame : Type 0
LongIsNoFrame = (bytes : List ℕ) → is_long bytes ≡ true → has_frame bytes ≡ false

-- a long frame stays long, whatever follows
abbrev pub LongStays : Type 0
LongStays = (bytes more : List ℕ) → is_long bytes ≡ true → is_long (bytes ++ more) ≡ true

-- the frames of a piece and of what follows it are the frames of both together
abbrev pub FramesInPieces : Type 0
FramesInPieces = (bytes more : List ℕ) → frames (bytes ++ more) ≡ frames bytes ++ frames (rest bytes ++ more)

-- a piece and what follows it leave the same rest as both together
abbrev pub RestInPieces : Type 0
RestInPieces = (bytes more : List ℕ) → rest (bytes ++ more) ≡ rest (rest bytes ++ more)

-- the frames and the rest are such a cut
abbrev pub FramesAreCut : Type 0
FramesAreCut = (bytes : List ℕ) → IsCut bytes (frames bytes) (rest bytes)

-- each cut has these frames
abbrev pub OnlyFrames : Type 0
OnlyFrames = (bytes : List ℕ) (cut : List Frame) (remaining : List ℕ) → IsCut bytes cut remaining → cut ≡ frames bytes

-- each cut has this rest
abbrev pub OnlyRest : Type 0
OnlyRest = (bytes : List ℕ) (cut : List Frame) (remaining : List ℕ) → IsCut bytes cut remaining → remaining ≡ rest bytes

-- the parts given, put together, are the frames of the bytes used, if no PDU is whole whose end is still to be given
abbrev pub PartsAreFrames : Type 0
PartsAreFrames = (calls : List Call) → AreCalls [] calls → has_frame (bytes_left [] calls) ≡ false
    → joined [] (parts_given calls) ≡ frames (bytes_used calls)

-- the bytes left are then the rest of the bytes used, with zeros in place of what was lent
abbrev pub LeftIsTheRest : Type 0
LeftIsTheRest = (calls : List Call) → AreCalls [] calls → has_frame (bytes_left [] calls) ≡ false
    → bytes_left [] calls ≡ shown (rest (bytes_used calls))
