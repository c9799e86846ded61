-- The bytes that a framer keeps.
use Rattle.std.specs.Prelude.{◌≡◌, ◌<◌, ◌≤◌, ℕ, List, [], length, true, false, Option, None, Some, ⊤}
use Rattle.iscsi_pdu.specs.Frames.{Frame, has_frame, is_long, first_frame, frame_length}
use Rattle.iscsi_pdu.specs.declared.part.Part.{Part}
use Rattle.iscsi_pdu.specs.declared.part.Part.TheVariants as parts

-- own: the first n bytes, or all if there are fewer, and the bytes after them
pub record IsSplit (n : ℕ) (front behind : List ℕ) : Type 0 where
  pub short : length front ≤ n
  pub whole : length front < n → behind ≡ []

-- own: data that is lent is not empty
abbrev pub LendsSome : Part → Type 0
LendsSome parts.Nothing = ⊤
LendsSome (parts.Frame frame) = ⊤
LendsSome (parts.Data header lent) = 0 < length lent.now
LendsSome (parts.End header) = ⊤

-- own: these are bytes of one PDU, if its header names no more data than it may
abbrev pub HoldsNoMore : List ℕ → Type 0
HoldsNoMore bytes = is_long bytes ≡ false → length bytes ≤ frame_length bytes

-- own: these bytes are one frame
pub record IsWholly (frame : Frame) (bytes : List ℕ) : Type 0 where
  pub whole : has_frame bytes ≡ true
  pub exact : length bytes ≡ frame_length bytes
  pub first : first_frame bytes ≡ frame

-- own: the part that a frame is
abbrev pub part_of : Option Frame → Part
part_of None = parts.Nothing
part_of (Some frame) = parts.Frame frame
