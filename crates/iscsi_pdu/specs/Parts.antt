-- What a framer gives of a piece, if the data of a Data-Out (RFC 7143 §11.7) is lent while its PDU arrives.
use Rattle.std.specs.Prelude.{◌≡◌, ℕ, ◌+◌, ◌-◌, ◌<◌, ◌≤◌, List, [], ◌∷◌, ◌++◌, length, take, drop, map, replicate, Bool, true, false, ◌&&◌, ◌==◌, if◌then◌else◌, ⊤}
use Rattle.iscsi_pdu.specs.Header.{header_length, opcode_number, additional_length, data_length}
use Rattle.iscsi_pdu.specs.Frames.{Frame, has_header, has_frame, first_frame, frame_length}
use Rattle.iscsi_pdu.specs.declared.part.Part.{Part}
use Rattle.iscsi_pdu.specs.declared.part.Part.TheVariants as parts

-- RFC 7143 §11.7: the bytes begin with the header of a Data-Out
unfoldable pub is_data_out : List ℕ → Bool
is_data_out bytes = has_header bytes && opcode_number bytes == 0x05

-- RFC 7143 §11.7: what has come of its data
unfoldable pub data_so_far : List ℕ → List ℕ
data_so_far bytes = if is_data_out bytes then take (data_length bytes) (drop (header_length + additional_length bytes) bytes) else []

-- own: the number of the bytes after its header is kept, and zeros stand for them
unfoldable pub shown : List ℕ → List ℕ
shown bytes = if is_data_out bytes then take header_length bytes ++ replicate (length bytes - header_length) 0 else bytes

-- no more than one Data-Out is kept, and of any other PDU less than all
pub record HoldsOne (bytes : List ℕ) : Type 0 where
  pub lent : is_data_out bytes ≡ true → length bytes ≤ frame_length bytes
  pub kept : is_data_out bytes ≡ false → has_frame bytes ≡ false

-- with the bytes used no PDU is whole, and no data came
pub record Waits (before bytes after : List ℕ) : Type 0 where
  pub none : has_frame bytes ≡ false
  pub same : data_so_far bytes ≡ data_so_far before
  pub left : after ≡ shown bytes

-- with the bytes used a PDU that is no Data-Out is just whole
pub record Gives (frame : Frame) (bytes after : List ℕ) : Type 0 where
  pub other : is_data_out bytes ≡ false
  pub whole : has_frame bytes ≡ true
  pub exact : length bytes ≡ frame_length bytes
  pub first : frame ≡ first_frame bytes
  pub left : after ≡ []

-- the bytes used bring the next data of a Data-Out
pub record Lends (header lent before bytes after : List ℕ) : Type 0 where
  pub some : length before < length bytes
  pub out : is_data_out bytes ≡ true
  pub header_is : header ≡ take header_length bytes
  pub data_is : data_so_far bytes ≡ data_so_far before ++ lent
  pub left : after ≡ shown bytes

-- with the bytes used a Data-Out is just whole, and no data came
pub record Ends (header before bytes after : List ℕ) : Type 0 where
  pub out : is_data_out bytes ≡ true
  pub whole : has_frame bytes ≡ true
  pub exact : length bytes ≡ frame_length bytes
  pub header_is : header ≡ take header_length bytes
  pub same : data_so_far bytes ≡ data_so_far before
  pub left : after ≡ []

-- what is given if these bytes become those by the ones used, and what is left of them
abbrev pub Brings : List ℕ → List ℕ → Part → List ℕ → Type 0
Brings before bytes parts.Nothing after = Waits before bytes after
Brings before bytes (parts.Frame frame) after = Gives frame bytes after
Brings before bytes (parts.Data header lent) after = Lends header lent.now before bytes after
Brings before bytes (parts.End header) after = Ends header before bytes after

-- no more is used than the piece has; all of it, if nothing is given
abbrev pub IsUsed : Part → ℕ → List ℕ → Type 0
IsUsed parts.Nothing used piece = used ≡ length piece
IsUsed (parts.Frame frame) used piece = used ≤ length piece
IsUsed (parts.Data header lent) used piece = used ≤ length piece
IsUsed (parts.End header) used piece = used ≤ length piece

-- what is given of a piece that comes after these bytes, how much of it is used, and the bytes left
pub record Takes (before piece : List ℕ) (used : ℕ) (part : Part) (after : List ℕ) : Type 0 where
  pub used_is : IsUsed part used piece
  pub brings : Brings before (before ++ take used piece) part after

-- ---- the parts put together

-- a call: the piece that it had, how much of it was used, what was given, and the bytes left
pub record Call : Type 0 where
  pub piece : List ℕ
  pub used : ℕ
  pub part : Part
  pub after : List ℕ

-- calls one after the other, the first of them after these bytes
abbrev pub AreCalls : List ℕ → List Call → Type 0
AreCalls before [] = ⊤
AreCalls before (call ∷ calls) = Takes before call.piece call.used call.part call.after × AreCalls call.after calls

-- the bytes that the calls used
abbrev pub bytes_used : List Call → List ℕ
bytes_used [] = []
bytes_used (call ∷ calls) = take call.used call.piece ++ bytes_used calls

-- the bytes left after the calls
abbrev pub bytes_left : List ℕ → List Call → List ℕ
bytes_left before [] = before
bytes_left before (call ∷ calls) = bytes_left call.after calls

-- the frames that the parts make, after this data of a Data-Out
abbrev pub joined : List ℕ → List Part → List Frame
joined data_before [] = []
joined data_before (parts.Nothing ∷ more) = joined data_before more
joined data_before (parts.Frame frame ∷ more) = frame ∷ joined [] more
joined data_before (parts.Data header lent ∷ more) = joined (data_before ++ lent.now) more
joined data_before (parts.End header ∷ more) = record { header = header; body = data_before } ∷ joined [] more

-- the parts that the calls gave
abbrev pub parts_given : List Call → List Part
parts_given calls = map (λ call. call.part) calls
