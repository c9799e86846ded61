-- A connection's bytes as frames (RFC 7143 §11.1 and §11.2): header, additional header, data segment, padding.
use Rattle.std.specs.Prelude.{◌≡◌, ℕ, zero, suc, ◌+◌, ◌-◌, ◌≤◌, max, List, [], ◌∷◌, ◌++◌, length, take, drop, Bool, ◌&&◌, nat_lt, nat_le, if◌then◌else◌}
use Rattle.iscsi_pdu.specs.Header.{header_length, additional_length, data_length}
use Rattle.iscsi_pdu.specs.Segment.{most_data, padded}

-- RFC 7143 §11.2: the relevant parts of a PDU, its header and its data segment
pub record Frame : Type 0 where
  pub header : List ℕ
  pub body : List ℕ

-- RFC 7143 §11.2: the length that the header at the front of the bytes gives its frame
unfoldable pub frame_length : List ℕ → ℕ
frame_length bytes = header_length + additional_length bytes + padded (data_length bytes)

-- a header is whole
abbrev pub has_header : List ℕ → Bool
has_header bytes = nat_le header_length (length bytes)

-- profile: a whole header that names more data than is accepted
unfoldable pub is_long : List ℕ → Bool
is_long bytes = has_header bytes && nat_lt most_data (data_length bytes)

-- RFC 7143 §11.2: the bytes begin with a whole frame
unfoldable pub has_frame : List ℕ → Bool
has_frame bytes = has_header bytes && nat_le (data_length bytes) most_data && nat_le (frame_length bytes) (length bytes)

-- RFC 7143 §11.2: that frame; the additional header and the pad bytes are skipped
unfoldable pub first_frame : List ℕ → Frame
first_frame bytes = record { header = take header_length bytes; body = take (data_length bytes) (drop (header_length + additional_length bytes) bytes) }

-- the whole frames in front, in order: at most n
abbrev pub frames_within : ℕ → List ℕ → List Frame
frames_within zero bytes = []
frames_within (suc n) bytes = if has_frame bytes then first_frame bytes ∷ frames_within n (drop (frame_length bytes) bytes) else []

-- the whole frames of a connection's bytes, of which there are no more than bytes
unfoldable pub frames : List ℕ → List Frame
frames bytes = frames_within (length bytes) bytes

-- the bytes after them
abbrev pub rest_within : ℕ → List ℕ → List ℕ
rest_within zero bytes = bytes
rest_within (suc n) bytes = if has_frame bytes then rest_within n (drop (frame_length bytes) bytes) else bytes

-- the bytes after the whole frames, which begin with no frame
unfoldable pub rest : List ℕ → List ℕ
rest bytes = rest_within (length bytes) bytes

-- profile: how many bytes are missing of the header, then of its frame
unfoldable pub missing : List ℕ → ℕ
missing bytes = if has_header bytes then frame_length bytes - length bytes else header_length - length bytes

-- profile: how many bytes to read for the header or for its frame, at least 1
abbrev pub wanted : List ℕ → ℕ
wanted bytes = max 1 (missing bytes)

-- RFC 7143 §11.1 and §11.2: the bytes spell the frame, with additional bytes and pad bytes of any value
pub record Spells (frame : Frame) (bytes : List ℕ) : Type 0 where
  pub additional : List ℕ
  pub padding : List ℕ
  pub spelled : bytes ≡ frame.header ++ (additional ++ (frame.body ++ padding))
  pub header_is_whole : length frame.header ≡ header_length
  pub additional_is_whole : length additional ≡ additional_length frame.header
  pub body_is_whole : length frame.body ≡ data_length frame.header
  pub body_is_taken : length frame.body ≤ most_data
  pub padding_is_whole : length frame.body + length padding ≡ padded (length frame.body)

-- the bytes are the spellings of the frames, joined
abbrev pub AreSpelled : List Frame → List ℕ → Type 0
AreSpelled [] bytes = bytes ≡ []
AreSpelled (frame ∷ others) bytes = (spelling : List ℕ) × (more : List ℕ) × (bytes ≡ spelling ++ more) × Spells frame spelling × AreSpelled others more
