-- A Data-Out whose data nobody needs (RFC 7143 §11.7): its header and the number of its bytes are kept.
use Rattle.std.specs.Prelude.{◌≡◌, ◌<◌, ℕ, List, [], ◌∷◌, ◌++◌, length, true, false}
use Rattle.call_record.specs.Noted.{Noted}
use Rattle.iscsi_pdu.specs.Header.{header_length}
use Rattle.iscsi_pdu.specs.Frames.{has_frame, is_long}
use Rattle.iscsi_pdu.specs.Parts.{is_data_out, shown}

-- the bytes of these notes, of which the newest comes first
abbrev pub bytes_noted : List Noted → List ℕ
bytes_noted [] = []
bytes_noted (note ∷ notes) = bytes_noted notes ++ note.bytes

-- own: a Data-Out is half read, and bytes have come after its header
pub record IsHalfRead (bytes : List ℕ) : Type 0 where
  pub out : is_data_out bytes ≡ true
  pub short : is_long bytes ≡ false
  pub begun : header_length < length bytes
  pub part : has_frame bytes ≡ false

-- own: a framer counts these bytes of a half-read Data-Out
pub record IsCounted (framer bytes : List ℕ) : Type 0 where
  pub half : IsHalfRead bytes
  pub shows : framer ≡ shown bytes

-- own: this header and these bytes after it are a whole Data-Out
pub record IsWhole (header after : List ℕ) : Type 0 where
  pub long : length header ≡ header_length
  pub out : is_data_out (header ++ after) ≡ true
  pub whole : has_frame (header ++ after) ≡ true
