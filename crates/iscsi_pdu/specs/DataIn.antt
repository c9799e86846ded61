-- A piece of the data that a command returns to its initiator (RFC 7143 §11.7).
use Rattle.std.specs.Prelude.{ℕ, List, [], ◌∷◌, ◌++◌, length, replicate, Bool, if◌then◌else◌}
use Rattle.byteorder.specs.Endian.{big_bytes}
use Rattle.iscsi_pdu.specs.Segment.{segment}

-- the fields of a SCSI Data-In
pub record DataInFields : Type 0 where
  pub is_final : Bool
  pub initiator_task_tag : ℕ
  pub exp_cmd_sn : ℕ
  pub max_cmd_sn : ℕ
  pub data_sn : ℕ
  pub buffer_offset : ℕ
  pub body : List ℕ

-- RFC 7143 §11.7: F is bit 7 of byte 1, and A, O, U and S are 0. The Target Transfer Tag FFFFFFFFh asks for no
-- acknowledgement. StatSN, bytes 24 to 27, and the residual count are 0 if there is no status.
abbrev pub data_in_header : DataInFields → List ℕ
data_in_header d =
    (0x25 ∷ (if d.is_final then 0x80 else 0) ∷ 0 ∷ 0 ∷ 0 ∷ []) ++ big_bytes 3 (length d.body)
    ++ replicate 8 0 ++ big_bytes 4 d.initiator_task_tag ++ replicate 4 0xff
    ++ replicate 4 0 ++ big_bytes 4 d.exp_cmd_sn ++ big_bytes 4 d.max_cmd_sn ++ big_bytes 4 d.data_sn ++ big_bytes 4 d.buffer_offset ++ replicate 4 0

-- RFC 7143 §11.7: the header, and the data as its data segment
abbrev pub data_in_bytes : DataInFields → List ℕ
data_in_bytes d = data_in_header d ++ segment d.body
