-- The answer to a NOP-Out (RFC 7143 §11.19).
use Rattle.std.specs.Prelude.{ℕ, List, [], ◌∷◌, ◌++◌, length, replicate}
use Rattle.byteorder.specs.Endian.{big_bytes}
use Rattle.iscsi_pdu.specs.Segment.{segment}
use Rattle.iscsi_pdu.specs.Stamp.{stamp_bytes}
use Rattle.iscsi_pdu.specs.declared.stamp.Stamp.{Stamp}

-- the fields of a NOP-In
pub record NopInFields : Type 0 where
  pub initiator_task_tag : ℕ
  pub stamp : Stamp
  pub body : List ℕ

-- RFC 7143 §11.19: bit 0 of byte 1 is set. The Target Transfer Tag FFFFFFFFh asks for no answer, and the LUN with it
-- is 0.
abbrev pub nop_in_header : NopInFields → List ℕ
nop_in_header n =
    (0x20 ∷ 0x80 ∷ 0 ∷ 0 ∷ 0 ∷ []) ++ big_bytes 3 (length n.body)
    ++ replicate 8 0 ++ big_bytes 4 n.initiator_task_tag ++ replicate 4 0xff
    ++ stamp_bytes n.stamp ++ replicate 12 0

-- RFC 7143 §11.19: the header, and the returned data as its data segment
abbrev pub nop_in_bytes : NopInFields → List ℕ
nop_in_bytes n = nop_in_header n ++ segment n.body
