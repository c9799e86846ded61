-- The target asks for data of a command: Ready To Transfer (RFC 7143 §11.8).
use Rattle.std.specs.Prelude.{ℕ, List, [], ◌∷◌, ◌++◌, replicate}
use Rattle.byteorder.specs.Endian.{big_bytes}
use Rattle.iscsi_pdu.specs.Stamp.{stamp_bytes}
use Rattle.iscsi_pdu.specs.declared.r2t.R2t.{R2t}

-- RFC 7143 §11.8: bit 0 of byte 1 is set
abbrev pub r2t_header : R2t → List ℕ
r2t_header r =
    (0x31 ∷ 0x80 ∷ []) ++ replicate 6 0 ++ r.lun ++ big_bytes 4 r.initiator_task_tag ++ big_bytes 4 r.target_transfer_tag
    ++ stamp_bytes r.stamp ++ big_bytes 4 r.r2t_sn ++ big_bytes 4 r.buffer_offset ++ big_bytes 4 r.desired_length

-- RFC 7143 §11.8: the header; no data segment
abbrev pub r2t_bytes : R2t → List ℕ
r2t_bytes r = r2t_header r
