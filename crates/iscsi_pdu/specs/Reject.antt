-- The refusal of a PDU (RFC 7143 §11.17).
use Rattle.std.specs.Prelude.{ℕ, List, [], ◌∷◌, ◌++◌, length, replicate}
use Rattle.byteorder.specs.Endian.{big_bytes}
use Rattle.iscsi_pdu.specs.Segment.{segment}
use Rattle.iscsi_pdu.specs.Stamp.{stamp_bytes}
use Rattle.iscsi_pdu.specs.declared.reject.RejectReason.{RejectReason}
use Rattle.iscsi_pdu.specs.declared.reject.RejectReason.TheVariants as reasons
use Rattle.iscsi_pdu.specs.declared.reject.Reject.{Reject}

-- RFC 7143 §11.17.1: the reason, byte 2
abbrev pub reject_code : RejectReason → ℕ
reject_code reasons.Snack = 0x03
reject_code reasons.CommandNotSupported = 0x05
reject_code reasons.TooManyImmediate = 0x06
reject_code reasons.InvalidField = 0x09

-- RFC 7143 §11.17: bit 0 of byte 1 is set, and FFFFFFFFh is in the place of the Initiator Task Tag
abbrev pub reject_header : Reject → List ℕ
reject_header r =
    (0x3f ∷ 0x80 ∷ reject_code r.reason ∷ 0 ∷ 0 ∷ []) ++ big_bytes 3 (length r.header)
    ++ replicate 8 0 ++ replicate 4 0xff ++ replicate 4 0
    ++ stamp_bytes r.stamp ++ replicate 12 0

-- RFC 7143 §11.17.4: the header, and that of the refused PDU as its data segment
abbrev pub reject_bytes : Reject → List ℕ
reject_bytes r = reject_header r ++ segment r.header
