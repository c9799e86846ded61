-- The end of a SCSI command (RFC 7143 §11.4).
use Rattle.std.specs.Prelude.{ℕ, ◌+◌, List, [], ◌∷◌, ◌++◌, length, replicate, Option, Some, None}
use Rattle.byteorder.specs.Endian.{big_bytes}
use Rattle.iscsi_pdu.specs.Segment.{segment}
use Rattle.iscsi_pdu.specs.Stamp.{stamp_bytes}
use Rattle.iscsi_pdu.specs.declared.scsi_response.Residual.{Residual}
use Rattle.iscsi_pdu.specs.declared.scsi_response.Residual.TheVariants as residuals
use Rattle.iscsi_pdu.specs.declared.scsi_response.ScsiResponse.{ScsiResponse}

-- RFC 7143 §11.4.1: O and U, bits 5 and 6 of byte 1
abbrev pub residual_flags : Residual → ℕ
residual_flags residuals.None = 0x00
residual_flags (residuals.Overflow count) = 0x04
residual_flags (residuals.Underflow count) = 0x02

-- RFC 7143 §11.4.5
abbrev pub residual_count : Residual → ℕ
residual_count residuals.None = 0
residual_count (residuals.Overflow count) = count
residual_count (residuals.Underflow count) = count

-- RFC 7143 §11.4.7: SenseLength, then the sense data
abbrev pub sense_segment : Option (List ℕ) → List ℕ
sense_segment None = []
sense_segment (Some sense) = big_bytes 2 (length sense) ++ sense

-- RFC 7143 §11.4: bit 0 of byte 1 is set, and the response is 00h, command completed at target
abbrev pub scsi_response_header : ScsiResponse → List ℕ
scsi_response_header r =
    (0x21 ∷ (0x80 + residual_flags r.residual) ∷ 0x00 ∷ r.status ∷ 0 ∷ [])
    ++ big_bytes 3 (length (sense_segment r.sense)) ++ replicate 8 0 ++ big_bytes 4 r.initiator_task_tag ++ replicate 4 0
    ++ stamp_bytes r.stamp ++ big_bytes 4 r.exp_data_sn ++ replicate 4 0 ++ big_bytes 4 (residual_count r.residual)

-- RFC 7143 §11.4: the header, and the sense data as its data segment
abbrev pub scsi_response_bytes : ScsiResponse → List ℕ
scsi_response_bytes r = scsi_response_header r ++ segment (sense_segment r.sense)
