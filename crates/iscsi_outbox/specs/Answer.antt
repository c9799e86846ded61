-- The answer to a command that returns data: its SCSI Data-Ins (RFC 7143 §11.7) and a last PDU after them.
use Rattle.std.specs.Prelude.{◌≡◌, ◌≤◌, ℕ, ◌%◌, min, List, ◌++◌, length, map, Bool, ◌&&◌, ◌==◌}
use Rattle.std.specs.List.{flat_map, enumerate_from}
use Rattle.iscsi_pdu.specs.DataIn.{DataInFields, data_in_header}
use Rattle.iscsi_pdu.specs.Answer.{spelling}
use Rattle.iscsi_pdu.specs.Segment.{most_data}
use Rattle.iscsi_login.specs.declared.values.Values.{Values}
use Rattle.iscsi_pdu.specs.declared.answer.Answer.{Answer}
use Rattle.iscsi_pdu.specs.declared.answer.Answer.TheVariants as answers
use Rattle.iscsi_transfer.specs.DataIn.{pieces_of, part_of}
use Rattle.iscsi_transfer.specs.declared.data_in.Piece.{Piece}
use Rattle.iscsi_outbox.specs.declared.shared.SharedFields.{SharedFields}
use Rattle.iscsi_outbox.specs.declared.limits.Limits.{Limits}

-- the fields of the Data-In that carries this piece, with these bytes; its DataSN is its place among those of its
-- command (§11.7.5)
abbrev pub fields_with : SharedFields → List ℕ → ℕ × Piece → DataInFields
fields_with shared body (number, piece) = record {
  is_final = piece.is_final;
  initiator_task_tag = shared.initiator_task_tag;
  exp_cmd_sn = shared.exp_cmd_sn;
  max_cmd_sn = shared.max_cmd_sn;
  data_sn = number;
  buffer_offset = piece.offset;
  body = body;
}

-- these, of a piece of this data
abbrev pub fields_of : SharedFields → List ℕ → ℕ × Piece → DataInFields
fields_of shared bytes piece = fields_with shared (part_of bytes piece.1) piece

abbrev pub data_in : SharedFields → List ℕ → ℕ × Piece → Answer
data_in shared bytes piece = answers.DataIn (fields_of shared bytes piece)

-- RFC 7143 §13.12, §13.13: a session's MaxBurstLength, and its initiator's MaxRecvDataSegmentLength
abbrev pub limits_of : Values → Limits
limits_of values = record { burst = values.max_burst_length; segment = values.max_recv_data_segment_length }

-- RFC 7143 §11.1: no piece but the last has padding
abbrev pub is_aligned : Limits → Bool
is_aligned limits = limits.burst % 4 == 0 && limits.segment % 4 == 0

pub record AreAligned (limits : Limits) : Type 0 where
  pub burst : 1 ≤ limits.burst
  pub longest : limits.burst ≤ most_data
  pub segment : 1 ≤ limits.segment
  pub burst_by_4 : limits.burst % 4 ≡ 0
  pub segment_by_4 : limits.segment % 4 ≡ 0

-- the length of the pieces of a burst, if the burst is whole pieces of it
abbrev pub shorter : Limits → ℕ
shorter limits = min limits.burst limits.segment

abbrev pub AreEven : Limits → Type 0
AreEven limits = limits.burst % shorter limits ≡ 0

abbrev pub are_even : Limits → Bool
are_even limits = limits.burst % shorter limits == 0

-- RFC 7143 §13.12, §13.13: data is cut at MaxBurstLength, and each burst at the initiator's MaxRecvDataSegmentLength
abbrev pub pieces : Limits → List ℕ → List Piece
pieces limits bytes = pieces_of (length bytes) limits.burst limits.segment

-- one for each piece of the data, in order
abbrev pub data_ins : SharedFields → Limits → List ℕ → List Answer
data_ins shared limits bytes = map (data_in shared bytes) (enumerate_from 0 (pieces limits bytes))

-- their bytes, and those of the PDU that ends the command
abbrev pub answered : SharedFields → Limits → List ℕ → List ℕ → List ℕ
answered shared limits bytes last = flat_map spelling (data_ins shared limits bytes) ++ last

-- a piece after its header, without padding
abbrev pub unpadded : SharedFields → List ℕ → ℕ × Piece → List ℕ
unpadded shared bytes piece = data_in_header (fields_of shared bytes piece) ++ part_of bytes piece.1
