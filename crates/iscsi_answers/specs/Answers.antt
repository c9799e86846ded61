-- The answers to a SCSI Command that is done.
use Rattle.std.specs.Prelude.{ℕ, ◌-◌, List, [], ◌∷◌, ◌++◌, length, map, take, ◌&&◌, ◌||◌, not, ◌==◌, nat_lt, option_map, if◌then◌else◌}
use Rattle.std.specs.List.{enumerate_from}
use Rattle.scsi_sense.specs.Codes.{status_number}
use Rattle.scsi_sense.specs.Sense.{sense_bytes}
use Rattle.scsi_sense.specs.Done.{Outcome}
use Rattle.iscsi_pdu.specs.Header.{initiator_task_tag}
use Rattle.iscsi_pdu.specs.ScsiCommand.{is_read, is_write, expected_transfer_length}
use Rattle.iscsi_pdu.specs.Frames.{Frame}
use Rattle.iscsi_pdu.specs.declared.answer.Answer.{Answer}
use Rattle.iscsi_pdu.specs.declared.answer.Answer.TheVariants as answers
use Rattle.iscsi_pdu.specs.declared.stamp.Stamp.{Stamp}
use Rattle.iscsi_pdu.specs.declared.scsi_response.Residual.{Residual}
use Rattle.iscsi_pdu.specs.declared.scsi_response.Residual.TheVariants as residuals
use Rattle.iscsi_login.specs.declared.values.Values.{Values}
use Rattle.iscsi_transfer.specs.DataIn.{pieces_of, part_of}
use Rattle.iscsi_transfer.specs.declared.data_in.Piece.{Piece}
use Rattle.iscsi_outbox.specs.declared.shared.SharedFields.{SharedFields}

-- RFC 7143 §11.3.4: how many bytes the initiator expects. Own: if data is returned, none unless the command reads and
-- does not write.
abbrev pub expected_length : Frame → Outcome → ℕ
expected_length frame done =
    if length done.given == 0 || is_read frame.header && not (is_write frame.header) then expected_transfer_length frame.header else 0

-- RFC 7143 §11.4.5: no more of the data is sent than is expected
abbrev pub data_sent : Frame → Outcome → List ℕ
data_sent frame done = take (expected_length frame done) done.given

-- O or U, by how much more or less than the expected length was moved (RFC 7143 §11.4.5)
abbrev pub residual_of : ℕ → ℕ → Residual
residual_of e moved = if nat_lt e moved then residuals.Overflow (moved - e) else if nat_lt moved e then residuals.Underflow (e - moved) else residuals.None

-- RFC 7143 §13.12, §13.13: the data is cut by the session's MaxBurstLength and the initiator's MaxRecvDataSegmentLength
abbrev pub sent_pieces : Values → List ℕ → List Piece
sent_pieces values sent = pieces_of (length sent) values.max_burst_length values.max_recv_data_segment_length

-- a SCSI Data-In (RFC 7143 §11.7), whose DataSN is its place among those of its command (§11.7.5)
abbrev pub data_in : Stamp → Frame → List ℕ → ℕ × Piece → Answer
data_in stamp frame sent piece = answers.DataIn (record {
  is_final = piece.1.is_final;
  initiator_task_tag = initiator_task_tag frame.header;
  exp_cmd_sn = stamp.exp_cmd_sn;
  max_cmd_sn = stamp.max_cmd_sn;
  data_sn = piece.0;
  buffer_offset = piece.1.offset;
  body = part_of sent piece.1;
})

-- the fields that all Data-Ins of a command have in common
abbrev pub shared_fields : Stamp → Frame → SharedFields
shared_fields stamp frame =
    record { initiator_task_tag = initiator_task_tag frame.header; exp_cmd_sn = stamp.exp_cmd_sn; max_cmd_sn = stamp.max_cmd_sn }

-- a Data-In for each piece of the data, in order
unfoldable pub data_answers : Stamp → Values → Frame → List ℕ → List Answer
data_answers stamp values frame sent = map (data_in stamp frame sent) (enumerate_from 0 (sent_pieces values sent))

-- the SCSI Response (RFC 7143 §11.4), after this number of Data-Ins (§11.4.8)
unfoldable pub scsi_answer : Stamp → Frame → Outcome → ℕ → Answer
scsi_answer stamp frame done data_ins = answers.ScsiResponse (record {
  initiator_task_tag = initiator_task_tag frame.header;
  stamp = stamp;
  status = status_number done.status;
  residual = residual_of (expected_length frame done) done.moved;
  exp_data_sn = data_ins;
  sense = option_map sense_bytes done.sense;
})

-- all answers to a command, in order: its data in pieces, and how it ended
abbrev pub command_answers : Stamp → Values → Frame → Outcome → List Answer
command_answers stamp values frame done =
    let sent = data_sent frame done in
    data_answers stamp values frame sent ++ scsi_answer stamp frame done (length (sent_pieces values sent)) ∷ []
