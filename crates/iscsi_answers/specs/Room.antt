-- How much room the answers to a command take, known before it is done.
use Rattle.std.specs.Prelude.{ℕ, ◌+◌, ◌*◌, ◌%◌, min, Bool, ◌==◌, ◌&&◌, ◌||◌, not, nat_lt, if◌then◌else◌}
use Rattle.iscsi_pdu.specs.ScsiCommand.{is_read, is_write, expected_transfer_length}
use Rattle.iscsi_pdu.specs.Frames.{Frame}
use Rattle.iscsi_transfer.specs.DataIn.{piece_count}
use Rattle.iscsi_outbox.specs.Answer.{is_aligned, are_even, limits_of, shorter}
use Rattle.media_block.specs.Blocks.{block_length}
use Rattle.scsi_disk.specs.DiskCommands.{most_given}
use Rattle.iscsi_login.specs.declared.values.Values.{Values}

-- own: the most data that may be sent in answer to a command
abbrev pub most_sent : Frame → ℕ
most_sent frame = if is_read frame.header && not (is_write frame.header) then min most_given (expected_transfer_length frame.header) else 0

-- RFC 7143 §13.12, §13.13: pieces may be this long (own), and none but the last has padding
abbrev pub cuts_long : Values → Bool
cuts_long values = is_aligned (limits_of values) && not (nat_lt values.max_burst_length 16384 || nat_lt values.max_recv_data_segment_length 16384)

-- own: how much data of a command is copied at most; if its pieces are long, more data is sent from where it lies
abbrev pub most_copied : Values → Frame → ℕ
most_copied values frame = if nat_lt 16384 (most_sent frame) && cuts_long values then 2048 else most_sent frame

-- own: whether the data of a command is to lie in pieces, as they are sent: if there may be much of it, in pieces of one
-- length, which are whole blocks
abbrev pub lies_in_pieces : Values → Frame → Bool
lies_in_pieces values frame =
    nat_lt 16384 (most_sent frame) && cuts_long values && are_even (limits_of values) && shorter (limits_of values) % block_length == 0

-- the most Data-Ins that are copied
abbrev pub most_pieces : Values → Frame → ℕ
most_pieces values frame = piece_count (most_copied values frame) values.max_burst_length values.max_recv_data_segment_length

-- RFC 7143 §11.7, §11.4: a Data-In takes 48 bytes and at most 3 of padding, besides its data, and a SCSI Response with
-- sense data takes 68
abbrev pub room_for : Values → Frame → ℕ
room_for values frame = most_pieces values frame * 51 + most_copied values frame + 68
