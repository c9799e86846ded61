-- The fields of a Login Request, of a SCSI Command, of SCSI Data-Outs and of a Logout Request, computed.
use Rattle.std.specs.Prelude.{◌≡◌, ℕ, List, [], ◌∷◌, ◌++◌, true, false, Some, None, replicate, refl}
use Rattle.iscsi_pdu.specs.declared.header.Opcode.TheVariants as opcodes
use Rattle.iscsi_pdu.specs.declared.task_management.TaskFunction.TheVariants as functions
use Rattle.iscsi_pdu.specs.TaskManagement.{task_function, function_code, referenced_task_tag, ref_cmd_sn}
use Rattle.iscsi_pdu.specs.declared.stage.Stage.TheVariants as stages
use Rattle.iscsi_pdu.specs.Header.{opcode_of, opcode_number, is_immediate, additional_length, data_length, lun_field, initiator_task_tag, cmd_sn}
use Rattle.iscsi_pdu.specs.ScsiCommand.{is_final, is_read, is_write, expected_transfer_length, cdb}
use Rattle.iscsi_pdu.specs.DataOut.{target_transfer_tag, data_sn, buffer_offset}
use Rattle.iscsi_pdu.specs.LoginRequest.{is_transit, is_continued, current_stage, next_stage, version_min, isid, tsih, connection_id}
use Rattle.iscsi_pdu.specs.LogoutRequest.{logout_reason}

-- a Login Request with 30 bytes of text
abbrev pub login_header : List ℕ
login_header =
    0x43 ∷ 0x87 ∷ 0x00 ∷ 0x00 ∷ 0x00 ∷ 0x00 ∷ 0x00 ∷ 0x1e ∷ 0x80 ∷ 0x00 ∷ 0x00 ∷ 0x00 ∷ 0x00 ∷ 0x01 ∷ 0x00 ∷ 0x00 ∷
    0x00 ∷ 0x00 ∷ 0x00 ∷ 0x01 ∷ 0x00 ∷ 0x01 ∷ 0x00 ∷ 0x00 ∷ 0x00 ∷ 0x00 ∷ 0x00 ∷ 0x7b ∷ 0x00 ∷ 0x00 ∷ 0x00 ∷ 0x00 ∷
    0x00 ∷ 0x00 ∷ 0x00 ∷ 0x00 ∷ 0x00 ∷ 0x00 ∷ 0x00 ∷ 0x00 ∷ 0x00 ∷ 0x00 ∷ 0x00 ∷ 0x00 ∷ 0x00 ∷ 0x00 ∷ 0x00 ∷ 0x00 ∷ []

login_opcode : (opcode_of (opcode_number login_header) ≡ opcodes.Login) × (is_immediate login_header ≡ true)
login_opcode = (refl, refl)

login_lengths : (additional_length login_header ≡ 0) × (data_length login_header ≡ 30)
login_lengths = (refl, refl)

-- from operational negotiation to the full feature phase
login_stages : (is_transit login_header ≡ true) × (is_continued login_header ≡ false)
    × (current_stage login_header ≡ Some stages.OperationalNegotiation) × (next_stage login_header ≡ Some stages.FullFeaturePhase)
login_stages = (refl, refl, refl, refl)

login_session : (version_min login_header ≡ 0) × (isid login_header ≡ 0x80 ∷ 0 ∷ 0 ∷ 0 ∷ 0 ∷ 1 ∷ []) × (tsih login_header ≡ 0)
    × (connection_id login_header ≡ 1)
login_session = (refl, refl, refl, refl)

login_numbers : (initiator_task_tag login_header ≡ 1) × (cmd_sn login_header ≡ 123)
login_numbers = (refl, refl)

-- C, security negotiation, and the reserved number 2 for NSG
continued_header : List ℕ
continued_header = 0x03 ∷ 0x42 ∷ []

continued_stages : (is_transit continued_header ≡ false) × (is_continued continued_header ≡ true)
    × (current_stage continued_header ≡ Some stages.SecurityNegotiation) × (next_stage continued_header ≡ None)
unfolding continued_header
continued_stages = (refl, refl, refl, refl)

-- READ(10) of 512 bytes at LUN 5, with two words of additional header
abbrev pub command_header : List ℕ
command_header =
    0x01 ∷ 0xc1 ∷ 0x00 ∷ 0x00 ∷ 0x02 ∷ 0x00 ∷ 0x00 ∷ 0x00 ∷ 0x00 ∷ 0x05 ∷ 0x00 ∷ 0x00 ∷ 0x00 ∷ 0x00 ∷ 0x00 ∷ 0x00 ∷
    0x00 ∷ 0x00 ∷ 0x00 ∷ 0x02 ∷ 0x00 ∷ 0x00 ∷ 0x02 ∷ 0x00 ∷ 0x00 ∷ 0x00 ∷ 0x00 ∷ 0x7b ∷ 0x00 ∷ 0x00 ∷ 0x00 ∷ 0x00 ∷
    0x28 ∷ 0x00 ∷ 0x00 ∷ 0x00 ∷ 0x00 ∷ 0x07 ∷ 0x00 ∷ 0x00 ∷ 0x01 ∷ 0x00 ∷ 0x00 ∷ 0x00 ∷ 0x00 ∷ 0x00 ∷ 0x00 ∷ 0xff ∷ []

command_opcode : (opcode_of (opcode_number command_header) ≡ opcodes.ScsiCommand) × (is_immediate command_header ≡ false)
command_opcode = (refl, refl)

command_flags : (is_final command_header ≡ true) × (is_read command_header ≡ true) × (is_write command_header ≡ false)
command_flags = (refl, refl, refl)

command_lengths : (additional_length command_header ≡ 8) × (data_length command_header ≡ 0) × (expected_transfer_length command_header ≡ 512)
command_lengths = (refl, refl, refl)

command_lun : lun_field command_header ≡ 0 ∷ 5 ∷ replicate 6 0
command_lun = refl

command_cdb : cdb command_header ≡ 0x28 ∷ 0 ∷ 0 ∷ 0 ∷ 0 ∷ 7 ∷ 0 ∷ 0 ∷ 1 ∷ replicate 6 0 ++ 0xff ∷ []
command_cdb = refl

-- the second Data-Out of a part that R2T 5 asked for, 512 bytes from the 1536th on, with F
abbrev data_out_header : List ℕ
data_out_header =
    0x05 ∷ 0x80 ∷ 0x00 ∷ 0x00 ∷ 0x00 ∷ 0x00 ∷ 0x02 ∷ 0x00 ∷ 0x00 ∷ 0x00 ∷ 0x00 ∷ 0x00 ∷ 0x00 ∷ 0x00 ∷ 0x00 ∷ 0x00 ∷
    0x00 ∷ 0x00 ∷ 0x00 ∷ 0x02 ∷ 0x00 ∷ 0x00 ∷ 0x00 ∷ 0x05 ∷ 0x00 ∷ 0x00 ∷ 0x00 ∷ 0x00 ∷ 0x00 ∷ 0x00 ∷ 0x00 ∷ 0x00 ∷
    0x00 ∷ 0x00 ∷ 0x00 ∷ 0x00 ∷ 0x00 ∷ 0x00 ∷ 0x00 ∷ 0x01 ∷ 0x00 ∷ 0x00 ∷ 0x06 ∷ 0x00 ∷ 0x00 ∷ 0x00 ∷ 0x00 ∷ 0x00 ∷ []

data_out_opcode : (opcode_of (opcode_number data_out_header) ≡ opcodes.DataOut) × (is_final data_out_header ≡ true)
data_out_opcode = (refl, refl)

data_out_fields : (initiator_task_tag data_out_header ≡ 2) × (target_transfer_tag data_out_header ≡ 5)
    × (data_sn data_out_header ≡ 1) × (buffer_offset data_out_header ≡ 1536) × (data_length data_out_header ≡ 512)
data_out_fields = (refl, refl, refl, refl, refl)

-- an immediate Logout Request that removes connection 7 for recovery
abbrev logout_header : List ℕ
logout_header =
    0x46 ∷ 0x82 ∷ 0x00 ∷ 0x00 ∷ 0x00 ∷ 0x00 ∷ 0x00 ∷ 0x00 ∷ 0x00 ∷ 0x00 ∷ 0x00 ∷ 0x00 ∷ 0x00 ∷ 0x00 ∷ 0x00 ∷ 0x00 ∷
    0x00 ∷ 0x00 ∷ 0x00 ∷ 0x03 ∷ 0x00 ∷ 0x07 ∷ 0x00 ∷ 0x00 ∷ 0x00 ∷ 0x00 ∷ 0x00 ∷ 0x7d ∷ 0x00 ∷ 0x00 ∷ 0x00 ∷ 0x02 ∷
    0x00 ∷ 0x00 ∷ 0x00 ∷ 0x00 ∷ 0x00 ∷ 0x00 ∷ 0x00 ∷ 0x00 ∷ 0x00 ∷ 0x00 ∷ 0x00 ∷ 0x00 ∷ 0x00 ∷ 0x00 ∷ 0x00 ∷ 0x00 ∷ []

logout_opcode : (opcode_of (opcode_number logout_header) ≡ opcodes.Logout) × (is_immediate logout_header ≡ true)
logout_opcode = (refl, refl)

-- the reason, without the bit that is always set
logout_fields : (logout_reason logout_header ≡ 2) × (connection_id logout_header ≡ 7)
logout_fields = (refl, refl)

-- an immediate ABORT TASK of the command with tag 9 and CmdSN 5
abbrev abort_header : List ℕ
abort_header =
    0x42 ∷ 0x81 ∷ 0x00 ∷ 0x00 ∷ 0x00 ∷ 0x00 ∷ 0x00 ∷ 0x00 ∷ 0x00 ∷ 0x01 ∷ 0x00 ∷ 0x00 ∷ 0x00 ∷ 0x00 ∷ 0x00 ∷ 0x00 ∷
    0x00 ∷ 0x00 ∷ 0x00 ∷ 0x07 ∷ 0x00 ∷ 0x00 ∷ 0x00 ∷ 0x09 ∷ 0x00 ∷ 0x00 ∷ 0x00 ∷ 0x06 ∷ 0x00 ∷ 0x00 ∷ 0x00 ∷ 0x03 ∷
    0x00 ∷ 0x00 ∷ 0x00 ∷ 0x05 ∷ 0x00 ∷ 0x00 ∷ 0x00 ∷ 0x00 ∷ 0x00 ∷ 0x00 ∷ 0x00 ∷ 0x00 ∷ 0x00 ∷ 0x00 ∷ 0x00 ∷ 0x00 ∷ []

abort_opcode : (opcode_of (opcode_number abort_header) ≡ opcodes.TaskManagement) × (task_function (function_code abort_header) ≡ functions.AbortTask)
abort_opcode = (refl, refl)

abort_fields : (referenced_task_tag abort_header ≡ 9) × (ref_cmd_sn abort_header ≡ 5)
abort_fields = (refl, refl)

-- 0 and 9 are not functions
no_function : (task_function 0 ≡ functions.Other 0) × (task_function 9 ≡ functions.Other 9)
no_function = (refl, refl)

-- 3Fh is not an opcode of an initiator
no_opcode : opcode_of 0x3F ≡ opcodes.Other 0x3F
no_opcode = refl
