-- Whether a command that is not finished takes a Data-Out.
use Rattle.std.specs.Prelude.{◌≡◌, ℕ, List, length, Bool, false, ◌&&◌, is_none}
use Rattle.std.specs.List.{list_any}
use Rattle.iscsi_pdu.specs.Header.{initiator_task_tag, data_length, opcode_number}
use Rattle.iscsi_pdu.specs.Frames.{Frame}
use Rattle.iscsi_transfer.specs.WriteData.{fault_of}
use Rattle.iscsi_requests.specs.declared.transfers.Transfer.{Transfer}
use Rattle.iscsi_requests.specs.State.{TransferList, bears}

abbrev pub takes_out : Frame → Transfer → Bool
takes_out frame transfer = bears (initiator_task_tag frame.header) transfer && is_none (fault_of transfer.task frame)

abbrev pub takes_in : TransferList → Frame → Bool
takes_in transfers frame = list_any (takes_out frame) transfers.list

-- own: a Data-Out with this header, whose data no command that is not finished takes
pub record IsUnread (transfers : TransferList) (header : List ℕ) (frame : Frame) : Type 0 where
  pub header_is : frame.header ≡ header
  pub long : length frame.body ≡ data_length header
  pub out : opcode_number header ≡ 0x05
  pub untaken : takes_in transfers frame ≡ false
