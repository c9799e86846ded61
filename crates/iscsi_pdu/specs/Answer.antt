-- The answers of the target.
use Rattle.std.specs.Prelude.{ℕ, List}
use Rattle.iscsi_pdu.specs.NopIn.{nop_in_bytes}
use Rattle.iscsi_pdu.specs.ScsiResponse.{scsi_response_bytes}
use Rattle.iscsi_pdu.specs.TaskManagementResponse.{task_management_response_bytes}
use Rattle.iscsi_pdu.specs.LoginResponse.{login_response_bytes}
use Rattle.iscsi_pdu.specs.TextResponse.{text_response_bytes}
use Rattle.iscsi_pdu.specs.DataIn.{data_in_bytes}
use Rattle.iscsi_pdu.specs.LogoutResponse.{logout_response_bytes}
use Rattle.iscsi_pdu.specs.R2t.{r2t_bytes}
use Rattle.iscsi_pdu.specs.Reject.{reject_bytes}
use Rattle.iscsi_pdu.specs.declared.answer.Answer.{Answer}
use Rattle.iscsi_pdu.specs.declared.answer.Answer.TheVariants as answers

-- RFC 7143 §11: the bytes of an answer, its header, its data segment and the padding
abbrev pub spelling : Answer → List ℕ
spelling (answers.NopIn answer) = nop_in_bytes answer
spelling (answers.ScsiResponse response) = scsi_response_bytes response
spelling (answers.TaskManagementResponse response) = task_management_response_bytes response
spelling (answers.LoginResponse response) = login_response_bytes response
spelling (answers.TextResponse response) = text_response_bytes response
spelling (answers.DataIn piece) = data_in_bytes piece
spelling (answers.LogoutResponse response) = logout_response_bytes response
spelling (answers.R2t ask) = r2t_bytes ask
spelling (answers.Reject reject) = reject_bytes reject
