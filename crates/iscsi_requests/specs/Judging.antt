-- The verdict on a frame in full feature phase.
use Rattle.std.specs.Prelude.{ℕ, ◌+◌, List, [], ◌∷◌, Bool, true, false, ◌&&◌, ◌||◌, not, ◌==◌, nat_lt, Option, is_some, is_none, option_map, if◌then◌else◌}
use Rattle.iscsi_pdu.specs.Header.{opcode_of, opcode_number, is_immediate, cmd_sn, initiator_task_tag}
use Rattle.iscsi_pdu.specs.Frames.{Frame}
use Rattle.iscsi_pdu.specs.declared.header.Opcode.{Opcode}
use Rattle.iscsi_pdu.specs.declared.header.Opcode.TheVariants as opcodes
use Rattle.iscsi_pdu.specs.declared.reject.RejectReason.{RejectReason}
use Rattle.iscsi_pdu.specs.declared.reject.RejectReason.TheVariants as reasons
use Rattle.iscsi_pdu.specs.declared.answer.Answer.{Answer}
use Rattle.iscsi_pdu.specs.declared.answer.Answer.TheVariants as answers
use Rattle.iscsi_pdu.specs.declared.stamp.Stamp.{Stamp}
use Rattle.iscsi_pdu.specs.LogoutRequest.{logout_reason}
use Rattle.iscsi_login.specs.declared.session_params.SessionParams.{SessionParams}
use Rattle.iscsi_order.specs.Window as order
use Rattle.iscsi_transfer.specs.WriteData.{command_fault}
use Rattle.iscsi_login.specs.declared.values.Values.{Values}
use Rattle.iscsi_requests.specs.Requests.{Past, is_command, numbers, unfinished, functions, accepted, answering, stamp}
use Rattle.iscsi_requests.specs.Transfers.{command_with, task_at, verdict_on, fed}
use Rattle.iscsi_requests.specs.Functions.{function_with, immediate_in}
use Rattle.iscsi_requests.specs.declared.verdict.Verdict.{Verdict}
use Rattle.iscsi_requests.specs.declared.verdict.Verdict.TheVariants.{Ignored, Dropped, Rejected, Violating, Accepted, Feeding}

-- RFC 7143 §11.2.1.8: no request that is to be answered has this tag
abbrev pub reserved_tag : ℕ
reserved_tag = 0xFFFFFFFF

-- RFC 7143 §4.2.2.1: a request for immediate delivery has no number. Every other one is ignored if its number is
-- outside the window, or has come before.
abbrev pub is_fresh : Past → Frame → Bool
is_fresh past frame = is_immediate frame.header || order.is_new (numbers past) (cmd_sn frame.header)

-- RFC 7143 §11.2.1.8: a tag is live while its SCSI Command or its Task Management Function Request is held or
-- unfinished, or its data is drained
abbrev pub is_live : Past → ℕ → Bool
is_live past tag = is_some (command_with past tag) || is_some (function_with past tag)

-- own: how many of these for immediate delivery may be unfinished
abbrev pub most_immediate : ℕ
most_immediate = 8

abbrev pub is_full : Past → Bool
is_full past = not (nat_lt (immediate_in past (unfinished past) + immediate_in past (functions past)) most_immediate)

-- too many of these for immediate delivery
abbrev pub is_over : Past → Frame → Bool
is_over past frame = is_immediate frame.header && is_full past

-- it has the reserved tag, or a live one
abbrev pub is_taken : Past → Frame → Bool
is_taken past frame = initiator_task_tag frame.header == reserved_tag || is_live past (initiator_task_tag frame.header)

-- the data that a SCSI Command brings is not as agreed
abbrev pub is_faulty : Values → Frame → Bool
is_faulty values frame = is_command frame && is_some (command_fault values frame)

-- a SCSI Command or a Task Management Function Request is checked in this order: its number, the limit of those for
-- immediate delivery, its tag, its data
unfoldable pub task_verdict : Past → Frame → Verdict
task_verdict past frame =
    if not (is_fresh past frame) then Ignored
    else if is_over past frame then Rejected reasons.TooManyImmediate
    else if is_taken past frame then Violating
    else if is_faulty past.params.values frame then Violating
    else Accepted

-- the verdict on a Data-Out for this command
abbrev pub data_verdict : Past → Frame → Option ℕ → Verdict
data_verdict past frame at = verdict_on frame (option_map (task_at past) at)

-- own: a discovery session serves Text, and a Logout of the session
abbrev pub is_none_of_discovery : Opcode → Frame → Bool
is_none_of_discovery opcodes.ScsiCommand frame = true
is_none_of_discovery opcodes.TaskManagement frame = true
is_none_of_discovery opcodes.NopOut frame = true
is_none_of_discovery opcodes.DataOut frame = true
is_none_of_discovery opcodes.Logout frame = not (logout_reason frame.header == 0)
is_none_of_discovery opcodes.Login frame = false
is_none_of_discovery opcodes.Text frame = false
is_none_of_discovery opcodes.Snack frame = false
is_none_of_discovery (opcodes.Other n) frame = false

unfoldable pub is_refused : SessionParams → Frame → Bool
is_refused params frame = is_none params.target && is_none_of_discovery (opcode_of (opcode_number frame.header)) frame

-- the opcode is checked first
unfoldable pub verdict_by : Opcode → Past → Frame → Verdict
verdict_by opcodes.ScsiCommand past frame = task_verdict past frame
verdict_by opcodes.NopOut past frame = if is_fresh past frame then Accepted else Ignored
verdict_by opcodes.Logout past frame = if is_fresh past frame then Accepted else Ignored
verdict_by opcodes.Login past frame = Violating
verdict_by opcodes.DataOut past frame = data_verdict past frame (command_with past (initiator_task_tag frame.header))
verdict_by opcodes.Snack past frame = Rejected reasons.Snack
verdict_by opcodes.TaskManagement past frame = task_verdict past frame
verdict_by opcodes.Text past frame = if is_fresh past frame then Accepted else Ignored
verdict_by (opcodes.Other n) past frame = Rejected reasons.CommandNotSupported

abbrev pub request_verdict : Past → Frame → Verdict
request_verdict past frame = verdict_by (opcode_of (opcode_number frame.header)) past frame

abbrev pub verdict : Past → Frame → Verdict
verdict past frame = if is_refused past.params frame then Rejected reasons.CommandNotSupported else request_verdict past frame

-- ---- what follows from a verdict

-- RFC 7143 §11.17
abbrev pub reject : RejectReason → Stamp → Frame → Answer
reject reason numbers_now frame = answers.Reject (record { reason = reason; stamp = numbers_now; header = frame.header })

abbrev pub judged_answers : Verdict → Past → Frame → List Answer
judged_answers (Rejected reason) past frame = reject reason (stamp past) frame ∷ []
judged_answers Accepted past frame = []
judged_answers Feeding past frame = []
judged_answers Ignored past frame = []
judged_answers Dropped past frame = []
judged_answers Violating past frame = []

abbrev pub judged : Verdict → Frame → Past → Past
judged (Rejected reason) frame past = answering (reject reason (stamp past) frame ∷ []) past
judged Accepted frame past = accepted frame past
judged Feeding frame past = fed (command_with past (initiator_task_tag frame.header)) frame past
judged Ignored frame past = past
judged Dropped frame past = past
judged Violating frame past = past

-- the session ends: a violation
abbrev pub violates : Verdict → Bool
violates Violating = true
violates Accepted = false
violates Feeding = false
violates (Rejected reason) = false
violates Ignored = false
violates Dropped = false
