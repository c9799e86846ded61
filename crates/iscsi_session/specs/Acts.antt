-- What a request does when it is taken.
use Rattle.std.specs.Prelude.{ℕ, List, [], ◌∷◌, take, min, Bool, false, ◌&&◌, ◌||◌, ◌==◌, if◌then◌else◌}
use Rattle.iscsi_pdu.specs.Header.{opcode_of, opcode_number, initiator_task_tag}
use Rattle.iscsi_pdu.specs.LoginRequest.{connection_id}
use Rattle.iscsi_pdu.specs.LogoutRequest.{logout_reason}
use Rattle.iscsi_pdu.specs.TaskManagement.{ref_cmd_sn}
use Rattle.iscsi_pdu.specs.declared.task_management_response.TaskResult.{TaskResult}
use Rattle.iscsi_pdu.specs.Frames.{Frame}
use Rattle.iscsi_pdu.specs.Segment.{most_data}
use Rattle.iscsi_pdu.specs.declared.header.Opcode.{Opcode}
use Rattle.iscsi_pdu.specs.declared.header.Opcode.TheVariants as opcodes
use Rattle.iscsi_pdu.specs.declared.reject.RejectReason.TheVariants as reasons
use Rattle.iscsi_pdu.specs.declared.logout_response.LogoutResult.{LogoutResult}
use Rattle.iscsi_pdu.specs.declared.logout_response.LogoutResult.TheVariants as results
use Rattle.iscsi_pdu.specs.declared.answer.Answer.{Answer}
use Rattle.iscsi_pdu.specs.declared.answer.Answer.TheVariants as answers
use Rattle.iscsi_pdu.specs.declared.stamp.Stamp.{Stamp}
use Rattle.iscsi_login.specs.declared.session_params.SessionParams.{SessionParams}
use Rattle.iscsi_login.specs.declared.values.Values.{Values}
use Rattle.iscsi_requests.specs.Requests.{Past, frame_of, is_function, moved, removing, draining, answering, stamp}
use Rattle.iscsi_requests.specs.Judging.{reserved_tag, reject}
use Rattle.iscsi_requests.specs.Texts.{exchange_of, text_answer_in}
use Rattle.iscsi_requests.specs.Functions.{FunctionReach, own_reach, reached, awaited, plugs, plugged, function_result, function_answer}
use Rattle.iscsi_exchange.specs.ExchangeState.{ExchangeState}

-- RFC 7143 §11.18, §11.19: the ping data is returned, cut to what the initiator takes in one PDU and to what a PDU of
-- this target can have. The reserved tag asks for no answer.
abbrev pub ping_answers : Stamp → Values → Frame → List Answer
ping_answers numbers_now values frame =
    if initiator_task_tag frame.header == reserved_tag then []
    else answers.NopIn (record {
      initiator_task_tag = initiator_task_tag frame.header;
      stamp = numbers_now;
      body = take (min values.max_recv_data_segment_length most_data) frame.body;
    }) ∷ []

-- RFC 7143 §11.14.1: the session is closed, or its one connection by its CID
abbrev pub closes : SessionParams → Frame → Bool
closes params frame = logout_reason frame.header == 0 || logout_reason frame.header == 1 && connection_id frame.header == params.connection_id

abbrev pub logout_response : LogoutResult → Stamp → Frame → Answer
logout_response result numbers_now frame = answers.LogoutResponse
    (record { initiator_task_tag = initiator_task_tag frame.header; stamp = numbers_now; response = result })

-- RFC 7143 §11.15.1: the answer to a Logout
abbrev pub logout_answer : Stamp → SessionParams → Frame → Answer
logout_answer numbers_now params frame =
    if closes params frame then logout_response results.Closed numbers_now frame
    else if logout_reason frame.header == 1 then logout_response results.CidNotFound numbers_now frame
    else if logout_reason frame.header == 2 then logout_response results.NoRecovery numbers_now frame
    else reject reasons.InvalidField numbers_now frame

-- a function that waits for data is not answered when it acts
abbrev pub acted_answers : List ℕ → Stamp → TaskResult → List ℕ → List Answer
acted_answers [] numbers_now result function = function_answer numbers_now result function ∷ []
acted_answers (k ∷ others) numbers_now result function = []

-- by the opcode: a request of any other kind is not accepted
abbrev pub act_answers_by : Opcode → List ℕ → TaskResult → ExchangeState → Stamp → SessionParams → Frame → List Answer
act_answers_by opcodes.ScsiCommand waited result exchange numbers_now params frame = []
act_answers_by opcodes.NopOut waited result exchange numbers_now params frame = ping_answers numbers_now params.values frame
act_answers_by opcodes.Logout waited result exchange numbers_now params frame = logout_answer numbers_now params frame ∷ []
act_answers_by opcodes.TaskManagement waited result exchange numbers_now params frame = acted_answers waited numbers_now result frame.header
act_answers_by opcodes.Login waited result exchange numbers_now params frame = []
act_answers_by opcodes.Text waited result exchange numbers_now params frame = text_answer_in exchange numbers_now params frame ∷ []
act_answers_by opcodes.DataOut waited result exchange numbers_now params frame = []
act_answers_by opcodes.Snack waited result exchange numbers_now params frame = []
act_answers_by (opcodes.Other n) waited result exchange numbers_now params frame = []

-- a function as applied to the commands of its own session; these are the numbers of the target's units
abbrev pub reach_of : List ℕ → ℕ → Past → FunctionReach
reach_of luns k past = own_reach luns (frame_of past.came k).header

-- a Task Management Function Request removes the SCSI Commands that it reaches, and may wait for their data
abbrev pub ended : List ℕ → ℕ → Past → Past
ended luns k past =
    let reach = reach_of luns k past in
    if is_function (frame_of past.came k) then draining k (awaited past reach) (removing (reached reach past) (moved k past)) else moved k past

-- an ABORT TASK may plug a number, after its answer is stamped
abbrev pub behind : List ℕ → ℕ → Past → Past → Past
behind luns k past after =
    if is_function (frame_of past.came k) && plugs past (reach_of luns k past) then plugged (ref_cmd_sn (frame_of past.came k).header) after else after

-- a request that is no SCSI Command counts as finished before its answer is stamped
unfoldable pub act_answers : List ℕ → ℕ → Past → List Answer
act_answers luns k past =
    let frame = frame_of past.came k in
    let result = function_result past (reach_of luns k past) in
    act_answers_by (opcode_of (opcode_number frame.header)) (awaited past (reach_of luns k past)) result (exchange_of past)
    (stamp (ended luns k past)) past.params frame

-- a request that was taken acts
abbrev pub acted : List ℕ → ℕ → Past → Past
acted luns k past = answering (act_answers luns k past) (behind luns k past (ended luns k past))

-- the order that a Task Management Function Request gives its target when it acts: its header
abbrev pub ordered : ℕ → Past → List (List ℕ)
ordered k past = if is_function (frame_of past.came k) then (frame_of past.came k).header ∷ [] else []

abbrev pub ends_by : Opcode → SessionParams → Frame → Bool
ends_by opcodes.ScsiCommand params frame = false
ends_by opcodes.NopOut params frame = false
ends_by opcodes.Logout params frame = closes params frame
ends_by opcodes.TaskManagement params frame = false
ends_by opcodes.Login params frame = false
ends_by opcodes.Text params frame = false
ends_by opcodes.DataOut params frame = false
ends_by opcodes.Snack params frame = false
ends_by (opcodes.Other n) params frame = false

-- the session ends with this request
unfoldable pub ends : SessionParams → Frame → Bool
ends params frame = ends_by (opcode_of (opcode_number frame.header)) params frame
