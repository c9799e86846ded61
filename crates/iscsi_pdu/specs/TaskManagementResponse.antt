-- The answer to a Task Management Function Request (RFC 7143 §11.6).
use Rattle.std.specs.Prelude.{ℕ, List, [], ◌∷◌, ◌++◌, replicate}
use Rattle.byteorder.specs.Endian.{big_bytes}
use Rattle.iscsi_pdu.specs.Stamp.{stamp_bytes}
use Rattle.iscsi_pdu.specs.declared.task_management_response.TaskResult.{TaskResult}
use Rattle.iscsi_pdu.specs.declared.task_management_response.TaskResult.TheVariants as results
use Rattle.iscsi_pdu.specs.declared.task_management_response.TaskManagementResponse.{TaskManagementResponse}

-- RFC 7143 §11.6.1: the response, byte 2
abbrev pub task_result_code : TaskResult → ℕ
task_result_code results.Complete = 0
task_result_code results.NoTask = 1
task_result_code results.NoUnit = 2
task_result_code results.NoReassignment = 4
task_result_code results.NotSupported = 5

-- RFC 7143 §11.6: bit 0 of byte 1 is set
abbrev pub task_management_response_header : TaskManagementResponse → List ℕ
task_management_response_header r =
    (0x22 ∷ 0x80 ∷ task_result_code r.response ∷ 0 ∷ []) ++ replicate 4 0
    ++ replicate 8 0 ++ big_bytes 4 r.initiator_task_tag ++ replicate 4 0
    ++ stamp_bytes r.stamp ++ replicate 12 0

-- RFC 7143 §11.6: the header; no data segment
abbrev pub task_management_response_bytes : TaskManagementResponse → List ℕ
task_management_response_bytes r = task_management_response_header r
