-- The fields of a Task Management Function Request (RFC 7143 §11.5).
use Rattle.std.specs.Prelude.{ℕ, List, ◌==◌, if◌then◌else◌, slice_index, bit_and}
use Rattle.byteorder.specs.Endian.{big_from}
use Rattle.iscsi_pdu.specs.declared.task_management.TaskFunction.{TaskFunction}
use Rattle.iscsi_pdu.specs.declared.task_management.TaskFunction.TheVariants as functions

-- RFC 7143 §11.5: bits 1 to 7 of byte 1
abbrev pub function_code : List ℕ → ℕ
function_code header = bit_and (slice_index header 1) 0x7F

-- RFC 7143 §11.5.1
abbrev pub task_function : ℕ → TaskFunction
task_function n =
    if n == 1 then functions.AbortTask
    else if n == 2 then functions.AbortTaskSet
    else if n == 3 then functions.ClearAca
    else if n == 4 then functions.ClearTaskSet
    else if n == 5 then functions.LogicalUnitReset
    else if n == 6 then functions.TargetWarmReset
    else if n == 7 then functions.TargetColdReset
    else if n == 8 then functions.TaskReassign
    else functions.Other n

-- RFC 7143 §11.5.5
abbrev pub referenced_task_tag : List ℕ → ℕ
referenced_task_tag header = big_from 20 4 header

-- RFC 7143 §11.5.6
abbrev pub ref_cmd_sn : List ℕ → ℕ
ref_cmd_sn header = big_from 32 4 header
