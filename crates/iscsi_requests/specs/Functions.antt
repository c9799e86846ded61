-- Task Management (RFC 7143 §11.5, §11.6).
use Rattle.std.specs.Prelude.{ℕ, List, [], ◌∷◌, ◌++◌, find, filter, length, replicate, Bool, true, false, ◌&&◌, ◌||◌, ◌==◌, not, Option, Some, None, is_some, option_and_then, if◌then◌else◌}
use Rattle.std.specs.List.{list_any}
use Rattle.scsi_unit.specs.Lun.{lun_number}
use Rattle.iscsi_pdu.specs.Header.{initiator_task_tag, is_immediate, cmd_sn, lun_field, opcode_number}
use Rattle.iscsi_pdu.specs.TaskManagement.{task_function, function_code, referenced_task_tag, ref_cmd_sn}
use Rattle.iscsi_pdu.specs.Frames.{Frame}
use Rattle.iscsi_pdu.specs.declared.task_management.TaskFunction.{TaskFunction}
use Rattle.iscsi_pdu.specs.declared.task_management.TaskFunction.TheVariants as functions
use Rattle.iscsi_pdu.specs.declared.task_management_response.TaskResult.{TaskResult}
use Rattle.iscsi_pdu.specs.declared.task_management_response.TaskResult.TheVariants as results
use Rattle.iscsi_pdu.specs.declared.answer.Answer.{Answer}
use Rattle.iscsi_pdu.specs.declared.answer.Answer.TheVariants as answers
use Rattle.iscsi_pdu.specs.declared.stamp.Stamp.{Stamp}
use Rattle.iscsi_order.specs.Window as order
use Rattle.iscsi_order.specs.Serial.{is_before}
use Rattle.iscsi_requests.specs.AbortScope.{scope_of, waits_by}
use Rattle.iscsi_requests.specs.declared.abort_scope.Scope.{Scope}
use Rattle.iscsi_requests.specs.declared.abort_scope.Scope.TheVariants as scopes
use Rattle.iscsi_requests.specs.declared.aborted.Aborted.{Aborted}
use Rattle.iscsi_requests.specs.declared.aborted.Aborted.TheVariants.{Live, Missing, Plugged, Nothing}
use Rattle.iscsi_requests.specs.Requests.{Past, frame_of, place_of, numbers, unfinished, pending, functions as unfinished_functions, stamp, answering}
use Rattle.iscsi_requests.specs.Transfers.{tag_of, is_asked_of, drains_of}

-- RFC 7143 §11.2.1.8: the Task Management Function Request with this tag that is not finished
abbrev pub function_with : Past → ℕ → Option ℕ
function_with past tag = find (λ k. tag_of past.came k == tag) (unfinished_functions past)

-- those for immediate delivery among these
abbrev pub immediate_in : Past → List ℕ → ℕ
immediate_in past names = length (filter (λ k. is_immediate (frame_of past.came k).header) names)

-- ---- which SCSI Commands a function removes, by the headers of both

-- a Task Management Function Request, as applied to the commands of one session of its target
pub record FunctionReach : Type 0 where
  -- its header
  pub function : List ℕ
  -- the numbers of the target's units
  pub luns : List ℕ
  -- whether the session is the one that it came from
  pub is_own : Bool

abbrev pub own_reach : List ℕ → List ℕ → FunctionReach
own_reach luns function = record { function = function; luns = luns; is_own = true }

abbrev pub has_unit : List ℕ → ℕ → Bool
has_unit luns n = list_any (λ m. m == n) luns

-- the number of the unit that the LUN of a header names, if the target has it
abbrev pub unit_named : List ℕ → List ℕ → Option ℕ
unit_named luns header = option_and_then (λ n. if has_unit luns n then Some n else None) (lun_number (lun_field header))

abbrev pub is_number : ℕ → Option ℕ → Bool
is_number n None = false
is_number n (Some m) = m == n

-- both name one unit
abbrev pub is_one_unit : Option ℕ → Option ℕ → Bool
is_one_unit None other = false
is_one_unit (Some n) other = is_number n other

-- a command of another session, for immediate delivery, or numbered before the request (serially, RFC 1982)
abbrev pub is_earlier : FunctionReach → List ℕ → Bool
is_earlier reach command = not reach.is_own || is_immediate command || is_before (cmd_sn command) (cmd_sn reach.function)

-- a command of the task set (SAM-5) of the unit that the request names
abbrev pub is_in_set : FunctionReach → List ℕ → Bool
is_in_set reach command = is_one_unit (unit_named reach.luns reach.function) (unit_named reach.luns command) && is_earlier reach command

abbrev pub scope : FunctionReach → Scope
scope reach = scope_of (task_function (function_code reach.function))

-- RFC 7143 §11.5.1. Own: ABORT TASK does not look at the LUN.
abbrev pub reaches_by : Scope → FunctionReach → List ℕ → Bool
reaches_by scopes.Task reach command = reach.is_own && initiator_task_tag command == referenced_task_tag reach.function
reaches_by scopes.OwnTaskSet reach command = reach.is_own && is_in_set reach command
reaches_by scopes.TaskSet reach command = is_in_set reach command
reaches_by scopes.AllTasks reach command = is_some (unit_named reach.luns command) && is_earlier reach command
reaches_by scopes.NoTask reach command = false

unfoldable pub reaches : FunctionReach → List ℕ → Bool
reaches reach command = reaches_by (scope reach) reach command

-- the commands that it reaches, of those that are not finished, held or taken
unfoldable pub reached : FunctionReach → Past → List ℕ
reached reach past = filter (λ k. reaches reach (frame_of past.came k).header) (unfinished past)

-- ---- plugging (RFC 7143 §11.5.1, ABORT TASK)

-- own: the placeholder for a number that was plugged. Its opcode is not one of an initiator's, and it does nothing.
abbrev pub plug : Frame
plug = record { header = 0x3E ∷ replicate 47 0; body = [] }

abbrev pub is_plug : Frame → Bool
is_plug frame = opcode_number frame.header == 0x3E

-- a number counts as if its request had come
abbrev pub plugged : ℕ → Past → Past
plugged n past = record past { came = past.came ++ record { number = Some (order.index_of (numbers past) n); frame = plug } ∷ [] }

-- the number was plugged, and is not taken
abbrev pub is_plugged : Past → ℕ → Bool
is_plugged past n = is_plug (frame_of past.came (place_of past.came (order.index_of (numbers past) n)))

-- the number is before the request's own (serially, RFC 1982)
abbrev pub refers_back : List ℕ → Bool
refers_back function = is_before (ref_cmd_sn function) (cmd_sn function)

-- what an ABORT TASK finds (RFC 7143 §11.6.1): its task, the number of one that has not come, or a number that was plugged
abbrev pub abort_finds : Past → FunctionReach → Aborted
abort_finds past reach =
    let n = ref_cmd_sn reach.function in
    if not (length (reached reach past) == 0) then Live
    else if not (refers_back reach.function) then Nothing
    else if order.is_new (numbers past) n then Missing
    else if is_plugged past n then Plugged else Nothing

abbrev pub is_missing : Aborted → Bool
is_missing Live = false
is_missing Missing = true
is_missing Plugged = false
is_missing Nothing = false

abbrev pub plugs_by : Scope → Past → FunctionReach → Bool
plugs_by scopes.Task past reach = is_missing (abort_finds past reach)
plugs_by scopes.OwnTaskSet past reach = false
plugs_by scopes.TaskSet past reach = false
plugs_by scopes.AllTasks past reach = false
plugs_by scopes.NoTask past reach = false

unfoldable pub plugs : Past → FunctionReach → Bool
plugs past reach = plugs_by (scope reach) past reach

-- ---- the response to a function (RFC 7143 §11.6.1)

abbrev pub abort_result : Aborted → TaskResult
abort_result Live = results.Complete
abort_result Missing = results.Complete
abort_result Plugged = results.Complete
abort_result Nothing = results.NoTask

-- the response to a function that is for all commands of a unit
abbrev pub set_result : FunctionReach → TaskResult
set_result reach = if is_some (unit_named reach.luns reach.function) then results.Complete else results.NoUnit

abbrev pub result_by : TaskFunction → Past → FunctionReach → TaskResult
result_by functions.AbortTask past reach = abort_result (abort_finds past reach)
result_by functions.AbortTaskSet past reach = set_result reach
result_by functions.ClearAca past reach = results.NotSupported
result_by functions.ClearTaskSet past reach = set_result reach
result_by functions.LogicalUnitReset past reach = set_result reach
result_by functions.TargetWarmReset past reach = results.Complete
result_by functions.TargetColdReset past reach = results.NotSupported
result_by functions.TaskReassign past reach = results.NoReassignment
result_by (functions.Other n) past reach = results.NotSupported

unfoldable pub function_result : Past → FunctionReach → TaskResult
function_result past reach = result_by (task_function (function_code reach.function)) past reach

abbrev pub function_answer : Stamp → TaskResult → List ℕ → Answer
function_answer numbers_now result function = answers.TaskManagementResponse
    (record { initiator_task_tag = initiator_task_tag function; stamp = numbers_now; response = result })

-- ---- a function that waits for data (RFC 7143 §4.2.3.3)

abbrev pub waits : FunctionReach → Bool
waits reach = waits_by (scope reach)

-- the commands whose data a function is to wait for: of those that it removes, the ones for which an R2T is open
unfoldable pub awaited : Past → FunctionReach → List ℕ
awaited past reach = if waits reach then filter (is_asked_of past) (reached reach past) else []

-- data is still to come for which it waits
abbrev pub lacks : Past → ℕ → Bool
lacks past k = list_any (λ d. d.function == k && is_asked_of past d.command) (drains_of past)

-- the functions that need not wait any longer, in the order in which they acted
unfoldable pub drained_functions : Past → List ℕ
drained_functions past = filter (λ k. not (lacks past k)) (pending past)

-- it is finished before its answer is stamped
abbrev pub told : ℕ → Past → Past
told k past = record past { answered = past.answered ++ k ∷ [] }

-- it removed a command, so it is complete
unfoldable pub told_answers : Past → ℕ → List Answer
told_answers past k = function_answer (stamp (told k past)) results.Complete (frame_of past.came k).header ∷ []

abbrev pub answered_function : ℕ → Past → Past
answered_function k past = answering (told_answers past k) (told k past)

-- the first of these is answered
abbrev pub answered_by : List ℕ → Past → Past
answered_by [] past = past
answered_by (k ∷ others) past = answered_function k past

abbrev pub told_by : List ℕ → Past → List Answer
told_by [] past = []
told_by (k ∷ others) past = told_answers past k
