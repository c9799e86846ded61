-- What each Task Management function is for (RFC 7143 §11.5.1).
use Rattle.std.specs.Prelude.{Bool, true, false, Option, Some, None}
use Rattle.scsi_sense.specs.declared.condition.Attention.{Attention}
use Rattle.scsi_sense.specs.declared.condition.Attention.TheVariants.{CommandsClearedByAnotherInitiator, BusDeviceResetFunctionOccurred}
use Rattle.iscsi_pdu.specs.declared.task_management.TaskFunction.{TaskFunction}
use Rattle.iscsi_pdu.specs.declared.task_management.TaskFunction.TheVariants as functions
use Rattle.iscsi_requests.specs.declared.abort_scope.Scope.{Scope}
use Rattle.iscsi_requests.specs.declared.abort_scope.Scope.TheVariants as scopes

-- the SCSI Commands that it removes
abbrev pub scope_of : TaskFunction → Scope
scope_of functions.AbortTask = scopes.Task
scope_of functions.AbortTaskSet = scopes.OwnTaskSet
scope_of functions.ClearAca = scopes.NoTask
scope_of functions.ClearTaskSet = scopes.TaskSet
scope_of functions.LogicalUnitReset = scopes.TaskSet
scope_of functions.TargetWarmReset = scopes.AllTasks
scope_of functions.TargetColdReset = scopes.NoTask
scope_of functions.TaskReassign = scopes.NoTask
scope_of (functions.Other n) = scopes.NoTask

-- RFC 7143 §4.2.3.3: it waits for data. Own: ABORT TASK does not.
abbrev pub waits_by : Scope → Bool
waits_by scopes.Task = false
waits_by scopes.OwnTaskSet = true
waits_by scopes.TaskSet = true
waits_by scopes.AllTasks = true
waits_by scopes.NoTask = false

-- it removes commands of all sessions of the target
abbrev pub is_for_all : Scope → Bool
is_for_all scopes.Task = false
is_for_all scopes.OwnTaskSet = false
is_for_all scopes.TaskSet = true
is_for_all scopes.AllTasks = true
is_for_all scopes.NoTask = false

-- SAM-5 "CLEAR TASK SET", "Logical unit reset": the unit attention that it raises
abbrev pub attention_of : TaskFunction → Option Attention
attention_of functions.AbortTask = None
attention_of functions.AbortTaskSet = None
attention_of functions.ClearAca = None
attention_of functions.ClearTaskSet = Some CommandsClearedByAnotherInitiator
attention_of functions.LogicalUnitReset = Some BusDeviceResetFunctionOccurred
attention_of functions.TargetWarmReset = Some BusDeviceResetFunctionOccurred
attention_of functions.TargetColdReset = None
attention_of functions.TaskReassign = None
attention_of (functions.Other n) = None
