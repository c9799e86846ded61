-- What the code does to the data that Task Management Function Requests wait for.
use Rattle.std.specs.Prelude.{ℕ, List, [], map, Bool, ◌&&◌, ◌||◌, not, Option, None, Some, is_some, ◌==◌, filter, option_map, position, slice_index_or, slice_set, if◌then◌else◌}
use Rattle.std.specs.List.{list_any}
use Rattle.iscsi_pdu.specs.Header.{initiator_task_tag}
use Rattle.iscsi_pdu.specs.Frames.{Frame}
use Rattle.iscsi_transfer.specs.WriteData.{is_asked, with_data, blank}
use Rattle.iscsi_requests.specs.Functions.{FunctionReach, reaches, waits}
use Rattle.iscsi_requests.specs.declared.transfers.Transfer.{Transfer}
use Rattle.iscsi_requests.specs.Drained.{Drained, blanked}
use Rattle.iscsi_requests.specs.declared.verdict.Verdict.{Verdict}
use Rattle.iscsi_requests.specs.Transfers.{verdict_on}
use Rattle.iscsi_requests.specs.State.{TransferList, no_transfer, bears, place_with, place_for, judged_at, fed_at}

-- an R2T is open for the data of a removed command
abbrev pub is_draining : Drained → Bool
is_draining drained = is_asked drained.transfer.task

abbrev pub drain_with : ℕ → List Drained → Option ℕ
drain_with tag drains = position (λ drained. is_draining drained && bears tag drained.transfer) drains

abbrev pub drain_for : Frame → List Drained → Option ℕ
drain_for frame drains = drain_with (initiator_task_tag frame.header) drains

abbrev pub no_drained : Drained
no_drained = record { function = []; transfer = no_transfer }

abbrev pub drained_at : List Drained → ℕ → Drained
drained_at drains i = slice_index_or drains i no_drained

abbrev pub judged_drain : List Drained → Frame → Option ℕ → Verdict
judged_drain drains frame at = verdict_on frame (option_map (λ i. (drained_at drains i).transfer.task) at)

abbrev pub fed_drain : List Drained → Frame → Option ℕ → List Drained
fed_drain drains frame None = drains
fed_drain drains frame (Some i) =
    let transfer = (drained_at drains i).transfer in
    slice_set drains i (record (drained_at drains i) { transfer = record transfer { task = blank (with_data transfer.task frame) } })

-- the verdict on a Data-Out for a command that is not finished, or for one whose data is drained
abbrev pub judged_in : TransferList → Frame → Verdict
judged_in transfers frame =
    if is_some (place_for frame transfers.list) then judged_at transfers.list frame (place_for frame transfers.list)
    else judged_drain transfers.drains frame (drain_for frame transfers.drains)

abbrev pub fed_in : TransferList → Frame → TransferList
fed_in transfers frame =
    if is_some (place_for frame transfers.list) then record transfers { list = fed_at transfers.list frame (place_for frame transfers.list) }
    else record transfers { drains = fed_drain transfers.drains frame (drain_for frame transfers.drains) }

abbrev pub is_live_in : ℕ → TransferList → Bool
is_live_in tag transfers = is_some (place_with tag transfers.list) || is_some (drain_with tag transfers.drains)

-- ---- the functions that wait

abbrev pub function_tag : Drained → ℕ
function_tag drained = initiator_task_tag drained.function

-- data is still to come for which the function with this tag waits
abbrev pub lacks_for : List Drained → ℕ → Bool
lacks_for drains tag = list_any (λ drained. function_tag drained == tag && is_draining drained) drains

-- the place of the first data whose function need not wait any longer
abbrev pub telling_place : List Drained → Option ℕ
telling_place drains = position (λ drained. not (lacks_for drains (function_tag drained))) drains

abbrev pub function_at : List Drained → Option ℕ → Option (List ℕ)
function_at drains at = option_map (λ i. (drained_at drains i).function) at

-- the function with this tag is finished
abbrev pub drains_without : ℕ → List Drained → List Drained
drains_without tag drains = filter (λ drained. not (function_tag drained == tag)) drains

abbrev pub told_in : TransferList → Option ℕ → TransferList
told_in transfers None = transfers
told_in transfers (Some i) = record transfers { drains = drains_without (function_tag (drained_at transfers.drains i)) transfers.drains }

-- the data of a command that it reaches, as a function is to wait for it
abbrev pub drained_for : List ℕ → Transfer → Drained
drained_for function transfer = record { function = function; transfer = blanked transfer }

abbrev pub is_awaited : FunctionReach → Transfer → Bool
is_awaited reach transfer = reaches reach transfer.header && is_asked transfer.task

abbrev pub awaited_in : FunctionReach → List Transfer → List Drained
awaited_in reach transfers = map (drained_for reach.function) (filter (is_awaited reach) transfers)

abbrev pub awaits_in : FunctionReach → List Transfer → Bool
awaits_in reach transfers = waits reach && list_any (is_awaited reach) transfers
