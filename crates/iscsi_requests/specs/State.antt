-- What a session remembers of its past.
use Rattle.std.specs.Prelude.{◌≡◌, All, ℕ, zero, suc, ◌+◌, ◌-◌, ◌^◌, ◌%◌, ◌<◌, List, [], ◌∷◌, ◌++◌, length, map, filter, filter_map, find, position, remove, drop, take, replicate, Bool, true, false, ◌&&◌, ◌||◌, not, ◌==◌, nat_lt, Option, Some, None, is_some, option_map, slice_index_or, slice_set, if◌then◌else◌, ⊤}
use Rattle.std.specs.List.{range_with_len, prefix_len, list_any}
use Rattle.iscsi_pdu.specs.Header.{is_immediate, cmd_sn, initiator_task_tag}
use Rattle.iscsi_pdu.specs.Frames.{Frame}
use Rattle.iscsi_login.specs.declared.session_params.SessionParams.{SessionParams}
use Rattle.iscsi_order.specs.Window as order
use Rattle.iscsi_order.specs.WindowState as windows
use Rattle.iscsi_order.specs.Serial.{distance}
use Rattle.iscsi_order.specs.Stat.{stat_sn}
use Rattle.iscsi_requests.specs.Requests.{Request, Past, Drain, has_number, numbers, numbered, counted, over, left, is_command, commands, others, is_in, frame_of, taken, due, queue, frames_of, unfinished, is_function, functions, statuses}
use Rattle.iscsi_pdu.specs.declared.r2t.R2t.{R2t}
use Rattle.iscsi_pdu.specs.declared.stamp.Stamp.{Stamp}
use Rattle.iscsi_transfer.specs.WriteData.{WriteDataState, due_asks, is_due, is_whole, with_data, with_asked, command_fault}
use Rattle.iscsi_requests.specs.declared.transfers.Transfer.{Transfer}
use Rattle.iscsi_requests.specs.Drained.{Drained, blanked}
use Rattle.iscsi_requests.specs.declared.verdict.Verdict.{Verdict}
use Rattle.iscsi_requests.specs.Texts.{exchange_of}
use Rattle.iscsi_requests.specs.Functions.{FunctionReach, reaches, plug, is_plug}
use Rattle.iscsi_exchange.specs.ExchangeState.{ExchangeState}
use Rattle.iscsi_requests.specs.Transfers.{tag_of, task_at, verdict_on, next_transfer_tag, drains_of, r2ts_for}

-- the requests that are not finished, SCSI Commands without the data that they brought, and the numbers
pub record TaskLists : Type 0 where
  -- the CmdSN that is taken next
  pub next : ℕ
  -- how many numbers were taken whose requests are not finished
  pub unfinished : ℕ
  -- for each number from the next one on, as many as the window has: the request, if it has come
  pub held : List (Option Frame)
  -- the requests that are taken and have not acted, in order
  pub due : List Frame
  -- the SCSI Commands that acted, in order
  pub queue : List Frame

abbrev pub no_tasks : ℕ → TaskLists
no_tasks first = record { next = first; unfinished = 0; held = replicate 32 None; due = []; queue = [] }

pub record TransferList : Type 0 where
  -- the Target Transfer Tag of the next R2T
  pub next_tag : ℕ
  -- of the SCSI Commands that are not finished, in the order in which they came
  pub list : List Transfer
  -- of those that were removed and whose data Task Management Function Requests wait for
  pub drains : List Drained

pub record SessionState : Type 0 where
  pub params : SessionParams
  -- the StatSN of the next answer
  pub stat : ℕ
  pub tasks : TaskLists
  pub transfers : TransferList
  -- the headers of the Task Management Function Requests that are not finished, in the order in which they came
  pub functions : List (List ℕ)
  pub exchange : ExchangeState

-- own: the placeholder for a request that was removed. Its opcode is not one of an initiator's, and it does nothing.
abbrev pub void : Bool → Frame
void immediate = record { header = (if immediate then 0x7F else 0x3F) ∷ replicate 47 0; body = [] }

abbrev pub voided : Request → Request
voided request = record request { frame = void (is_immediate request.frame.header) }

-- own: a SCSI Command is kept without the data that it brought, which is in its transfer
abbrev pub bare_command : List ℕ → Frame
bare_command header = record { header = header; body = [] }

-- every other request is kept as it came
abbrev pub bare : Frame → Frame
bare frame = record frame { body = if is_command frame then [] else frame.body }

abbrev pub bare_frames : List Request → List ℕ → List Frame
bare_frames came names = map (λ k. bare (frame_of came k)) names

abbrev pub bared : Request → Request
bared request = record request { frame = bare request.frame }

-- the requests from the name k on as they are kept, with those that were removed voided
abbrev pub standing_from : List ℕ → ℕ → List Request → List Request
standing_from removed k [] = []
standing_from removed k (request ∷ came) = (if is_in k removed then voided request else bared request) ∷ standing_from removed (suc k) came

unfoldable pub standing : Past → List Request
standing past = standing_from past.removed 0 past.came

-- the request with this number
abbrev pub frame_numbered : List Request → ℕ → Option Frame
frame_numbered came k = option_map (λ r. r.frame) (find (λ r. has_number k r.number) came)

-- the lists, if this many numbers are taken
abbrev pub tasks_with : Past → ℕ → List Frame → TaskLists
tasks_with past handed line = record {
  next = (past.params.first_cmd_sn + handed) % 2 ^ 32;
  unfinished = handed - counted past.came (over past);
  held = map (frame_numbered (standing past)) (range_with_len handed order.window);
  due = line;
  queue = bare_frames past.came (queue past);
}

unfoldable pub tasks_of : Past → TaskLists
tasks_of past = tasks_with past (numbers past).handed (frames_of (standing past) (due past))

abbrev pub transfer_of : Past → ℕ → Transfer
transfer_of past k = record { header = (frame_of past.came k).header; task = task_at past k }

-- the data, and the header of the function that waits for it
abbrev pub drained_of : Past → Drain → Drained
drained_of past d = record { function = (frame_of past.came d.function).header; transfer = blanked (transfer_of past d.command) }

unfoldable pub transfers_of : Past → TransferList
transfers_of past = record {
  next_tag = next_transfer_tag past;
  list = map (transfer_of past) (unfinished past);
  drains = map (drained_of past) (drains_of past);
}

unfoldable pub functions_of : Past → List (List ℕ)
functions_of past = map (λ k. (frame_of past.came k).header) (functions past)

abbrev pub remembered : Past → SessionState
remembered past = record {
  params = past.params;
  stat = stat_sn (statuses past);
  tasks = tasks_of past;
  transfers = transfers_of past;
  functions = functions_of past;
  exchange = exchange_of past;
}

-- only the numbers
abbrev pub window_of : TaskLists → windows.WindowState
window_of tasks = record { next = tasks.next; unfinished = tasks.unfinished; held = map is_some tasks.held }

-- ---- what can have happened

-- no number comes twice
abbrev pub AreDistinct : List ℕ → Type 0
AreDistinct [] = ⊤
AreDistinct (k ∷ ks) = (order.has_come ks k ≡ false) × AreDistinct ks

-- one for immediate delivery has no number, and every other one has
abbrev pub IsDelivered : Request → Type 0
IsDelivered request = is_some request.number ≡ not (is_immediate request.frame.header)

-- the functions that were to wait have acted, and the commands that they wait for were removed, each once
pub record AreDrained (past : Past) : Type 0 where
  pub functions : All (λ d. is_function (frame_of past.came d.function) ≡ true) past.drains
  pub acted : All (λ d. is_in d.function past.finished ≡ true) past.drains
  pub answered : All (λ k. is_in k past.finished ≡ true) past.answered
  pub removed : All (λ d. is_in d.command past.removed ≡ true) past.drains
  pub once : AreDistinct (map (λ d. d.command) past.drains)

pub record IsLawful (past : Past) : Type 0 where
  pub window : windows.IsLawful (numbers past)
  pub distinct : AreDistinct (numbered past.came)
  pub delivered : All IsDelivered past.came
  -- what acted was taken, in the same order, and came
  pub in_order : taken past.came ≡ past.acted ++ due past
  pub below : All (λ k. k < length past.came) past.acted
  -- what is finished acted: the SCSI Commands in the order of the queue, every other request at once
  pub acted : All (λ k. is_in k past.acted ≡ true) past.finished
  pub queued : commands past.came past.finished ++ queue past ≡ left past.removed (commands past.came past.acted)
  pub at_once : others past.came past.finished ≡ others past.came past.acted
  -- the numbers taken are those of the requests taken
  pub handed : counted past.came (taken past.came) ≡ (numbers past).handed
  -- data came and was asked for only of commands that came
  pub fed : All (λ d. d.command < length past.came) past.data_outs
  pub asked : All (λ r. r.command < length past.came) past.r2ts
  -- RFC 7143 §11.2.1.8: no two SCSI Commands that are not finished have one tag
  pub tags : AreDistinct (map (tag_of past.came) (unfinished past))
  -- and no two Task Management Function Requests
  pub function_tags : AreDistinct (map (tag_of past.came) (functions past))
  -- those that were removed are SCSI Commands, and none of them is finished
  pub removed_below : All (λ k. k < length past.came) past.removed
  pub removed_commands : All (λ k. is_command (frame_of past.came k) ≡ true) past.removed
  pub apart : All (λ k. is_in k past.removed ≡ false) past.finished
  pub drained : AreDrained past

-- the session remembers this past
pub record Stands (past : Past) (state : SessionState) : Type 0 where
  pub lawful : IsLawful past
  pub remembered : state ≡ remembered past

-- ---- what the code does to its lists

-- the request with CmdSN n is within the window, and has not come
abbrev pub is_vacant : TaskLists → ℕ → Bool
is_vacant tasks n = nat_lt (distance tasks.next n) (order.window - tasks.unfinished) && not (is_some (slice_index_or tasks.held (distance tasks.next n) None))

abbrev pub is_vacant_for : TaskLists → Frame → Bool
is_vacant_for tasks frame = is_immediate frame.header || is_vacant tasks (cmd_sn frame.header)

abbrev pub holding : ℕ → Frame → TaskLists → TaskLists
holding n frame tasks = record tasks { held = slice_set tasks.held (distance tasks.next n) (Some frame) }

-- the next number is taken
abbrev pub takes_next : TaskLists → TaskLists
takes_next tasks = record tasks {
  next = (tasks.next + 1) % 2 ^ 32;
  unfinished = tasks.unfinished + 1;
  held = drop 1 tasks.held ++ None ∷ [];
  due = tasks.due ++ filter_map (λ o. o) (take 1 tasks.held);
}

abbrev pub takes : ℕ → TaskLists → TaskLists
takes zero tasks = tasks
takes (suc n) tasks = takes n (takes_next tasks)

-- all that have come before the first missing one are taken
abbrev pub takes_all : TaskLists → TaskLists
takes_all tasks = takes (prefix_len (λ o. is_some o) tasks.held) tasks

-- a request with a number is finished
abbrev pub one_fewer : Frame → TaskLists → TaskLists
one_fewer frame tasks = if is_immediate frame.header then tasks else record tasks { unfinished = tasks.unfinished - 1 }

-- a request that is accepted is kept: one for immediate delivery is taken at once
abbrev pub kept : Frame → TaskLists → TaskLists
kept frame tasks = if is_immediate frame.header then record tasks { due = tasks.due ++ frame ∷ [] } else takes_all (holding (cmd_sn frame.header) frame tasks)

-- ---- what a Task Management Function Request does to them

-- a SCSI Command that it reaches is voided
abbrev pub reaches_frame : FunctionReach → Frame → Bool
reaches_frame reach frame = is_command frame && reaches reach frame.header

abbrev pub void_if : FunctionReach → Frame → Frame
void_if reach frame = if reaches_frame reach frame then void (is_immediate frame.header) else frame

-- whether a command stays in the queue; one that it reaches leaves it, and is finished
abbrev pub stays : FunctionReach → Frame → Bool
stays reach frame = not (reaches_frame reach frame)

abbrev pub counts_out : FunctionReach → Frame → Bool
counts_out reach frame = reaches_frame reach frame && not (is_immediate frame.header)

abbrev pub without : FunctionReach → TaskLists → TaskLists
without reach tasks = record tasks {
  unfinished = tasks.unfinished - length (filter (counts_out reach) tasks.queue);
  held = map (option_map (void_if reach)) tasks.held;
  due = map (void_if reach) tasks.due;
  queue = filter (stays reach) tasks.queue;
}

-- the first of the queue leaves it, or moves to its end
abbrev pub swept_one : FunctionReach → Frame → List Frame → TaskLists → TaskLists
swept_one reach frame others tasks =
    if reaches_frame reach frame then one_fewer frame (record tasks { queue = others }) else record tasks { queue = others ++ frame ∷ [] }

-- what has come with this number, and is held
abbrev pub held_numbered : TaskLists → ℕ → Option Frame
held_numbered tasks n = slice_index_or tasks.held (distance tasks.next n) None

abbrev pub is_some_plug : Option Frame → Bool
is_some_plug None = false
is_some_plug (Some frame) = is_plug frame

-- the first that is due is finished, and a number is plugged
abbrev pub plugged_behind : ℕ → TaskLists → List Frame → TaskLists
plugged_behind n tasks [] = tasks
plugged_behind n tasks (frame ∷ others) = takes_all (holding n plug (one_fewer frame (record tasks { due = others })))

-- how many acts follow at most: a Task Management Function Request may plug a number
abbrev pub weight : Frame → ℕ
weight frame = if is_function frame then 2 else 1

abbrev pub weigh : List Frame → ℕ
weigh [] = 0
weigh (frame ∷ frames) = weight frame + weigh frames

abbrev pub waiting : TaskLists → ℕ
waiting tasks = weigh (filter_map (λ o. o) tasks.held) + weigh tasks.due

-- ---- what the code does to the data of its commands

abbrev pub no_transfers : TransferList
no_transfers = record { next_tag = 0; list = []; drains = [] }

abbrev pub no_transfer : Transfer
no_transfer = record {
  header = [];
  task = record {
    payload = [];
    expected = 0;
    first_burst = 0;
    burst = 0;
    unsolicited = 0;
    is_open = false;
    sequence_length = 0;
    outstanding = 0;
    sent = 0;
    open_tags = [];
  };
}

abbrev pub transfer_at : List Transfer → ℕ → Transfer
transfer_at transfers i = slice_index_or transfers i no_transfer

abbrev pub bears : ℕ → Transfer → Bool
bears tag transfer = initiator_task_tag transfer.header == tag

abbrev pub place_with : ℕ → List Transfer → Option ℕ
place_with tag transfers = position (bears tag) transfers

abbrev pub place_for : Frame → List Transfer → Option ℕ
place_for frame transfers = place_with (initiator_task_tag frame.header) transfers

abbrev pub begun_transfer : List ℕ → WriteDataState → Transfer
begun_transfer header task = record { header = header; task = task }

abbrev pub immediate_transfers : List Transfer → ℕ
immediate_transfers transfers = length (filter (λ transfer. is_immediate transfer.header) transfers)

-- the verdict on a Data-Out for the command at this place
abbrev pub judged_at : List Transfer → Frame → Option ℕ → Verdict
judged_at transfers frame at = verdict_on frame (option_map (λ i. (transfer_at transfers i).task) at)

abbrev pub fed_at : List Transfer → Frame → Option ℕ → List Transfer
fed_at transfers frame None = transfers
fed_at transfers frame (Some i) = slice_set transfers i (record (transfer_at transfers i) { task = with_data (transfer_at transfers i).task frame })

-- the data of the commands that a Task Management Function Request does not reach
abbrev pub transfers_without : FunctionReach → List Transfer → List Transfer
transfers_without reach transfers = filter (λ transfer. not (reaches reach transfer.header)) transfers

abbrev pub reaches_some : FunctionReach → List Transfer → Bool
reaches_some reach transfers = list_any (λ transfer. reaches reach transfer.header) transfers

abbrev pub whole_at : List Transfer → Option ℕ → Bool
whole_at transfers None = true
whole_at transfers (Some i) = is_whole (transfer_at transfers i).task

abbrev pub payload_at : List Transfer → Option ℕ → List ℕ
payload_at transfers None = []
payload_at transfers (Some i) = (transfer_at transfers i).task.payload

abbrev pub removed_at : List Transfer → Option ℕ → List Transfer
removed_at transfers None = transfers
removed_at transfers (Some i) = remove transfers i

abbrev pub asking_place : List Transfer → Option ℕ
asking_place transfers = position (λ transfer. is_due transfer.task) transfers

-- the due R2Ts of the command at this place
abbrev pub r2ts_at : TransferList → Stamp → ℕ → List R2t
r2ts_at transfers numbers_now i =
    let transfer = transfer_at transfers.list i in r2ts_for transfer.header transfers.next_tag numbers_now (due_asks transfer.task)

abbrev pub sent_to : List R2t → Transfer → Transfer
sent_to r2ts transfer = record transfer { task = with_asked (map (λ r2t. r2t.target_transfer_tag) r2ts) transfer.task }

-- these R2Ts are sent
abbrev pub sent_at : ℕ → List R2t → TransferList → TransferList
sent_at i r2ts transfers = record {
  next_tag = (transfers.next_tag + length r2ts) % 0xFFFFFFFF;
  list = slice_set transfers.list i (sent_to r2ts (transfer_at transfers.list i));
  drains = transfers.drains;
}

-- the first command of the queue waits for data, or there is none
abbrev pub is_waiting_by : List Frame → List Transfer → Bool
is_waiting_by [] transfers = true
is_waiting_by (frame ∷ others) transfers = not (whole_at transfers (place_for frame transfers))

abbrev pub is_waiting : SessionState → Bool
is_waiting state = is_waiting_by state.tasks.queue state.transfers.list

-- ---- what the code does to its Task Management Function Requests

abbrev pub function_place : ℕ → List (List ℕ) → Option ℕ
function_place tag headers = position (λ header. initiator_task_tag header == tag) headers

abbrev pub immediate_functions : List (List ℕ) → ℕ
immediate_functions headers = length (filter is_immediate headers)

abbrev pub function_removed : List (List ℕ) → Option ℕ → List (List ℕ)
function_removed headers None = headers
function_removed headers (Some i) = remove headers i

-- its tag is not live, and the data of a SCSI Command is as agreed
pub record IsLawfulTask (state : SessionState) (frame : Frame) : Type 0 where
  pub tag : place_for frame state.transfers.list ≡ None
  pub function_tag : function_place (initiator_task_tag frame.header) state.functions ≡ None
  pub agreed : is_command frame ≡ true → command_fault state.params.values frame ≡ None

abbrev pub IsAcceptable : SessionState → Frame → Type 0
IsAcceptable state frame = (is_command frame || is_function frame) ≡ true → IsLawfulTask state frame
