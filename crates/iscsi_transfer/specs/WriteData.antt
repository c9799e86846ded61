-- The rules of a command's data (RFC 7143 §11.7, §11.8), in terms of what is remembered of its past.
use Rattle.std.specs.Prelude.{ℕ, ◌+◌, ◌-◌, ◌*◌, ◌/◌, min, List, [], ◌∷◌, ◌++◌, length, map, drop, get_or, replicate, Bool, ◌&&◌, ◌||◌, not, ◌==◌, nat_lt, nat_le, Option, Some, None, is_some, if◌then◌else◌}
use Rattle.std.specs.Int.{div_ceil}
use Rattle.std.specs.List.{range_with_len}
use Rattle.iscsi_pdu.specs.Frames.{Frame}
use Rattle.iscsi_pdu.specs.ScsiCommand.{is_write}
use Rattle.iscsi_pdu.specs.DataOut.{no_transfer_tag, target_transfer_tag, data_sn, buffer_offset}
use Rattle.iscsi_login.specs.declared.values.Values.{Values}
use Rattle.iscsi_transfer.specs.Payload.{Past, is_last, announces, is_open, payload, u, sequence_length, expected}
use Rattle.iscsi_transfer.specs.declared.fault.DataFault.{DataFault}
use Rattle.iscsi_transfer.specs.declared.fault.DataFault.TheVariants as faults
use Rattle.iscsi_transfer.specs.declared.progress.Ask.{Ask}

-- the state of a command's data
pub record WriteDataState : Type 0 where
  -- the data that has come
  pub payload : List ℕ
  -- how many bytes the command takes
  pub expected : ℕ
  -- FirstBurstLength and MaxBurstLength
  pub first_burst : ℕ
  pub burst : ℕ
  -- how many bytes came unsolicited, and whether more unsolicited Data-Outs are to come
  pub unsolicited : ℕ
  pub is_open : Bool
  -- how many Data-Outs of the open sequence have come
  pub sequence_length : ℕ
  -- MaxOutstandingR2T: how many R2Ts may be open at a time
  pub outstanding : ℕ
  -- how many R2Ts were sent
  pub sent : ℕ
  -- the Target Transfer Tags of those whose data has not all come, in the order in which they were sent
  pub open_tags : List ℕ

-- how many whole bursts have come after the unsolicited data; none while more unsolicited data is to come
abbrev pub bursts_in : Bool → ℕ → ℕ → ℕ → ℕ
bursts_in is_open length unsolicited burst = if is_open then 0 else (length - unsolicited) / burst

abbrev pub filled_of : Past → ℕ
filled_of past = bursts_in (is_open past) (length (payload past)) (u past) past.values.max_burst_length

unfoldable pub remembered : Past → WriteDataState
remembered past = record {
  payload = payload past;
  expected = expected past.command;
  first_burst = past.values.first_burst_length;
  burst = past.values.max_burst_length;
  unsolicited = u past;
  is_open = is_open past;
  sequence_length = sequence_length past;
  outstanding = past.values.max_outstanding_r2t;
  sent = length past.tags;
  open_tags = drop (filled_of past) past.tags;
}

-- ---- the command

-- RFC 7143 §13.14: how many bytes may come unsolicited
abbrev pub unsolicited_limit : ℕ → ℕ → ℕ
unsolicited_limit first_burst expected = min first_burst expected

-- what is wrong with a command: immediate data that was not agreed (RFC 7143 §13.11), unsolicited Data-Outs
-- that were not agreed (§13.10), or too much data
abbrev pub command_fault : Values → Frame → Option DataFault
command_fault values command =
    if nat_lt 0 (length command.body) && not (is_write command.header && values.immediate_data) then Some faults.ImmediateData
    else if announces command && values.initial_r2t then Some faults.UnsolicitedData
    else if nat_lt (unsolicited_limit values.first_burst_length (expected command)) (length command.body) then Some faults.TooMuch
    else None

-- ---- what the target asks for

-- profile: the longest payload that R2Ts ask for, in bytes
abbrev pub most_wanted : ℕ
most_wanted = 1048576

-- profile: the length that the payload is to have; if that is too long to ask for, the unsolicited data is all
abbrev pub wanted : WriteDataState → ℕ
wanted task = if nat_le task.expected most_wanted then task.expected else task.unsolicited

-- RFC 7143 §11.8.4 and §13.13: R2T number k asks for the k-th burst after the unsolicited data, up to the end
abbrev pub ask_at : ℕ → ℕ → ℕ → ℕ → Ask
ask_at start burst end k = let offset = start + k * burst in record { number = k; offset = offset; length = min burst (end - offset) }

abbrev pub ask : WriteDataState → ℕ → Ask
ask task k = ask_at task.unsolicited task.burst (wanted task) k

-- how many whole bursts have come after the unsolicited data, each for one R2T
abbrev pub filled : WriteDataState → ℕ
filled task = bursts_in task.is_open (length task.payload) task.unsolicited task.burst

-- the R2T that the payload has reached
abbrev pub next_ask : WriteDataState → Ask
next_ask task = ask task (filled task)

-- the unsolicited data has ended, and more is wanted
abbrev pub lacks_data : WriteDataState → Bool
lacks_data task = not task.is_open && nat_lt (length task.payload) (wanted task)

-- how many R2Ts the command takes in all
abbrev pub bursts_wanted : WriteDataState → ℕ
bursts_wanted task = div_ceil (wanted task - task.unsolicited) task.burst

-- RFC 7143 §13.17: how many may have been sent, with no more than MaxOutstandingR2T open
abbrev pub allowed : WriteDataState → ℕ
allowed task = min (bursts_wanted task) (filled task + task.outstanding)

-- the R2Ts that are due, in rising number: those that may be sent and were not
abbrev pub due_asks : WriteDataState → List Ask
due_asks task = if lacks_data task then map (ask task) (range_with_len task.sent (allowed task - task.sent)) else []

abbrev pub first : List Ask → Option Ask
first [] = None
first (ask ∷ asks) = Some ask

abbrev pub is_due : WriteDataState → Bool
is_due task = is_some (first (due_asks task))

-- an R2T is open: not all that it asked for has come
abbrev pub is_asked : WriteDataState → Bool
is_asked task = lacks_data task && nat_lt (filled task) task.sent

-- the payload is whole
abbrev pub is_whole : WriteDataState → Bool
is_whole task = not task.is_open && length task.payload == wanted task

-- ---- a Data-Out

-- RFC 7143 §11.7.4: the tag of the open sequence: FFFFFFFFh for unsolicited data, else that of the first open R2T
abbrev pub sequence_tag : WriteDataState → ℕ
sequence_tag task = if task.is_open then no_transfer_tag else get_or task.open_tags 0 no_transfer_tag

-- where the open sequence ends at the latest
abbrev pub sequence_end : WriteDataState → ℕ
sequence_end task =
    if task.is_open then unsolicited_limit task.first_burst task.expected else (next_ask task).offset + (next_ask task).length

abbrev pub has_sequence : WriteDataState → Bool
has_sequence task = task.is_open || is_asked task

-- RFC 7143 §11.7.1: F may end unsolicited data anywhere, and ends what an R2T asked for exactly at its end
abbrev pub ends_rightly : WriteDataState → Frame → Bool
ends_rightly task out =
    let at_end = length task.payload + length out.body == sequence_end task in
    task.is_open || (if is_last out then at_end else not at_end)

-- the first thing that is wrong with a Data-Out
unfoldable pub fault_of : WriteDataState → Frame → Option DataFault
fault_of task out =
    if not (has_sequence task && target_transfer_tag out.header == sequence_tag task) then Some faults.TransferTag
    else if not (data_sn out.header == task.sequence_length) then Some faults.DataSn
    else if not (buffer_offset out.header == length task.payload) then Some faults.BufferOffset
    else if nat_lt (sequence_end task) (length task.payload + length out.body) then Some faults.TooMuch
    else if not (ends_rightly task out) then Some faults.Final
    else None

-- ---- what happens

-- the data of a Data-Out is appended
abbrev pub grown : WriteDataState → Frame → WriteDataState
grown task out = record task {
  payload = task.payload ++ out.body;
  unsolicited = if task.is_open then length (task.payload ++ out.body) else task.unsolicited;
  is_open = task.is_open && not (is_last out);
  sequence_length = if is_last out then 0 else task.sequence_length + 1;
}

-- a Data-Out is accepted: an R2T is open until its last byte is there
unfoldable pub with_data : WriteDataState → Frame → WriteDataState
with_data task out = record (grown task out) { open_tags = drop (filled (grown task out) - filled task) task.open_tags }

-- R2Ts with these tags are sent; one for data that has come already would not be open
unfoldable pub with_asked : List ℕ → WriteDataState → WriteDataState
with_asked tags task = record task {
  sent = task.sent + length tags;
  open_tags = task.open_tags ++ drop (filled task - task.sent) tags;
}

-- the same without the data: zeros in its place
abbrev pub blank : WriteDataState → WriteDataState
blank task = record task { payload = replicate (length task.payload) 0 }
