-- The requests of a session in full feature phase: plain lists of what came, of what acted and is finished, and what is
-- computed from them.
use Rattle.std.specs.Prelude.{ℕ, zero, suc, ◌+◌, List, [], ◌∷◌, ◌++◌, length, map, filter, filter_map, flat_map, max, Bool, true, false, not, ◌==◌, Option, Some, None, is_some, slice_index_or, if◌then◌else◌}
use Rattle.std.specs.List.{position_or_len, range_with_len}
use Rattle.iscsi_pdu.specs.Header.{opcode_number, is_immediate, cmd_sn}
use Rattle.iscsi_pdu.specs.Frames.{Frame}
use Rattle.iscsi_pdu.specs.declared.answer.Answer.{Answer}
use Rattle.iscsi_pdu.specs.declared.answer.Answer.TheVariants as answers
use Rattle.iscsi_pdu.specs.declared.stamp.Stamp.{Stamp}
use Rattle.iscsi_login.specs.declared.session_params.SessionParams.{SessionParams}
use Rattle.iscsi_order.specs.Window as order
use Rattle.iscsi_order.specs.Stat.{stat_sn}

-- a request that was accepted; its number is counted from the session's first, and one for immediate
-- delivery has none (RFC 7143 §4.2.2.1)
pub record Request : Type 0 where
  pub number : Option ℕ
  pub frame : Frame

-- a SCSI Data-Out that was accepted, and the name of the SCSI Command whose tag it had (RFC 7143 §11.7)
pub record DataOut : Type 0 where
  pub command : ℕ
  pub frame : Frame

-- an R2T that was sent, and the name of the SCSI Command for whose data it asked (RFC 7143 §11.8)
pub record SentR2t : Type 0 where
  pub command : ℕ
  -- its Target Transfer Tag
  pub tag : ℕ

-- data that is drained (RFC 7143 §4.2.3.3), of a SCSI Command that was removed while an R2T was open for it. The Task
-- Management Function Request of its session that removed it is answered when that data has come.
pub record Drain : Type 0 where
  pub function : ℕ
  pub command : ℕ

-- A request is named by its place among those that came.
pub record Past : Type 0 where
  pub params : SessionParams
  -- the requests that were accepted, in the order in which they came
  pub came : List Request
  -- the data that was accepted for them, and the R2Ts that were sent, each in order
  pub data_outs : List DataOut
  pub r2ts : List SentR2t
  -- the names of those that acted, are finished, and were removed before they were, each in the order in which they were
  pub acted : List ℕ
  pub finished : List ℕ
  pub removed : List ℕ
  -- the data that functions were to wait for as they acted, and those of these functions that were answered since
  pub drains : List Drain
  pub answered : List ℕ
  -- what was answered in full feature phase, in order
  pub answers : List Answer

abbrev pub begun : SessionParams → Past
begun params = record {
  params = params;
  came = [];
  data_outs = [];
  r2ts = [];
  acted = [];
  finished = [];
  removed = [];
  drains = [];
  answered = [];
  answers = [];
}

-- ---- names

abbrev pub no_request : Request
no_request = record { number = None; frame = record { header = []; body = [] } }

abbrev pub request_at : List Request → ℕ → Request
request_at came k = slice_index_or came k no_request

abbrev pub frame_of : List Request → ℕ → Frame
frame_of came k = (request_at came k).frame

abbrev pub is_in : ℕ → List ℕ → Bool
is_in k names = order.has_come names k

-- those that are not among the gone
unfoldable pub left : List ℕ → List ℕ → List ℕ
left gone names = filter (λ k. not (is_in k gone)) names

-- RFC 7143 §11.2.1.2: a SCSI Command
abbrev pub is_command : Frame → Bool
is_command frame = opcode_number frame.header == 0x01

-- RFC 7143 §11.2.1.2: a Task Management Function Request
abbrev pub is_function : Frame → Bool
is_function frame = opcode_number frame.header == 0x02

abbrev pub commands : List Request → List ℕ → List ℕ
commands came names = filter (λ k. is_command (frame_of came k)) names

abbrev pub others : List Request → List ℕ → List ℕ
others came names = filter (λ k. not (is_command (frame_of came k))) names

-- the Task Management Function Requests that acted and wait for data
abbrev pub pending : Past → List ℕ
pending past = left past.answered (map (λ d. d.function) past.drains)

-- the requests that are over: those that are finished and do not wait, and those that were removed and whose turn has come
abbrev pub over : Past → List ℕ
over past = left (pending past) past.finished ++ filter (λ k. is_in k past.removed) past.acted

-- how many of these have a number
abbrev pub counted : List Request → List ℕ → ℕ
counted came names = length (filter (λ k. is_some (request_at came k).number) names)

-- ---- in which order requests are taken

abbrev pub has_number : ℕ → Option ℕ → Bool
has_number k None = false
has_number k (Some number) = number == k

-- the place of the request with this number; if there is none, after all others
abbrev pub place_of : List Request → ℕ → ℕ
place_of came k = position_or_len (λ r. has_number k r.number) came

-- the moment of a number: the greatest place among those of 0 to k
abbrev pub moment : List Request → ℕ → ℕ
moment came zero = place_of came zero
moment came (suc k) = max (moment came k) (place_of came (suc k))

-- the requests taken at one place: the one for immediate delivery, or numbers rising (no more than there are places)
unfoldable pub taken_at : List Request → ℕ → List ℕ
taken_at came p =
    (if is_some (request_at came p).number then [] else p ∷ []) ++ map (place_of came) (filter (λ k. moment came k == p) (range_with_len 0 (p + 1)))

-- RFC 7143 §4.2.2.1: one for immediate delivery is taken at once, and one with a number once it and all before it have
-- come
unfoldable pub taken : List Request → List ℕ
taken came = flat_map (taken_at came) (range_with_len 0 (length came))

-- ---- numbers

abbrev pub numbered : List Request → List ℕ
numbered came = filter_map (λ r. r.number) came

-- the numbers of a session: each is handed over when it is taken
abbrev pub numbers : Past → order.Past
numbers past =
    let so_far : order.Past = record { first = past.params.first_cmd_sn; came = numbered past.came; handed = 0; finished = counted past.came (over past) } in
    record so_far { handed = length (order.taken so_far) }

-- ---- what is under way

-- those that came ahead of a missing number
unfoldable pub held : Past → List ℕ
held past = map (place_of past.came) (filter (order.has_come (numbered past.came)) (range_with_len (numbers past).handed order.window))

-- those that are taken and have not acted, in the order in which they act; one that was removed does nothing then
unfoldable pub due : Past → List ℕ
due past = left past.acted (taken past.came)

-- the SCSI Commands that acted and are not finished; they are done in this order
unfoldable pub queue : Past → List ℕ
queue past = left past.removed (left past.finished (commands past.came past.acted))

-- the SCSI Commands that came and are not finished, held or taken, in the order in which they came
unfoldable pub unfinished : Past → List ℕ
unfinished past = left past.removed (left past.finished (commands past.came (range_with_len 0 (length past.came))))

-- the Task Management Function Requests that came and are not finished, held or taken, in the order in which they came
unfoldable pub functions : Past → List ℕ
functions past = left past.removed
    (left (left (pending past) past.finished) (filter (λ k. is_function (frame_of past.came k)) (range_with_len 0 (length past.came))))

abbrev pub frames_of : List Request → List ℕ → List Frame
frames_of came names = map (frame_of came) names

-- ---- sequence numbers of answers (RFC 7143 §4.2.2)

-- an answer that bears status uses a StatSN; a Data-In and an R2T do not
abbrev pub bears_status : Answer → Bool
bears_status (answers.LoginResponse response) = true
bears_status (answers.ScsiResponse response) = true
bears_status (answers.TaskManagementResponse response) = true
bears_status (answers.DataIn piece) = false
bears_status (answers.NopIn ping) = true
bears_status (answers.R2t ask) = false
bears_status (answers.LogoutResponse response) = true
bears_status (answers.TextResponse response) = true
bears_status (answers.Reject refusal) = true

abbrev pub bearing : List Answer → ℕ
bearing given = length (filter bears_status given)

-- the answers that bore status: those of the login, and those after it
abbrev pub statuses : Past → ℕ
statuses past = past.params.next_stat_sn + bearing past.answers

-- the sequence numbers of the next answer
unfoldable pub stamp : Past → Stamp
stamp past = record {
  stat_sn = stat_sn (statuses past);
  exp_cmd_sn = order.exp_cmd_sn (numbers past);
  max_cmd_sn = order.max_cmd_sn (numbers past);
}

-- ---- what happens

abbrev pub number_for : Past → Frame → Option ℕ
number_for past frame = if is_immediate frame.header then None else Some (order.index_of (numbers past) (cmd_sn frame.header))

-- a request is accepted
abbrev pub accepted : Frame → Past → Past
accepted frame past = record past { came = past.came ++ record { number = number_for past frame; frame = frame } ∷ [] }

abbrev pub finished : ℕ → Past → Past
finished k past = record past { finished = past.finished ++ k ∷ [] }

-- a SCSI Command joins the queue, and every other request is finished at once
abbrev pub moved : ℕ → Past → Past
moved k past =
    if is_command (frame_of past.came k) then record past { acted = past.acted ++ k ∷ [] } else finished k (record past { acted = past.acted ++ k ∷ [] })

-- own: SCSI Commands are removed before they are finished
abbrev pub removing : List ℕ → Past → Past
removing names past = record past { removed = past.removed ++ names }

abbrev pub drain_for : ℕ → ℕ → Drain
drain_for function command = record { function = function; command = command }

-- a function waits for the data of these commands
abbrev pub draining : ℕ → List ℕ → Past → Past
draining k names past = record past { drains = past.drains ++ map (drain_for k) names }

abbrev pub answering : List Answer → Past → Past
answering more past = record past { answers = past.answers ++ more }
