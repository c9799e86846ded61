-- The data that initiators send for the SCSI Commands of a session, and the R2Ts that ask for it.
use Rattle.std.specs.Prelude.{ℕ, ◌+◌, ◌%◌, List, [], ◌∷◌, ◌++◌, length, map, filter, find, Bool, not, ◌==◌, Option, Some, None, is_some, if◌then◌else◌}
use Rattle.iscsi_pdu.specs.Header.{initiator_task_tag, lun_field}
use Rattle.iscsi_pdu.specs.Frames.{Frame}
use Rattle.iscsi_pdu.specs.declared.answer.Answer.{Answer}
use Rattle.iscsi_pdu.specs.declared.answer.Answer.TheVariants as answers
use Rattle.iscsi_pdu.specs.declared.r2t.R2t.{R2t}
use Rattle.iscsi_pdu.specs.declared.stamp.Stamp.{Stamp}
use Rattle.iscsi_transfer.specs.Payload as payloads
use Rattle.iscsi_transfer.specs.WriteData.{WriteDataState, remembered as task_of, fault_of, due_asks, is_due, is_asked, is_whole}
use Rattle.iscsi_transfer.specs.declared.progress.Ask.{Ask}
use Rattle.iscsi_requests.specs.declared.verdict.Verdict.{Verdict}
use Rattle.iscsi_requests.specs.declared.verdict.Verdict.TheVariants.{Dropped, Violating, Feeding}
use Rattle.iscsi_requests.specs.Requests.{Request, Past, SentR2t, Drain, frame_of, is_in, unfinished, stamp, answering}

abbrev pub tag_of : List Request → ℕ → ℕ
tag_of came k = initiator_task_tag (frame_of came k).header

-- ---- of one command

-- its SCSI Data-Outs
unfoldable pub outs_of : Past → ℕ → List Frame
outs_of past k = map (λ d. d.frame) (filter (λ d. d.command == k) past.data_outs)

-- the Target Transfer Tags of its R2Ts
unfoldable pub tags_of : Past → ℕ → List ℕ
tags_of past k = map (λ r. r.tag) (filter (λ r. r.command == k) past.r2ts)

-- what has happened to its data
abbrev pub data_past : Past → ℕ → payloads.Past
data_past past k = record { values = past.params.values; command = frame_of past.came k; outs = outs_of past k; tags = tags_of past k }

unfoldable pub task_at : Past → ℕ → WriteDataState
task_at past k = task_of (data_past past k)

-- all its data so far
abbrev pub payload_of : Past → ℕ → List ℕ
payload_of past k = (task_at past k).payload

abbrev pub is_whole_of : Past → ℕ → Bool
is_whole_of past k = is_whole (task_at past k)

-- the verdict on a Data-Out for a command with data in this state; one for no command is dropped
abbrev pub verdict_on : Frame → Option WriteDataState → Verdict
verdict_on frame None = Dropped
verdict_on frame (Some task) = if is_some (fault_of task frame) then Violating else Feeding

-- the parts of its data that R2Ts are to ask for
abbrev pub asks_of : Past → ℕ → List Ask
asks_of past k = due_asks (task_at past k)

-- there are such parts
abbrev pub is_due_of : Past → ℕ → Bool
is_due_of past k = is_due (task_at past k)

-- an R2T is open: not all that it asked for has come
abbrev pub is_asked_of : Past → ℕ → Bool
is_asked_of past k = is_asked (task_at past k)

-- ---- of those that were removed

-- the data that functions wait for
abbrev pub drains_of : Past → List Drain
drains_of past = filter (λ d. not (is_in d.function past.answered)) past.drains

-- the commands whose data is drained, as long as it has not come
unfoldable pub drained : Past → List ℕ
drained past = filter (is_asked_of past) (map (λ d. d.command) (drains_of past))

abbrev pub command_among : Past → ℕ → List ℕ → Option ℕ
command_among past tag names = find (λ k. tag_of past.came k == tag) names

-- RFC 7143 §11.2.1.8: the SCSI Command with this tag that is not finished, or whose data is drained
abbrev pub command_with : Past → ℕ → Option ℕ
command_with past tag =
    if is_some (command_among past tag (unfinished past)) then command_among past tag (unfinished past) else command_among past tag (drained past)

-- ---- R2T (RFC 7143 §11.8)

-- the commands that are to be asked for data
unfoldable pub asking : Past → List ℕ
asking past = filter (is_due_of past) (unfinished past)

-- own: the number of the session's earlier R2Ts, and never FFFFFFFFh (RFC 7143 §11.7.4)
abbrev pub next_transfer_tag : Past → ℕ
next_transfer_tag past = length past.r2ts % 0xFFFFFFFF

-- an R2T to the command with this header; it carries the next StatSN, and does not use it (RFC 7143 §11.8.3)
abbrev pub r2t_for : List ℕ → ℕ → Stamp → Ask → R2t
r2t_for header tag numbers_now ask = record {
  lun = lun_field header;
  initiator_task_tag = initiator_task_tag header;
  target_transfer_tag = tag;
  stamp = numbers_now;
  r2t_sn = ask.number;
  buffer_offset = ask.offset;
  desired_length = ask.length;
}

-- one for each of these parts, in their order (RFC 7143 §11.8.2), with tags that rise by one from this one on
abbrev pub r2ts_for : List ℕ → ℕ → Stamp → List Ask → List R2t
r2ts_for header tag numbers_now [] = []
r2ts_for header tag numbers_now (ask ∷ asks) = r2t_for header tag numbers_now ask ∷ r2ts_for header ((tag + 1) % 0xFFFFFFFF) numbers_now asks

-- RFC 7143 §13.17: those for all that a command is to be asked for, one after the other
unfoldable pub r2ts_of : Past → ℕ → List R2t
r2ts_of past k = r2ts_for (frame_of past.came k).header (next_transfer_tag past) (stamp past) (asks_of past k)

abbrev pub r2t_answers : List R2t → List Answer
r2t_answers r2ts = map (λ r2t. answers.R2t r2t) r2ts

abbrev pub sent_for : ℕ → R2t → SentR2t
sent_for k r2t = record { command = k; tag = r2t.target_transfer_tag }

-- these R2Ts are sent
abbrev pub asked : ℕ → Past → Past
asked k past = answering (r2t_answers (r2ts_of past k)) (record past { r2ts = past.r2ts ++ map (sent_for k) (r2ts_of past k) })

-- the first of these is asked
abbrev pub asked_by : List ℕ → Past → Past
asked_by [] past = past
asked_by (k ∷ others) past = asked k past

abbrev pub r2ts_by : List ℕ → Past → List Answer
r2ts_by [] past = []
r2ts_by (k ∷ others) past = r2t_answers (r2ts_of past k)

-- ---- a Data-Out is accepted

abbrev pub fed : Option ℕ → Frame → Past → Past
fed None frame past = past
fed (Some k) frame past = record past { data_outs = past.data_outs ++ record { command = k; frame = frame } ∷ [] }
