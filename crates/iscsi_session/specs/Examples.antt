-- Sessions computed from the definitions alone, with the expected numbers written by hand.
use Rattle.std.specs.Prelude.{◌≡◌, ℕ, Option, Some, None, is_some, not, filter, filter_map, List, [], ◌∷◌, ◌++◌, ◌+◌, take, drop, fold, replicate, Bool, true, false, refl}
use Rattle.scsi_unit.specs.Lun.{lun_number}
use Rattle.iscsi_pdu.specs.Frames.{Frame}
use Rattle.iscsi_pdu.specs.declared.answer.Answer.{Answer}
use Rattle.iscsi_pdu.specs.declared.answer.Answer.TheVariants as answers
use Rattle.iscsi_pdu.specs.declared.reject.RejectReason.TheVariants as reasons
use Rattle.iscsi_pdu.specs.declared.logout_response.LogoutResult.TheVariants as results
use Rattle.iscsi_pdu.specs.declared.task_management_response.TaskResult.TheVariants.{Complete, NoTask, NoUnit}
use Rattle.iscsi_pdu.specs.declared.stamp.Stamp.{Stamp}
use Rattle.iscsi_login.specs.declared.session_params.SessionParams.{SessionParams}
use Rattle.iscsi_login.specs.Values.{default_values}
use Rattle.iscsi_order.specs.Window as order
use Rattle.iscsi_requests.specs.declared.verdict.Verdict.TheVariants.{Ignored, Dropped, Rejected, Violating, Accepted}
use Rattle.iscsi_transfer.specs.WriteData.{remembered as task_of, fault_of}
use Rattle.iscsi_requests.specs.Requests.{functions, Past, begun, left, taken, taken_at, held, due, queue, unfinished, stamp, numbers}
use Rattle.iscsi_requests.specs.Transfers.{outs_of, tags_of, task_at, drained, asking, asked_by, r2ts_of}
use Rattle.iscsi_requests.specs.Judging.{is_refused, verdict, verdict_by, task_verdict, judged, reject}
use Rattle.scsi_sense.specs.Done.{good}
use Rattle.iscsi_answers.specs.Answers.{data_answers, scsi_answer}
use Rattle.iscsi_session.specs.Steps.{answered_command, ready}
use Rattle.iscsi_requests.specs.Functions.{own_reach, reaches, reached, plugs, awaited, function_result, function_answer, drained_functions, told_answers, answered_by}
use Rattle.iscsi_session.specs.Acts.{acted, act_answers, ends, logout_response}

-- what an example unfolds
unfoldable pub computed : Bool
unfolding order.taken left taken taken_at held due queue unfinished stamp task_verdict functions is_refused verdict_by act_answers ends data_answers scsi_answer
    outs_of tags_of task_at drained task_of fault_of asking r2ts_of ready reaches reached plugs awaited function_result drained_functions told_answers lun_number
computed = true

-- ---- requests

-- four bytes
abbrev pub low : ℕ → List ℕ
low n = 0 ∷ 0 ∷ 0 ∷ n ∷ []

abbrev high : ℕ → List ℕ
high n = 0xff ∷ 0xff ∷ 0xff ∷ n ∷ []

-- opcode and I, byte 1, tag, CmdSN; no LUN, no expected length and CID 0, no data
abbrev request : ℕ → ℕ → List ℕ → List ℕ → Frame
request opcode flags tag number = record {
  header = opcode ∷ flags ∷ replicate 14 0 ++ tag ++ replicate 4 0 ++ number ++ replicate 20 0;
  body = [];
}

abbrev command : ℕ → ℕ → Frame
command tag number = request 0x01 0x80 (low tag) (low number)

abbrev immediate_command : ℕ → Frame
immediate_command tag = request 0x41 0x80 (low tag) (low 0)

abbrev ping : List ℕ → ℕ → List ℕ → Frame
ping tag number bytes = record { header = (request 0x00 0x80 tag (low number)).header; body = bytes }

abbrev logout : ℕ → ℕ → Frame
logout reason number = request 0x06 reason (low 0x20) (low number)

abbrev snack : Frame
snack = request 0x10 0x80 (low 0x30) (low 0)

abbrev data_out : ℕ → Frame
data_out tag = request 0x05 0x80 (low tag) (low 0)

-- ---- sessions

-- the first CmdSN, after a login of one answer; CID 0; the units of the target are 0 and 1
abbrev pub params_from : ℕ → SessionParams
params_from first = record {
  nexus = record { initiator_name = 0x61 ∷ []; isid = replicate 6 0 };
  target = Some 0;
  directory = record { names = (0x74 ∷ 0x31 ∷ []) ∷ []; portal = [] };
  connection_id = 0;
  first_cmd_sn = first;
  next_stat_sn = 1;
  values = default_values;
}

-- the sequence numbers of an answer to a command
abbrev command_stamp : Answer → Option Stamp
command_stamp (answers.ScsiResponse response) = Some response.stamp
command_stamp (answers.LoginResponse response) = None
command_stamp (answers.TextResponse response) = None
command_stamp (answers.TaskManagementResponse response) = None
command_stamp (answers.DataIn piece) = None
command_stamp (answers.NopIn ping) = None
command_stamp (answers.R2t r2t) = None
command_stamp (answers.LogoutResponse response) = None
command_stamp (answers.Reject refusal) = None

abbrev stamps : Past → List Stamp
stamps past = filter_map command_stamp past.answers

abbrev pub said : Past → List Answer
said past = filter (λ answer. not (is_some (command_stamp answer))) past.answers

abbrev from : ℕ → Past
from first = begun (params_from first)

abbrev acts : Past → ℕ → Past
acts past k = acted (0 ∷ 1 ∷ []) k past

-- a command that returns no data is done
abbrev does : Past → ℕ → Past
does past k = answered_command good k past

abbrev judges : Past → Frame → Past
judges past frame = judged (verdict past frame) frame past

-- the first of the queue is done, if its data is whole
abbrev does_first : Past → ℕ → Past
does_first past turn = fold does past (ready past)

-- A frame is judged, what is due acts, and what is due is asked for. A function whose data has come is answered, and
-- what is in the queue is done.
abbrev pub comes : Past → Frame → Past
comes past frame =
    let a = judges past frame in
    let b = fold acts a (due a) in
    let c = asked_by (asking b) b in
    let d = answered_by (drained_functions c) c in
    fold does_first d (queue d)

abbrev pub all_come : Past → List Frame → Past
all_come past frames = fold comes past frames

-- ---- held numbers: first 5, and two commands for immediate delivery before

abbrev prepared : Past
prepared = all_come (from 5) (immediate_command 1 ∷ immediate_command 2 ∷ [])

two_told : stamps prepared ≡ record { stat_sn = 1; exp_cmd_sn = 5; max_cmd_sn = 36 } ∷ record { stat_sn = 2; exp_cmd_sn = 5; max_cmd_sn = 36 } ∷ []
unfolding computed
two_told = refl

-- 5; 7, which waits; 6, and 7 after it
held_numbers : stamps (all_come (from 5) (command 3 5 ∷ command 4 7 ∷ command 5 6 ∷ []))
    ≡ record { stat_sn = 1; exp_cmd_sn = 6; max_cmd_sn = 37 } ∷ record { stat_sn = 2; exp_cmd_sn = 8; max_cmd_sn = 38 } ∷ record
    { stat_sn = 3; exp_cmd_sn = 8; max_cmd_sn = 39 } ∷ []
unfolding computed
held_numbers = refl

-- 6 again with another tag
repeated : verdict (all_come (from 5) (command 3 5 ∷ command 5 6 ∷ [])) (command 6 6) ≡ Ignored
unfolding computed
repeated = refl

-- numbers that wrap around
wraps : stamps (all_come (from 0xfffffffe) (request 0x01 0x80 (low 1) (high 0xfe) ∷ request 0x01 0x80 (low 2) (high 0xff) ∷ command 3 0 ∷ []))
    ≡ record { stat_sn = 1; exp_cmd_sn = 0xffffffff; max_cmd_sn = 0x1e } ∷ record { stat_sn = 2; exp_cmd_sn = 0; max_cmd_sn = 0x1f } ∷ record
    { stat_sn = 3; exp_cmd_sn = 1; max_cmd_sn = 0x20 } ∷ []
unfolding computed
wraps = refl

-- 37 is outside the window until 5 is finished
ahead_of_the_window : verdict prepared (command 3 37) ≡ Ignored
unfolding computed
ahead_of_the_window = refl

behind_the_window : verdict prepared (command 3 4) ≡ Ignored
unfolding computed
behind_the_window = refl

-- ---- other requests

-- a SNACK is rejected, and a Logout closes the session
refused_and_closed : said (all_come prepared (snack ∷ logout 0 5 ∷ [])) ≡
    reject reasons.Snack (record { stat_sn = 3; exp_cmd_sn = 5; max_cmd_sn = 36 }) snack
    ∷ logout_response results.Closed (record { stat_sn = 4; exp_cmd_sn = 6; max_cmd_sn = 37 }) (logout 0 5) ∷ []
unfolding computed
refused_and_closed = refl

closing_ends : ends (params_from 5) (logout 0 5) ≡ true
unfolding computed
closing_ends = refl

-- a Logout for recovery is answered and does not close; the number after the window is then inside it
abbrev after_recovery : Past
after_recovery = comes prepared (logout 2 5)

no_recovery : said after_recovery ≡ logout_response results.NoRecovery (record { stat_sn = 3; exp_cmd_sn = 6; max_cmd_sn = 37 }) (logout 2 5) ∷ []
unfolding computed
no_recovery = refl

recovery_ends_nothing : ends (params_from 5) (logout 2 5) ≡ false
unfolding computed
recovery_ends_nothing = refl

last_of_the_window : verdict after_recovery (command 3 37) ≡ Accepted
unfolding computed
last_of_the_window = refl

past_the_window : verdict after_recovery (command 3 38) ≡ Ignored
unfolding computed
past_the_window = refl

-- a NOP-Out that is held answers before the commands of its frame are done
ping_before_commands : said (comes (comes prepared (ping (low 7) 6 (1 ∷ 2 ∷ 3 ∷ []))) (command 8 5))
    ≡ answers.NopIn (record { initiator_task_tag = 7; stamp = record { stat_sn = 3; exp_cmd_sn = 7; max_cmd_sn = 37 }; body = 1 ∷ 2 ∷ 3 ∷ [] }) ∷ []
unfolding computed
ping_before_commands = refl

-- the reserved tag asks for no answer, and its number is used
silent_ping : said (comes prepared (ping (high 0xff) 5 (1 ∷ []))) ≡ []
unfolding computed
silent_ping = refl

silent_ping_counts : order.exp_cmd_sn (numbers (comes prepared (ping (high 0xff) 5 []))) ≡ 6
unfolding computed
silent_ping_counts = refl

-- ---- tags, and the limit of those for immediate delivery

-- the tag of a command that is held
live_tag_again : verdict (comes prepared (command 3 6)) (command 3 5) ≡ Violating
unfolding computed
live_tag_again = refl

-- it takes no data
data_for_a_live_tag : verdict (comes prepared (command 3 6)) (data_out 3) ≡ Violating
unfolding computed
data_for_a_live_tag = refl

data_for_no_command : verdict prepared (data_out 3) ≡ Dropped
unfolding computed
data_for_no_command = refl

reserved_for_a_command : verdict prepared (request 0x01 0x80 (high 0xff) (low 5)) ≡ Violating
unfolding computed
reserved_for_a_command = refl

-- an ignored number comes before a tag that is live
ignored_before_tag : verdict (comes prepared (command 3 6)) (command 3 6) ≡ Ignored
unfolding computed
ignored_before_tag = refl

-- eight that have come and are not done, and a ninth
abbrev eight : Past
eight = fold judges prepared
    (immediate_command 0x10 ∷ immediate_command 0x11 ∷ immediate_command 0x12 ∷ immediate_command 0x13 ∷ immediate_command 0x14 ∷ immediate_command 0x15 ∷
    immediate_command 0x16 ∷ immediate_command 0x17 ∷ [])

ninth_is_rejected : verdict eight (immediate_command 0x18) ≡ Rejected reasons.TooManyImmediate
unfolding computed
ninth_is_rejected = refl

-- the limit comes before the tag, and does not count a NOP-Out
limit_before_tag : verdict eight (immediate_command 0x10) ≡ Rejected reasons.TooManyImmediate
unfolding computed
limit_before_tag = refl

ninth_ping : verdict eight (request 0x40 0x80 (low 0x18) (low 0)) ≡ Accepted
unfolding computed
ninth_ping = refl

-- ---- data that is asked for

-- a command with F and W that takes this many bytes
abbrev pub taking : ℕ → ℕ → ℕ → Frame
taking n tag number = record {
  header = 0x01 ∷ 0xa0 ∷ replicate 14 0 ++ low tag ++ low n ++ low number ++ replicate 20 0;
  body = [];
}

abbrev writing : ℕ → ℕ → Frame
writing tag number = taking 8 tag number

-- tag, Target Transfer Tag, DataSN, Buffer Offset, and F
abbrev pub brings : ℕ → List ℕ → ℕ → ℕ → ℕ → List ℕ → Frame
brings tag transfer_tag data_sn offset final body = record {
  header = 0x05 ∷ final ∷ replicate 14 0 ++ low tag ++ transfer_tag ++ replicate 12 0 ++ low data_sn ++ low offset ++ replicate 4 0;
  body = body;
}

-- 6 waits for 5 and is asked for its data all the same. The R2T carries the next StatSN, which the answer to 5 then
-- has.
abbrev asking_ahead : Past
asking_ahead = comes prepared (writing 3 6)

asked_ahead : said asking_ahead ≡ answers.R2t (record {
  lun = replicate 8 0;
  initiator_task_tag = 3;
  target_transfer_tag = 0;
  stamp = record { stat_sn = 3; exp_cmd_sn = 5; max_cmd_sn = 36 };
  r2t_sn = 0;
  buffer_offset = 0;
  desired_length = 8;
}) ∷ []
unfolding computed
asked_ahead = refl

-- the next command has the next tag, and both wait for their data
abbrev two_writing : Past
two_writing = comes asking_ahead (writing 4 5)

two_asked : two_writing.r2ts ≡ record { command = 2; tag = 0 } ∷ record { command = 3; tag = 1 } ∷ []
unfolding computed
two_asked = refl

none_done : (ready two_writing ≡ []) × (queue two_writing ≡ 3 ∷ 2 ∷ [])
unfolding computed
none_done = (refl, refl)

-- data with the tag of the other command's R2T
tag_of_the_other : verdict two_writing (brings 3 (low 1) 0 0 0x80 (replicate 8 9)) ≡ Violating
unfolding computed
tag_of_the_other = refl

-- ---- in which order requests are taken

-- 6 waits for 5; one for immediate delivery between them acts at once
abbrev between : Past
between = fold judges (from 5) (command 1 6 ∷ immediate_command 2 ∷ command 3 5 ∷ [])

in_order : taken between.came ≡ 1 ∷ 2 ∷ 0 ∷ []
unfolding computed
in_order = refl

waits_for_the_missing : held (judges (from 5) (command 1 6)) ≡ 0 ∷ []
unfolding computed
waits_for_the_missing = refl

-- ---- ABORT TASK for immediate delivery: its tag and CmdSN, the referenced tag and RefCmdSN

abbrev abort : ℕ → ℕ → ℕ → ℕ → Frame
abort tag number task task_number = record {
  header = 0x42 ∷ 0x81 ∷ replicate 14 0 ++ low tag ++ low task ++ low number ++ replicate 4 0 ++ low task_number ++ replicate 12 0;
  body = [];
}

-- of a task that has not come: its number is plugged, and finished in its turn
abbrev plugs_five : Past
plugs_five = all_come prepared (abort 3 6 77 5 ∷ command 4 6 ∷ [])

is_plugged_first : said plugs_five ≡ function_answer (record { stat_sn = 3; exp_cmd_sn = 5; max_cmd_sn = 36 }) Complete (abort 3 6 77 5).header ∷ []
unfolding computed
is_plugged_first = refl

is_finished_then : filter_map command_stamp (drop 3 plugs_five.answers) ≡ record { stat_sn = 4; exp_cmd_sn = 7; max_cmd_sn = 38 } ∷ []
unfolding computed
is_finished_then = refl

-- of one that is held: it is removed once, does nothing, and is finished in its turn
abbrev removes_six : Past
removes_six = all_come (from 5) (command 1 6 ∷ abort 3 7 1 6 ∷ abort 3 7 1 6 ∷ command 4 5 ∷ [])

is_removed_once : said removes_six ≡ function_answer (record { stat_sn = 1; exp_cmd_sn = 5; max_cmd_sn = 36 }) Complete (abort 3 7 1 6).header
    ∷ function_answer (record { stat_sn = 2; exp_cmd_sn = 5; max_cmd_sn = 36 }) NoTask (abort 3 7 1 6).header ∷ []
unfolding computed
is_removed_once = refl

is_done_alone : stamps removes_six ≡ record { stat_sn = 3; exp_cmd_sn = 7; max_cmd_sn = 38 } ∷ []
unfolding computed
is_done_alone = refl

-- ---- functions for all commands of a unit: first 5; 6 is for unit 0, 7 for unit 1, 8 for none, and 10 for unit 0

abbrev to_unit : ℕ → Frame → Frame
to_unit n frame = record frame { header = take 9 frame.header ++ n ∷ drop 10 frame.header }

abbrev held_of_each : Past
held_of_each = all_come (from 5) (command 1 6 ∷ to_unit 1 (command 2 7) ∷ to_unit 7 (command 3 8) ∷ command 4 10 ∷ [])

-- for immediate delivery, with CmdSN 9: its code, and its LUN
abbrev pub function_nine : ℕ → ℕ → Frame
function_nine code n = to_unit n (request 0x42 (0x80 + code) (low 9) (low 9))

abbrev gone_by : Frame → List ℕ
gone_by function = (comes held_of_each function).removed

-- ABORT TASK SET, CLEAR TASK SET, LOGICAL UNIT RESET of a unit that is there, and of one that is not; TARGET WARM RESET
each_removes : gone_by (function_nine 2 0) ∷ gone_by (function_nine 4 0) ∷ gone_by (function_nine 5 1) ∷ gone_by (function_nine 5 7)
    ∷ gone_by (function_nine 6 7) ∷ [] ≡ (0 ∷ []) ∷ (0 ∷ []) ∷ (1 ∷ []) ∷ [] ∷ (0 ∷ 1 ∷ []) ∷ []
unfolding computed
each_removes = refl

no_unit_is_told : function_result held_of_each (own_reach (0 ∷ 1 ∷ []) (function_nine 5 7).header) ≡ NoUnit
unfolding computed
no_unit_is_told = refl

-- of the commands of another session, also those after it
abbrev gone_elsewhere : Frame → List ℕ
gone_elsewhere function = reached (record { function = function.header; luns = 0 ∷ 1 ∷ []; is_own = false }) held_of_each

each_removes_elsewhere : gone_elsewhere (function_nine 2 0) ∷ gone_elsewhere (function_nine 4 0) ∷ gone_elsewhere (function_nine 6 7) ∷ []
    ≡ [] ∷ (0 ∷ 3 ∷ []) ∷ (0 ∷ 1 ∷ 3 ∷ []) ∷ []
unfolding computed
each_removes_elsewhere = refl
