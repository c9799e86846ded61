-- How many bytes the answers of a session take at most.
use Rattle.std.proofs.Common.{◌≡◌, ℕ, ◌+◌, ◌*◌, ◌≤◌, List, [], ◌∷◌, length, take, Some, refl, ap, arith, zero, suc, ◌/◌, ◌%◌, ◌==◌, min, Bool, true, false, Option, None, ◌-◌}
use Rattle.std.specs.Prelude.{flat_map, if◌then◌else◌}
use Rattle.std.proofs.lemmas.Bool.{leb-true}
use Rattle.std.proofs.lemmas.List.{length-append, length-take}
use Rattle.std.proofs.lemmas.List.FromFn.{length-map-range_with_len}
use Rattle.std.proofs.lemmas.Grind.{flat_map-append, div_ceil_times}
use Rattle.iscsi_pdu.specs.Answer.{spelling}
use Rattle.iscsi_pdu.specs.Segment.{segment, most_data}
use Rattle.iscsi_pdu.specs.Header.{initiator_task_tag, header_length}
use Rattle.iscsi_pdu.specs.Frames.{Frame}
use Rattle.iscsi_pdu.specs.declared.answer.Answer.{Answer}
use Rattle.iscsi_pdu.specs.declared.stamp.Stamp.{Stamp}
use Rattle.iscsi_transfer.specs.DataIn.{piece_count}
use Rattle.iscsi_transfer.specs.WriteData.{WriteDataState, ask, due_asks}
use Rattle.iscsi_transfer.specs.declared.progress.Ask.{Ask}
use Rattle.scsi_sense.specs.Done.{Outcome}
use Rattle.scsi_unit.specs.DiskCommands.{most_given}
use Rattle.iscsi_login.specs.Values.{AreInRange}
use Rattle.iscsi_login.specs.declared.values.Values.{Values}
use Rattle.iscsi_answers.specs.Answers.{command_answers}
use Rattle.iscsi_answers.proofs.Room.{segment_long, one_spelled, response_long, answers_long, pieces_counted, sent_short}
use Rattle.iscsi_answers.specs.Room.{most_sent}
use Rattle.std.specs.Int.{div_ceil}
use Rattle.std.proofs.lemmas.Nat.{div-add-mod'}
use Rattle.std.proofs.Math.Nat.{suc-mul, mul-le-mul_left, lt_of_mul-lt-mul_right}
use Rattle.iscsi_pdu.specs.declared.answer.Answer.TheVariants as answers
use Rattle.iscsi_pdu.specs.declared.header.Opcode.{Opcode}
use Rattle.iscsi_pdu.specs.declared.header.Opcode.TheVariants as opcodes
use Rattle.iscsi_pdu.specs.declared.reject.RejectReason.{RejectReason}
use Rattle.iscsi_pdu.specs.declared.reject.RejectReason.TheVariants as reasons
use Rattle.iscsi_pdu.specs.declared.task_management_response.TaskResult.{TaskResult}
use Rattle.iscsi_login.specs.declared.session_params.SessionParams.{SessionParams}
use Rattle.iscsi_exchange.specs.ExchangeState.{ExchangeState}
use Rattle.iscsi_exchange.specs.Exchange.{TextPiece, IsShort}
use Rattle.iscsi_exchange.proofs.Short.{hears_short}
use Rattle.iscsi_requests.specs.Judging.{reserved_tag, reject}
use Rattle.iscsi_requests.specs.Texts.{text_answer}
use Rattle.iscsi_session.specs.Acts.{ping_answers, logout_answer, act_answers_by}
use Rattle.iscsi_requests.specs.Transfers.{r2t_for, r2ts_for, r2t_answers}
use Rattle.iscsi_session.specs.Weight.{request_weight}

-- ---- requests that are no SCSI Command

pub reject_long : (reason : RejectReason) (numbers : Stamp) (frame : Frame) → length frame.header ≡ header_length
    → length (spelling (reject reason numbers frame)) ≤ 99
reject_long reason numbers frame whole = omega (arith, whole, segment_long frame.header)

text_long : (numbers : Stamp) (piece : Option TextPiece) (frame : Frame) → length frame.header ≡ header_length → IsShort piece
    → length (spelling (text_answer numbers piece frame)) ≤ 262240
text_long numbers None frame whole short = omega (arith, reject_long reasons.InvalidField numbers frame whole)
text_long numbers (Some piece) frame whole short = omega (arith, short, segment_long piece.text)

logout_long : (numbers : Stamp) (params : SessionParams) (frame : Frame) → length frame.header ≡ header_length
    → length (spelling (logout_answer numbers params frame)) ≤ 99
logout_long numbers params frame whole = grind (arith, reject_long reasons.InvalidField numbers frame whole)

ping_long : (numbers : Stamp) (values : Values) (frame : Frame) → length (flat_map spelling (ping_answers numbers values frame)) ≤ 262240
ping_long numbers values frame = by_tag (initiator_task_tag frame.header == reserved_tag) refl
  where
    by_tag : (b : Bool) → (initiator_task_tag frame.header == reserved_tag) ≡ b → length (flat_map spelling (ping_answers numbers values frame)) ≤ 262240
    by_tag true e = rw e (omega arith)
    by_tag false e =
        let limit = min values.max_recv_data_segment_length most_data in
        let answer : Answer = answers.NopIn (record { initiator_task_tag = initiator_task_tag frame.header; stamp = numbers; body = take limit frame.body }) in
        let long : length (spelling answer) ≤ 262240 = omega (arith, segment_long (take limit frame.body), length-take limit frame.body) in
        rw e (omega (arith, one_spelled answer, long))

-- a request that is no SCSI Command is answered no more than this
pub most_answered : (o : Opcode) (waited : List ℕ) (result : TaskResult) (exchange : ExchangeState) (numbers : Stamp) (params : SessionParams) (frame : Frame)
    → length frame.header ≡ header_length → length (flat_map spelling (act_answers_by o waited result exchange numbers params frame)) ≤ 262240
most_answered opcodes.ScsiCommand waited result exchange numbers params frame whole = omega arith
most_answered opcodes.NopOut waited result exchange numbers params frame whole = ping_long numbers params.values frame
most_answered opcodes.Logout waited result exchange numbers params frame whole = grind (arith, one_spelled, logout_long)
most_answered opcodes.TaskManagement [] result exchange numbers params frame whole = omega arith
most_answered opcodes.TaskManagement (k ∷ others) result exchange numbers params frame whole = omega arith
most_answered opcodes.Login waited result exchange numbers params frame whole = omega arith
most_answered opcodes.Text waited result exchange numbers params frame whole = grind (arith, one_spelled, text_long, hears_short)
most_answered opcodes.DataOut waited result exchange numbers params frame whole = omega arith
most_answered opcodes.Snack waited result exchange numbers params frame whole = omega arith
most_answered (opcodes.Other n) waited result exchange numbers params frame whole = omega arith

-- ---- a SCSI Command

-- a burst is cut into pieces of which only the last is short
pieces_of_burst : (burst segment : ℕ) → 512 ≤ burst → 512 ≤ segment → 512 * div_ceil burst segment ≤ 2 * burst
pieces_of_burst burst segment long some = grind (arith, div_ceil_times, suc-mul, mul-le-mul_left)

few_pieces : (n burst segment : ℕ) → 512 ≤ burst → 512 ≤ segment → 512 * piece_count n burst segment ≤ 2 * n + 1024
few_pieces n burst segment long some =
    let q = n / burst in
    let r = n % burst in
    let d = div_ceil burst segment in
    let parts : q * burst + r ≡ n = div-add-mod' n burst in
    let each : d * 512 ≤ 2 * burst = omega (arith, pieces_of_burst burst segment long some) in
    let whole : q * (d * 512) ≤ q * (2 * burst) = mul-le-mul_left q each in
    let first : q * (d * 512) ≡ 512 * (q * d) = grind arith in
    let second : q * (2 * burst) ≡ 2 * (q * burst) = grind arith in
    let left : 512 * div_ceil r segment ≤ r + 1024 = last_part (div_ceil r segment) refl in
    omega (arith, parts, whole, first, second, left)
  where
    last_part : (d : ℕ) → div_ceil (n % burst) segment ≡ d → 512 * div_ceil (n % burst) segment ≤ n % burst + 1024
    last_part zero e = omega (arith, e)
    last_part (suc d) e = grind (arith, ap (λ (m : ℕ). m * segment) e, suc-mul d segment, mul-le-mul_left d some, div_ceil_times)

most_sent_fits : (frame : Frame) → most_sent frame ≤ most_given
most_sent_fits frame = grind arith

-- all that a command is answered is less than it counts for
pub command_long : (numbers : Stamp) (values : Values) (frame : Frame) (done : Outcome) → AreInRange values → length done.given ≤ most_given
    → length (flat_map spelling (command_answers numbers values frame done)) ≤ request_weight
command_long numbers values frame done range given =
    grind (arith, flat_map-append, few_pieces, length-append, one_spelled, response_long, answers_long, pieces_counted, sent_short, most_sent_fits)

-- ---- R2Ts

r2t_long : (header : List ℕ) (tag : ℕ) (numbers : Stamp) (ask : Ask) → length (spelling (answers.R2t (r2t_for header tag numbers ask))) ≤ 48
r2t_long header tag numbers ask = grind arith

pub r2ts_long : (header : List ℕ) (tag : ℕ) (numbers : Stamp) (asks : List Ask)
    → length (flat_map spelling (r2t_answers (r2ts_for header tag numbers asks))) ≤ length asks * 48
r2ts_long header tag numbers [] = omega arith
r2ts_long header tag numbers (ask ∷ asks) =
    let next = (tag + 1) % 0xFFFFFFFF in
    grind (arith, r2ts_long header next numbers asks, length-append, r2t_long)

few_bursts : (n burst : ℕ) → n ≤ 1048576 → 512 ≤ burst → div_ceil n burst ≤ 2048
few_bursts n burst short least = grind (arith, div_ceil_times, lt_of_mul-lt-mul_right)

short_by : (b : Bool) (n unsolicited : ℕ) → (b ≡ true → n ≤ 1048576) → (if b then n else unsolicited) - unsolicited ≤ 1048576
short_by true n unsolicited short = let le = short refl in omega (arith, le)
short_by false n unsolicited short = omega arith

many_by : (b : Bool) (asks : List Ask) (n : ℕ) → length asks ≤ n → length (if b then asks else []) ≤ n
many_by true asks n few = few
many_by false asks n few = omega arith

-- of no command are more due than it has bursts
pub few_asks : (task : WriteDataState) → 512 ≤ task.burst → length (due_asks task) ≤ 2048
few_asks task least = grind (arith, short_by, leb-true, many_by, length-map-range_with_len, few_bursts)
