-- What a frame is judged to be, case by case.
use Rattle.std.proofs.Common.{◌≡◌, ◌≢◌, ℕ, Bool, true, false, not, ◌||◌, refl, ap, arith}
use Rattle.std.specs.Prelude.{Option, Some, None, if◌then◌else◌}
use Rattle.std.proofs.lemmas.Bool.{or_parts}
use Rattle.iscsi_pdu.specs.Header.{opcode_of, opcode_number, is_immediate, initiator_task_tag}
use Rattle.iscsi_pdu.specs.Frames.{Frame}
use Rattle.iscsi_pdu.specs.declared.header.Opcode.{Opcode}
use Rattle.iscsi_pdu.specs.declared.header.Opcode.TheVariants as opcodes
use Rattle.iscsi_pdu.specs.declared.reject.RejectReason.TheVariants as reasons
use Rattle.iscsi_requests.specs.declared.verdict.Verdict.{Verdict}
use Rattle.iscsi_requests.specs.declared.verdict.Verdict.TheVariants.{Ignored, Rejected, Violating, Accepted}
use Rattle.iscsi_requests.specs.Requests.{Past, is_command, is_function}
use Rattle.iscsi_requests.specs.Transfers.{command_with}
use Rattle.iscsi_requests.specs.Judging.{is_fresh, is_live, is_full, is_faulty, task_verdict, data_verdict, is_refused, verdict_by, request_verdict, verdict, is_over, is_taken}

-- ---- a command, test by test

abbrev pub by_tests : Bool → Bool → Bool → Bool → Verdict
by_tests fresh over taken faulty =
    if not fresh then Ignored else if over then Rejected reasons.TooManyImmediate else if taken then Violating else if faulty then Violating else Accepted

pub task_told : (past : Past) (frame : Frame) (fresh over taken faulty : Bool) → is_fresh past frame ≡ fresh
    → is_over past frame ≡ over → is_taken past frame ≡ taken
    → is_faulty past.params.values frame ≡ faulty → task_verdict past frame ≡ by_tests fresh over taken faulty
unfolding task_verdict
task_told past frame fresh over taken faulty fresh_is over_is taken_is faulty_is = rw (fresh_is, over_is, taken_is, faulty_is) refl

-- ---- by the opcode

pub verdict_at : (past : Past) (frame : Frame) (opcode : Opcode) → opcode_of (opcode_number frame.header) ≡ opcode
    → request_verdict past frame ≡ verdict_by opcode past frame
verdict_at past frame opcode e = ap (λ (o : Opcode). verdict_by o past frame) e

-- in a discovery session most are refused
pub verdict_refused : (past : Past) (frame : Frame) → is_refused past.params frame ≡ true → verdict past frame ≡ Rejected reasons.CommandNotSupported
verdict_refused past frame e = rw e refl

-- ---- what is accepted is fresh, and its tag is free

-- what is known of a frame that is accepted
pub record IsFree (past : Past) (frame : Frame) : Type 0 where
  pub fresh : is_fresh past frame ≡ true
  pub tag : (is_command frame || is_function frame) ≡ true → is_live past (initiator_task_tag frame.header) ≡ false
  pub room : (is_command frame || is_function frame) ≡ true → is_immediate frame.header ≡ true → is_full past ≡ false

pub data_not_accepted : (past : Past) (frame : Frame) (at : Option ℕ) → data_verdict past frame at ≡ Accepted → ⊥
data_not_accepted past frame None e = cc
data_not_accepted past frame (Some k) e = grind arith

tests_passed : (fresh over taken faulty : Bool) → by_tests fresh over taken faulty ≡ Accepted → (fresh ≡ true) × (taken ≡ false) × (over ≡ false)
tests_passed fresh over taken faulty e = grind arith

fresh_passed : (fresh : Bool) → (if fresh then Accepted else Ignored) ≡ Accepted → fresh ≡ true
fresh_passed fresh e = grind arith

no_task : (frame : Frame) (opcode : Opcode) → opcode_of (opcode_number frame.header) ≡ opcode → opcode ≢ opcodes.ScsiCommand → opcode ≢ opcodes.TaskManagement
    → (is_command frame || is_function frame) ≡ true → ⊥
no_task frame opcode is other another e = grind arith

tests_free : (past : Past) (frame : Frame) → task_verdict past frame ≡ Accepted → IsFree past frame
unfolding task_verdict
tests_free past frame e = grind (arith, tests_passed, or_parts)

accepted_by : (opcode : Opcode) (past : Past) (frame : Frame) → opcode_of (opcode_number frame.header) ≡ opcode → verdict_by opcode past frame ≡ Accepted
    → IsFree past frame
unfolding verdict_by
accepted_by opcodes.ScsiCommand past frame is e = tests_free past frame e
accepted_by opcodes.TaskManagement past frame is e = tests_free past frame e
accepted_by opcodes.NopOut past frame is e = grind (arith, fresh_passed, no_task)
accepted_by opcodes.Logout past frame is e = grind (arith, fresh_passed, no_task)
accepted_by opcodes.Login past frame is e = absurd cc
accepted_by opcodes.DataOut past frame is e = absurd (data_not_accepted past frame (command_with past (initiator_task_tag frame.header)) e)
accepted_by opcodes.Snack past frame is e = absurd cc
accepted_by opcodes.Text past frame is e = grind (arith, fresh_passed, no_task)
accepted_by (opcodes.Other n) past frame is e = absurd cc

pub accepted_free : (past : Past) (frame : Frame) → verdict past frame ≡ Accepted → IsFree past frame
accepted_free past frame e = served_by (is_refused past.params frame) e
  where
    served_by : (b : Bool) → (if b then Rejected reasons.CommandNotSupported else request_verdict past frame) ≡ Accepted → IsFree past frame
    served_by true e = absurd cc
    served_by false e = accepted_by (opcode_of (opcode_number frame.header)) past frame refl e
