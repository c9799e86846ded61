-- The exchange of texts of a session (RFC 7143 §11.10, §11.11).
use Rattle.std.specs.Prelude.{fold, Bool, ◌==◌, Option, Some, None, if◌then◌else◌}
use Rattle.iscsi_pdu.specs.Header.{opcode_number, initiator_task_tag}
use Rattle.iscsi_pdu.specs.Frames.{Frame}
use Rattle.iscsi_pdu.specs.declared.answer.Answer.{Answer}
use Rattle.iscsi_pdu.specs.declared.answer.Answer.TheVariants as answers
use Rattle.iscsi_pdu.specs.declared.reject.RejectReason.TheVariants as reasons
use Rattle.iscsi_pdu.specs.declared.stamp.Stamp.{Stamp}
use Rattle.iscsi_login.specs.declared.session_params.SessionParams.{SessionParams}
use Rattle.iscsi_exchange.specs.ExchangeState.{ExchangeState, no_exchange}
use Rattle.iscsi_exchange.specs.Exchange.{TextPiece, hears}
use Rattle.iscsi_requests.specs.Requests.{Past, frames_of}
use Rattle.iscsi_requests.specs.Judging.{reject}

-- RFC 7143 §11.2.1.2: a Text Request
abbrev pub is_text : Frame → Bool
is_text frame = opcode_number frame.header == 0x04

-- a Text Request is heard, and any other request leaves the exchange as it is
abbrev pub exchange_behind : SessionParams → ExchangeState → Frame → ExchangeState
exchange_behind params exchange frame = if is_text frame then (hears exchange frame params).exchange else exchange

-- the exchange after the requests that acted
unfoldable pub exchange_of : Past → ExchangeState
exchange_of past = fold (exchange_behind past.params) no_exchange (frames_of past.came past.acted)

-- RFC 7143 §11.11, §11.17: a Text Response, or a Reject
abbrev pub text_answer : Stamp → Option TextPiece → Frame → Answer
text_answer numbers_now None frame = reject reasons.InvalidField numbers_now frame
text_answer numbers_now (Some piece) frame = answers.TextResponse
    (record { initiator_task_tag = initiator_task_tag frame.header; stamp = numbers_now; step = piece.step; text = piece.text })

-- the answer of the exchange so far to a Text Request
abbrev pub text_answer_in : ExchangeState → Stamp → SessionParams → Frame → Answer
text_answer_in exchange numbers_now params frame = text_answer numbers_now (hears exchange frame params).piece frame
