-- The answer to a Text Request in full feature phase (RFC 7143 §6.2, §11.10, §11.11).
use Rattle.std.specs.Prelude.{ℕ, ◌≡◌, ◌+◌, ◌≤◌, List, [], ◌++◌, length, take, drop, min, Bool, ◌&&◌, ◌||◌, ◌==◌, not, nat_lt, Option, Some, None, Result, Ok, Err, if◌then◌else◌, ⊤}
use Rattle.iscsi_pdu.specs.Frames.{Frame}
use Rattle.iscsi_pdu.specs.Segment.{most_data}
use Rattle.iscsi_pdu.specs.DataOut.{target_transfer_tag}
use Rattle.iscsi_pdu.specs.LoginRequest.{is_transit, is_continued}
use Rattle.iscsi_pdu.specs.TextResponse.{exchange_tag}
use Rattle.iscsi_pdu.specs.declared.text_response.TextStep.{TextStep}
use Rattle.iscsi_pdu.specs.declared.text_response.TextStep.TheVariants.{Continued, GoesOn, Ends}
use Rattle.iscsi_text.specs.Pairs.{Pair, text_pairs, text_of, longest_text}
use Rattle.iscsi_text.specs.declared.fault.TextFault.{TextFault}
use Rattle.iscsi_login.specs.declared.session_params.SessionParams.{SessionParams}
use Rattle.iscsi_exchange.specs.SendTargets.{pairs_answer}
use Rattle.iscsi_exchange.specs.ExchangeState.{ExchangeState, no_exchange, open_with}

-- RFC 7143 §11.10.4: a request with this tag begins an exchange, and drops one that is open
abbrev pub begins : Frame → Bool
begins request = target_transfer_tag request.header == exchange_tag Ends

-- RFC 7143 §11.10.1: F is the bit that T is in a login
abbrev pub is_final : Frame → Bool
is_final request = is_transit request.header

-- the exchange that the request belongs to
abbrev pub exchange_of : ExchangeState → Frame → ExchangeState
exchange_of state request = if begins request then no_exchange else state

-- own: any other tag is that of the exchange that is open
abbrev pub is_of_exchange : ExchangeState → Frame → Bool
is_of_exchange state request = state.is_open && target_transfer_tag request.header == exchange_tag GoesOn

-- an answer: a piece of text, and how the exchange continues
pub record TextPiece : Type 0 where
  pub step : TextStep
  pub text : List ℕ

-- the exchange after a request, and the answer; none if the request is rejected
pub record ToldState : Type 0 where
  pub exchange : ExchangeState
  pub piece : Option TextPiece

-- own: a request that is rejected ends the exchange
abbrev pub rejects : ToldState
rejects = record { exchange = no_exchange; piece = None }

abbrev pub tells : ExchangeState → TextStep → List ℕ → ToldState
tells exchange step text = record { exchange = exchange; piece = Some (record { step = step; text = text }) }

-- RFC 7143 §13.12: what the initiator takes in one PDU, and no more than a PDU of this target has
abbrev pub piece_limit : SessionParams → ℕ
piece_limit params = min params.values.max_recv_data_segment_length most_data

-- RFC 7143 §6.2: of a long answer the next piece is sent; the exchange ends with the last one if the request has F
unfoldable pub sends : SessionParams → Frame → List ℕ → ToldState
sends params request text =
    if nat_lt (piece_limit params) (length text) then tells (open_with [] (drop (piece_limit params) text)) Continued (take (piece_limit params) text)
    else if is_final request then tells no_exchange Ends text
    else tells (open_with [] []) GoesOn text

-- a text that continues is kept, up to the longest that is read
unfoldable pub keeps : List ℕ → ToldState
keeps text = if nat_lt longest_text (length text) then rejects else tells (open_with text []) GoesOn []

-- a whole text is answered pair by pair, or rejected if it is malformed
abbrev pub answers_to : SessionParams → Frame → Result (List Pair) TextFault → ToldState
answers_to params request (Ok pairs) = sends params request (text_of (pairs_answer params pairs))
answers_to params request (Err fault) = rejects

-- RFC 7143 §11.10.2: C takes precedence over F; text that comes while a piece is due is rejected
unfoldable pub hears_in : ExchangeState → Frame → SessionParams → ToldState
hears_in exchange request params =
    if nat_lt 0 (length exchange.due) then (if length request.body == 0 then sends params request exchange.due else rejects)
    else if is_continued request.header then keeps (exchange.kept ++ request.body)
    else answers_to params request (text_pairs (exchange.kept ++ request.body))

-- the piece fits a PDU of the target
abbrev pub IsShort : Option TextPiece → Type 0
IsShort None = ⊤
IsShort (Some piece) = length piece.text ≤ most_data

-- The answer to a Text Request, if this is remembered of its exchange.
unfoldable pub hears : ExchangeState → Frame → SessionParams → ToldState
hears exchange request params =
    if begins request || is_of_exchange exchange request then hears_in (exchange_of exchange request) request params else rejects

-- own: the length of the text that answers a request which only continues its exchange. Such a request brings a piece
-- of a text that is kept, or asks for a piece of an answer after which more is due.
unfoldable pub text_on : ExchangeState → Frame → SessionParams → Option ℕ
text_on exchange request params =
    if not (is_of_exchange exchange request) then None
    else if nat_lt 0 (length exchange.due) then (
    if nat_lt (piece_limit params) (length exchange.due) && length request.body == 0 then Some (piece_limit params) else None
    )
    else if is_continued request.header && not (nat_lt longest_text (length exchange.kept + length request.body)) then Some 0
    else None

-- the piece has this length of text
abbrev pub IsLongAs : Option ℕ → Option TextPiece → Type 0
IsLongAs (Some n) (Some piece) = length piece.text ≡ n
IsLongAs (Some n) None = ⊥
IsLongAs None piece = ⊥
