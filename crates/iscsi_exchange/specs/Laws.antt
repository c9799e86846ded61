-- Laws of the pieces of an answer.
use Rattle.std.specs.Prelude.{◌≡◌, ℕ, ◌≤◌, List, [], ◌∷◌, ◌++◌, length, take, Option, Some, None}
use Rattle.iscsi_pdu.specs.Frames.{Frame}
use Rattle.iscsi_text.specs.Cut.{parts_cut}
use Rattle.iscsi_login.specs.declared.session_params.SessionParams.{SessionParams}
use Rattle.iscsi_exchange.specs.Exchange.{TextPiece, piece_limit, sends}

-- the text of an answer; there is none if the request is rejected
abbrev pub text_in : Option TextPiece → List (List ℕ)
text_in None = []
text_in (Some piece) = piece.text ∷ []

-- the texts of the answers to these requests, while this much of an answer is due
abbrev pub texts_told : SessionParams → List ℕ → List Frame → List (List ℕ)
texts_told params due [] = []
texts_told params due (request ∷ requests) =
    text_in (sends params request due).piece ++ texts_told params (sends params request due).exchange.due requests

-- The texts are the pieces of the answer, cut at the multiples of what the initiator takes in one PDU.
abbrev pub TextsAreCut : Type 0
TextsAreCut = (params : SessionParams) (answer : List ℕ) (requests : List Frame) → 1 ≤ piece_limit params
    → length requests ≤ length (parts_cut (piece_limit params) answer)
    → texts_told params answer requests ≡ take (length requests) (parts_cut (piece_limit params) answer)
