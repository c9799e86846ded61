-- A Text Request is answered no more than a PDU of the target bears.
use Rattle.std.proofs.Common.{◌≡◌, ℕ, ◌==◌, ◌||◌, ◌++◌, List, length, Bool, true, false, cond, ltb, Result, Ok, Err, refl, arith}
use Rattle.std.proofs.lemmas.Bool.{ltb-false}
use Rattle.std.proofs.lemmas.List.{length-take}
use Rattle.iscsi_pdu.specs.Frames.{Frame}
use Rattle.iscsi_pdu.specs.LoginRequest.{is_continued}
use Rattle.iscsi_text.specs.Pairs.{Pair, text_pairs, text_of, longest_text}
use Rattle.iscsi_text.specs.declared.fault.TextFault.{TextFault}
use Rattle.iscsi_login.specs.declared.session_params.SessionParams.{SessionParams}
use Rattle.iscsi_exchange.specs.ExchangeState.{ExchangeState}
use Rattle.iscsi_exchange.specs.Exchange.{IsShort, ToldState, begins, is_of_exchange, rejects, is_final, exchange_of, piece_limit, sends, keeps, answers_to, hears_in, hears}
use Rattle.iscsi_exchange.specs.SendTargets.{pairs_answer}

sends_short : (params : SessionParams) (request : Frame) (text : List ℕ) → IsShort (sends params request text).piece
unfolding sends
sends_short params request text = by_length (ltb (piece_limit params) (length text)) refl
  where
    whole : (b : Bool) → is_final request ≡ b → ltb (piece_limit params) (length text) ≡ false → IsShort (sends params request text).piece
    whole true f e = rw (e, f) (omega (arith, ltb-false _ _ e))
    whole false f e = rw (e, f) (omega (arith, ltb-false _ _ e))

    by_length : (b : Bool) → ltb (piece_limit params) (length text) ≡ b → IsShort (sends params request text).piece
    by_length true e = rw e (omega (arith, length-take (piece_limit params) text))
    by_length false e = whole (is_final request) refl e

keeps_short : (text : List ℕ) → IsShort (keeps text).piece
unfolding keeps
keeps_short text = by_length (ltb longest_text (length text)) refl
  where
    by_length : (b : Bool) → ltb longest_text (length text) ≡ b → IsShort (keeps text).piece
    by_length true e = rw e tt
    by_length false e = rw e (omega arith)

told_short : (params : SessionParams) (request : Frame) (pairs : Result (List Pair) TextFault) → IsShort (answers_to params request pairs).piece
told_short params request (Ok pairs) = sends_short params request (text_of (pairs_answer params pairs))
told_short params request (Err fault) = tt

short_by : (b : Bool) (x y : ToldState) → IsShort x.piece → IsShort y.piece → IsShort (cond b x y).piece
short_by true x y a b = a
short_by false x y a b = b

heard_short : (exchange : ExchangeState) (request : Frame) (params : SessionParams) → IsShort (hears_in exchange request params).piece
unfolding hears_in
heard_short exchange request params =
    short_by (ltb 0 (length exchange.due)) _ _
    (short_by (length request.body == 0) _ _ (sends_short params request exchange.due) tt)
    (short_by (is_continued request.header) _ _ (keeps_short (exchange.kept ++ request.body))
    (told_short params request (text_pairs (exchange.kept ++ request.body))))

pub hears_short : (exchange : ExchangeState) (request : Frame) (params : SessionParams) → IsShort (hears exchange request params).piece
unfolding hears
hears_short exchange request params =
    short_by (begins request || is_of_exchange exchange request) (hears_in (exchange_of exchange request) request params) rejects
    (heard_short (exchange_of exchange request) request params) tt
