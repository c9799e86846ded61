-- A request that only takes its exchange on is heard where the exchange stands.
use Rattle.std.proofs.Common.{◌≡◌, ℕ, ◌+◌, ◌<◌, ◌==◌, ◌&&◌, List, [], ◌∷◌, ◌++◌, length, take, drop, Bool, true, false, cond, ltb, refl, ap, sym, ◌∙◌, arith}
use Rattle.std.specs.Prelude.{Option, Some, None, is_some, not}
use Rattle.std.proofs.lemmas.Bool.{and_parts, eqb-true, lt-ltb, ltb-true}
use Rattle.std.proofs.lemmas.List.{length-append}
use Rattle.iscsi_pdu.specs.Frames.{Frame}
use Rattle.iscsi_pdu.specs.DataOut.{target_transfer_tag}
use Rattle.iscsi_pdu.specs.LoginRequest.{is_continued}
use Rattle.iscsi_pdu.specs.declared.text_response.TextStep.TheVariants.{Continued, GoesOn}
use Rattle.iscsi_text.specs.Pairs.{longest_text}
use Rattle.iscsi_login.specs.declared.session_params.SessionParams.{SessionParams}
use Rattle.iscsi_exchange.specs.ExchangeState.{ExchangeState, open_with}
use Rattle.iscsi_exchange.specs.Exchange.{begins, is_of_exchange, tells, piece_limit, sends, keeps, hears_in, hears, text_on}

-- of what text_on asks, where it says how much
abbrev text_by : Bool → Bool → Bool → Bool → Bool → Bool → ℕ → Option ℕ
text_by of due more empty continued long limit =
    cond (not of) None (cond due (cond (more && empty) (Some limit) None) (cond (continued && not long) (Some 0) None))

kept_by : (of due more empty continued long : Bool) (limit : ℕ) → is_some (text_by of due more empty continued long limit) ≡ true → due ≡ false
    → (of ≡ true) × (continued ≡ true) × (long ≡ false)
kept_by false due more empty continued long limit e f = absurd cc
kept_by true true more empty continued long limit e f = absurd cc
kept_by true false more empty false long limit e f = absurd cc
kept_by true false more empty true true limit e f = absurd cc
kept_by true false more empty true false limit e f = (refl, refl, refl)

sent_by : (of due more empty continued long : Bool) (limit : ℕ) → is_some (text_by of due more empty continued long limit) ≡ true → due ≡ true
    → (of ≡ true) × (more ≡ true) × (empty ≡ true)
sent_by false due more empty continued long limit e f = absurd cc
sent_by true false more empty continued long limit e f = absurd cc
sent_by true true false empty continued long limit e f = absurd cc
sent_by true true true false continued long limit e f = absurd cc
sent_by true true true true continued long limit e f = (refl, refl, refl)

begins_none : (exchange : ExchangeState) (request : Frame) → is_of_exchange exchange request ≡ true → begins request ≡ false
begins_none exchange request of =
    let tag : target_transfer_tag request.header ≡ 0xfffffffe = eqb-true _ _ (and_parts exchange.is_open _ of).1 in
    rw tag refl

-- a piece of a text is kept
pub record IsKept (exchange : ExchangeState) (request : Frame) (params : SessionParams) : Type 0 where
  pub is_open : exchange.is_open ≡ true
  pub text : text_on exchange request params ≡ Some 0
  pub hears : hears exchange request params ≡ tells (open_with (exchange.kept ++ request.body) []) GoesOn []

pub kept_on : (exchange : ExchangeState) (request : Frame) (params : SessionParams) → is_some (text_on exchange request params) ≡ true
    → ltb 0 (length exchange.due) ≡ false → IsKept exchange request params
unfolding text_on hears hears_in keeps
kept_on exchange request params some none =
    let parts = kept_by (is_of_exchange exchange request) (ltb 0 (length exchange.due)) (ltb (piece_limit params) (length exchange.due))
    (length request.body == 0) (is_continued request.header) (ltb longest_text (length exchange.kept + length request.body)) (piece_limit params) some none in
    let short : ltb longest_text (length (exchange.kept ++ request.body)) ≡ false = rw (length-append exchange.kept request.body) parts.2 in
    record {
      is_open = (and_parts exchange.is_open _ parts.0).0;
      text = rw (parts.0, none, parts.1, parts.2) refl;
      hears = rw (begins_none exchange request parts.0, parts.0, none, parts.1, short) refl;
    }

-- the next piece of an answer is sent
pub record IsSent (exchange : ExchangeState) (request : Frame) (params : SessionParams) : Type 0 where
  pub is_open : exchange.is_open ≡ true
  pub more : piece_limit params < length exchange.due
  pub text : text_on exchange request params ≡ Some (piece_limit params)
  pub hears : hears exchange request params ≡ tells (open_with [] (drop (piece_limit params) exchange.due)) Continued (take (piece_limit params) exchange.due)

pub sent_on : (exchange : ExchangeState) (request : Frame) (params : SessionParams) → is_some (text_on exchange request params) ≡ true
    → ltb 0 (length exchange.due) ≡ true → IsSent exchange request params
unfolding text_on hears hears_in sends
sent_on exchange request params some due =
    let parts = sent_by (is_of_exchange exchange request) (ltb 0 (length exchange.due)) (ltb (piece_limit params) (length exchange.due))
    (length request.body == 0) (is_continued request.header) (ltb longest_text (length exchange.kept + length request.body)) (piece_limit params) some due in
    record {
      is_open = (and_parts exchange.is_open _ parts.0).0;
      more = ltb-true _ _ parts.1;
      text = rw (parts.0, due, parts.1, parts.2) refl;
      hears = rw (begins_none exchange request parts.0, parts.0, due, parts.2, parts.1) refl;
    }

-- ---- what is told

pub kept_told : (before now : ExchangeState) (request : Frame) (params : SessionParams) (text : List ℕ) → IsKept before request params
    → now.is_open ≡ before.is_open → now.kept ≡ before.kept ++ request.body → now.due ≡ [] → text ≡ []
    → record { exchange = now; piece = Some (record { step = GoesOn; text = text }) } ≡ hears before request params
kept_told before now request params text is is_open kept due none =
    ap (λ (s : ExchangeState). tells s GoesOn text) (rw (is_open, kept, due, is.is_open) refl)
    ∙ ap (tells (open_with (before.kept ++ request.body) []) GoesOn) none ∙ sym is.hears

pub sent_told : (before now : ExchangeState) (request : Frame) (params : SessionParams) (text : List ℕ) → IsSent before request params
    → now.is_open ≡ before.is_open → now.kept ≡ [] → now.due ≡ drop (piece_limit params) before.due → text ≡ take (piece_limit params) before.due
    → record { exchange = now; piece = Some (record { step = Continued; text = text }) } ≡ hears before request params
sent_told before now request params text is is_open kept due piece =
    ap (λ (s : ExchangeState). tells s Continued text) (rw (is_open, kept, due, is.is_open) refl)
    ∙ ap (tells (open_with [] (drop (piece_limit params) before.due)) Continued) piece ∙ sym is.hears

-- a list of no length, and one of some
pub no_length : (due all : List ℕ) → due ≡ all → true ≡ (length due == 0) → (ltb 0 (length all) ≡ false) × (all ≡ [])
no_length [] all is empty = rw (sym is) (refl, refl)
no_length (x ∷ due) all is empty = absurd (omega (arith, eqb-true (length (x ∷ due)) 0 (sym empty)))

pub some_length : (due all : List ℕ) → due ≡ all → false ≡ (length due == 0) → ltb 0 (length all) ≡ true
some_length [] all is empty = absurd cc
some_length (x ∷ due) all is empty = rw (sym is) (lt-ltb 0 (length (x ∷ due)) (omega arith))
