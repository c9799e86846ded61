-- The texts of an exchange's answers are the pieces of the answer.
use Rattle.std.proofs.Common.{◌≡◌, ℕ, suc, List, [], ◌∷◌, ◌++◌, length, take, drop, true, false, refl, sym, ap, ◌∙◌, inl, inr, arith}
use Rattle.std.specs.Prelude.{nat_lt}
use Rattle.std.proofs.lemmas.Bool.{cases_Bool, ltb-true, ltb-false}
use Rattle.iscsi_pdu.specs.Frames.{Frame}
use Rattle.iscsi_pdu.specs.declared.text_response.TextStep.TheVariants.{Continued}
use Rattle.iscsi_text.specs.Cut.{parts_cut}
use Rattle.iscsi_text.proofs.Cuts.{long_is_cut, short_is_whole}
use Rattle.iscsi_login.specs.declared.session_params.SessionParams.{SessionParams}
use Rattle.iscsi_exchange.specs.ExchangeState.{open_with}
use Rattle.iscsi_exchange.specs.Exchange.{ToldState, tells, piece_limit, is_final, sends}
use Rattle.iscsi_exchange.specs.Laws.{text_in, texts_told, TextsAreCut}

sends_long : (params : SessionParams) (request : Frame) (due : List ℕ) → nat_lt (piece_limit params) (length due) ≡ true
    → sends params request due ≡ tells (open_with [] (drop (piece_limit params) due)) Continued (take (piece_limit params) due)
unfolding sends
sends_long params request due long = rw long refl

sends_short : (params : SessionParams) (request : Frame) (due : List ℕ) → nat_lt (piece_limit params) (length due) ≡ false
    → text_in (sends params request due).piece ≡ due ∷ []
unfolding sends
sends_short params request due short =
    elim (cases_Bool (is_final request)) [
      | inl final ↦ rw (short, final) refl
      | inr stays ↦ rw (short, stays) refl
    ]

none_told : (params : SessionParams) (due : List ℕ) (requests : List Frame) → length requests ≡ 0 → texts_told params due requests ≡ []
none_told params due [] none = refl
none_told params due (request ∷ requests) none = absurd (omega (arith, none))

pub texts_are_cut : TextsAreCut
texts_are_cut params due [] some few = refl
texts_are_cut params due (request ∷ requests) some few =
    let limit = piece_limit params in
    let first : List ℕ = take limit due in
    elim (cases_Bool (nat_lt limit (length due))) [
      | inl long ↦ (
          let cut : parts_cut limit due ≡ first ∷ parts_cut limit (drop limit due) = long_is_cut limit due some (ltb-true _ _ long) in
          let counted = ap length cut in
          let tail : texts_told params (drop limit due) requests ≡ take (length requests) (parts_cut limit (drop limit due)) =
          texts_are_cut params (drop limit due) requests some (omega (arith, few, counted)) in
          ap (λ (s : ToldState). text_in s.piece ++ texts_told params s.exchange.due requests) (sends_long params request due long)
          ∙ ap (λ (l : List (List ℕ)). first ∷ l) tail ∙ sym (ap (take (suc (length requests))) cut))
      | inr short ↦ (
          let cut : parts_cut limit due ≡ due ∷ [] = short_is_whole limit due some (ltb-false _ _ short) in
          let counted = ap length cut in
          let none : length requests ≡ 0 = omega (arith, few, counted) in
          let left = (sends params request due).exchange.due in
          ap (λ (l : List (List ℕ)). l ++ texts_told params left requests) (sends_short params request due short)
          ∙ ap (λ (l : List (List ℕ)). due ∷ l) (none_told params left requests none)
          ∙ sym (ap (take (suc (length requests))) cut ∙ ap (λ (n : ℕ). take (suc n) (due ∷ [])) none))
    ]
