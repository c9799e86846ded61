-- The texts of a login's answers are the pieces of the text that is due.
use Rattle.std.proofs.Common.{◌≡◌, ℕ, suc, List, [], ◌∷◌, length, take, drop, refl, sym, ap, ◌∙◌, inl, inr, arith}
use Rattle.std.proofs.lemmas.Bool.{cases_lt}
use Rattle.std.proofs.lemmas.List.{take_all}
use Rattle.iscsi_text.specs.Cut.{parts_cut}
use Rattle.iscsi_text.proofs.Cuts.{long_is_cut, short_is_whole}
use Rattle.iscsi_login.specs.LoginState.{LoginState}
use Rattle.iscsi_login.specs.Login.{longest_piece, answered}
use Rattle.iscsi_login.specs.Laws.{texts_sent, TextsAreCut}

none_sent : (login : LoginState) (headers : List (List ℕ)) → length headers ≡ 0 → texts_sent login headers ≡ []
none_sent login [] none = refl
none_sent login (header ∷ headers) none = absurd (omega (arith, none))

pub texts_are_cut : TextsAreCut
texts_are_cut login [] few = refl
texts_are_cut login (header ∷ headers) few =
    let due = login.due in
    let first : List ℕ = take longest_piece due in
    elim (cases_lt longest_piece (length due)) [
      | inl long ↦ (
          let cut : parts_cut longest_piece due ≡ first ∷ parts_cut longest_piece (drop longest_piece due) =
          long_is_cut longest_piece due (omega arith) long in
          let counted = ap length cut in
          let tail : texts_sent (answered login header) headers ≡ take (length headers) (parts_cut longest_piece (drop longest_piece due)) =
          texts_are_cut (answered login header) headers (omega (arith, few, counted)) in
          ap (λ (l : List (List ℕ)). first ∷ l) tail ∙ sym (ap (take (suc (length headers))) cut))
      | inr short ↦ (
          let cut : parts_cut longest_piece due ≡ due ∷ [] = short_is_whole longest_piece due (omega arith) short in
          let counted = ap length cut in
          let none : length headers ≡ 0 = omega (arith, few, counted) in
          ap (λ (l : List (List ℕ)). first ∷ l) (none_sent (answered login header) headers none)
          ∙ ap (λ (x : List ℕ). x ∷ []) (take_all longest_piece due short)
          ∙ sym (ap (take (suc (length headers))) cut ∙ ap (λ (n : ℕ). take (suc n) (due ∷ [])) none))
    ]
