use Rattle.std.proofs.Common.{◌≡◌, ℕ, ◌+◌, ◌-◌, ◌^◌, ◌<◌, length, ap, sym, ◌∙◌, arith}
use Rattle.std.specs.Prelude.{nat_lt}
use Rattle.std.proofs.lemmas.Bool.{ltb-true}
use Rattle.iscsi_order.specs.Serial.{distance}
use Rattle.iscsi_order.specs.Window.{window, Past, taken, exp_cmd_sn, in_window}
use Rattle.iscsi_order.specs.WindowState.{IsLawful}
use Rattle.iscsi_order.proofs.Standing.{taken_is, window_is}
use Rattle.iscsi_order.proofs.laws.window_is_a_range.Goals as goal

window_range : (past : Past) (number : ℕ) → IsLawful past → number < 2 ^ 32
    → in_window past number ≡ nat_lt (distance (exp_cmd_sn past) number) (window + past.finished - length (taken past))
window_range past number lawful fits =
    let e = taken_is past in
    let same : past.finished + window - length (taken past) ≡ window + past.finished - length (taken past) = omega arith in
    window_is past number lawful fits ∙ ap (λ (n : ℕ). nat_lt (distance (exp_cmd_sn past) number) n) (ap (λ (n : ℕ). past.finished + window - n) (sym e) ∙ same)

pub returns-clause-range : goal.returns-clause-range
returns-clause-range c past number lawful fits = window_range past number lawful fits

pub returns-clause-index : goal.returns-clause-index
returns-clause-index c past number lawful fits inside =
    let near : distance (exp_cmd_sn past) number < window + past.finished - length (taken past) = ltb-true _ _ (sym (window_range past number lawful fits)
    ∙ inside) in
    let finished = lawful.finished in
    let handed = lawful.handed in
    record { number_is = omega arith; behind = omega arith; near = omega arith }
