use Rattle.std.proofs.Common.{inr, refl, Ok, ◌∙◌}
use Rattle.target_serving.proofs.Failing.{fails_to_print, serving_fails}
use Rattle.target_serving.proofs.serve.serve.Goals as goal

pub returns-in_err-print_all : goal.returns-in_err-print_all
returns-in_err-print_all g c =
    fails_to_print _ _ _ _ _ _ _ c.from_residual-in_err-print_all.result c.in_err-print_all.field-0.0 c.as_bytes.result.now
    c.from_residual-in_err-print_all.ensures.1
    c.in_err-print_all.ensures.fault (c.as_bytes.ensures.value ∙ c.in_ok-line.ensures) c.in_err-print_all.ensures.part

pub returns-in_err-turns : goal.returns-in_err-turns
returns-in_err-turns g c =
    serving_fails _ _ _ _ _ _ _ _ _ c.from_residual-in_err-turns.result c.in_err-turns.field-0.0 c.from_residual-in_err-turns.ensures.1
    (record {
      announced = rw (c.as_bytes.ensures.value, c.in_ok-line.ensures) at c.in_ok-print_all.ensures.whole;
      turned = c.in_err-turns.ensures.turned;
      served = c.in_err-turns.ensures.served;
      came = c.in_err-turns.ensures.came;
      bounded = c.in_err-turns.ensures.bounded;
      sure = c.in_err-turns.ensures.sure;
    })

pub returns : goal.returns
returns g c =
    inr (
      Ok tt,
      refl,
      record {
        announced = rw (c.as_bytes.ensures.value, c.in_ok-line.ensures) at c.in_ok-print_all.ensures.whole;
        turned = c.in_ok-turns.ensures.turned;
        served = c.in_ok-turns.ensures.served;
        came = c.in_ok-turns.ensures.came;
        bounded = c.in_ok-turns.ensures.bounded;
        sure = c.in_ok-turns.ensures.sure;
      },
    )
