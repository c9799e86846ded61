use Rattle.std.proofs.Common.{arith, ℕ, eqb, ap, ◌∙◌, sym}
use Rattle.std.proofs.lemmas.Bool.{eqb-true}
use Rattle.iscsi_login.proofs.Numbers.{numeral_read, numeral_signed}
use Rattle.iscsi_login.proofs.number.numeral.Goals as goal

pub returns-then-starts_with : goal.returns-then-starts_with
returns-then-starts_with c =
    let is_sign = c.starts_with.ensures.byte (omega arith) (omega arith) (λ w o h. h) in
    numeral_signed c.args.radix c.args.digits.now (omega arith) (eqb-true _ _ (sym is_sign ∙ c.if-starts_with.true))

pub returns : goal.returns
returns c =
    let is_sign = c.starts_with.ensures.byte (omega arith) (omega arith) (λ w o h. h) in
    c.ok.ensures.value ∙ numeral_read c.args.radix c.args.digits.now c.from_str_radix.result (λ e. let t = ap (λ (n : ℕ). eqb n 43) e in
    absurd (cc (is_sign, c.if-starts_with.false))) c.from_str_radix.ensures.value
