use Rattle.std.proofs.Common.{◌≡◌, Some, true, refl, sym, ◌∙◌}
use Rattle.iscsi_login.specs.Number.{number_in}
use Rattle.iscsi_login.specs.Values.{is_segment_key}
use Rattle.iscsi_login.proofs.values.Values.with_declared.Goals as goal

pub returns-in-Some : goal.returns-in-Some
returns-in-Some c =
    let declares : is_segment_key c.args.key.now ≡ true = sym c.same.ensures ∙ c.if-not-same.false in
    let within : number_in 512 16777215 c.args.value.now ≡ Some c.in-Some.length = sym c.number_in.ensures ∙ c.in-Some.is in
    rw (declares, within) refl
