use Rattle.std.proofs.Common.{ℕ, length, string_bytes, subst, sym, ap, ◌∙◌}
use Rattle.std.proofs.lemmas.List.{length-map}
use Rattle.iscsi_login.specs.Directory.{KnownTargets}
use Rattle.iscsi_login.specs.LoginState.{IsTargetBelow}
use Rattle.iscsi_login.proofs.names.asked.Goals as goal

pub returns-in-None-clause-bound : goal.returns-in-None-clause-bound
returns-in-None-clause-bound c =
    let count = ap length c.as_slice.ensures.value ∙ sym (length-map c.directory.inside.targets.items string_bytes)
    ∙ ap (λ (known : KnownTargets). length known.names) c.directory.view_is in
    subst (λ (n : ℕ). IsTargetBelow n c.in-Ok.target) count c.in-Ok.ensures.bound
