use Rattle.std.proofs.Common.{inr, refl, ap, ◌∙◌, List, ℕ}
use Rattle.std.specs.Prelude.{option_map}
use Rattle.iscsi_login.specs.Directory.{KnownTargets}
use Rattle.iscsi_target.specs.Machine.{new_machine}
use Rattle.targetd.specs.Run.{listening}
use Rattle.targetd.proofs.Made.{known_is}
use Rattle.targetd.proofs.Ending.{serving, serving_unbound}
use Rattle.targetd.proofs.run.serve_setup.Goals as goal

pub new-requires : goal.new-requires
new-requires g c = c.requires.as_many

pub returns-in_err-ports-clause-ends : goal.returns-in_err-ports-clause-ends
returns-in_err-ports-clause-ends g c = λ document listen log names units.
    serving_unbound _ _ _ _ document c.from_residual.result c.in_err-ports.field-0.0 c.from_residual.ensures.1
    (rw (c.as_str.ensures.value, listen, c.requires.unbound) at c.in_err-ports.ensures.fault)

pub returns-in_err-target-clause-ends : goal.returns-in_err-target-clause-ends
returns-in_err-target-clause-ends g c = λ document listen log names units.
    serving_unbound _ _ _ _ document c.from_residual-in_err-target.result _ c.from_residual-in_err-target.ensures.1 (inr refl)

pub returns-clause-ends : goal.returns-clause-ends
returns-clause-ends g c = λ document listen log names units.
    let address = c.in_ok-ports.address in
    let asked = c.in_ok-ports.ensures.log ∙ ap (λ (text : List ℕ). listening text address) (c.as_str.ensures.value ∙ listen) in
    let made = c.in_ok-target.ensures.made
    ∙ ap (λ (directory : KnownTargets). new_machine directory c.args.setup.units.items) (known_is c.args.setup.config document names listen) in
    inr (serving g.S.Start.held _ _ _ document c.args.count c.args.setup.units.items address _ c.in_ok-target.target _
    c.serve_logged-ports.result.1 units (ap (option_map _) c.keep_served.ensures.served) asked made c.in_ok-target.ensures.bounded
    (rw (log, c.requires.logged, ← c.keep_served.ensures.logged) at c.serve_logged-ports.ensures.logged) c.serve_logged-ports.ensures.serves)
