use Rattle.std.proofs.Common.{refl, sym, ◌∙◌}
use Rattle.std.proofs.lemmas.Result.{IfOk-weaker}
use Rattle.scsi_unit.specs.Unit.{perform_as}
use Rattle.scsi_unit.proofs.Performed.{performed_defined}
use Rattle.scsi_unit.proofs.unit.Unit.perform.Goals as goal

pub returns-then-not-is_named-clause-done : goal.returns-then-not-is_named-clause-done
unfolding perform_as
returns-then-not-is_named-clause-done g c =
    IfOk-weaker c.without_unit.result _ _
    (λ done answer. performed_defined _ _ c.args.self.now c.args.self.now done refl
    (rw (sym c.is_named.ensures ∙ c.if-not-is_named.true, answer) refl))
    c.without_unit.ensures.done
