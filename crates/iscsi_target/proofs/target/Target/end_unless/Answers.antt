use Rattle.std.proofs.Common.{length, sym, ap, ◌∙◌, arith}
use Rattle.iscsi_world.specs.Machine.{Machine}
use Rattle.iscsi_target.proofs.target.Target.end_unless.Goals as goal
use Rattle.std.proofs.lemmas.Grind.{common_steps}

pub returns-in-Ok-true-clause-count : goal.returns-in-Ok-true-clause-count
returns-in-Ok-true-clause-count g c = ap (λ (m : Machine). length m.links) (sym c.self.view_is) ∙ c.self.invariant.0

pub returns-in-Ok-false-clause-same : goal.returns-in-Ok-false-clause-same
returns-in-Ok-false-clause-same g c = grind (arith, common_steps)
