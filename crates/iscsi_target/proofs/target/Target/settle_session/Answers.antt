use Rattle.std.proofs.Common.{length, ap, arith}
use Rattle.std.proofs.lemmas.List.{length-set}
use Rattle.iscsi_world.specs.SessionCalls.{SettlesSession}
use Rattle.iscsi_world.specs.Machine.{Machine}
use Rattle.iscsi_world.proofs.Lending.{lent_was, lent_is, units_were, units_are, lent_holds, lent_so}
use Rattle.std.proofs.lemmas.Grind.{common_steps}
use Rattle.iscsi_target.proofs.target.Target.settle_session.Goals as goal

pub invariant_of-self : goal.invariant_of-self
invariant_of-self g c =
    let units = c.self.inside.units.items in
    lent_holds c.self.inside.connections units _ _ c.args.c _ _ c.settle.new.self c.requires.in_range c.self.invariant c.at_mut-connection.ensures.value
    (length-set units c.args.target c.settle.new.units) (c.settle.ensures.within (length units))

pub returns-clause-calls : goal.returns-clause-calls
returns-clause-calls g c =
    let links = c.self.inside.connections in
    let all = c.self.inside.units.items in
    let machine = c.args.self.now in
    let units = ap (λ (m : Machine). m.units) c.self.view_is in
    lent_so (λ old new units after. SettlesSession c.settle.result units after old new) _ _ _ _ _ _ _ _
    (lent_was links machine c.args.c _ _ c.self.invariant.0 c.requires.in_range c.at_mut-connection.ensures.value
    (ap (λ (m : Machine). m.links) c.self.view_is))
    (lent_is links c.args.c c.settle.new.self c.self.invariant.0 c.requires.in_range)
    (units_were all machine c.args.target _ _ c.requires.target units c.index_mut-units.ensures.value)
    (units_are all machine c.args.target c.settle.new.units c.requires.target units)
    c.settle.ensures.calls

pub returns-clause-changes : goal.returns-clause-changes
returns-clause-changes = grind (arith, common_steps)

pub returns-clause-count : goal.returns-clause-count
returns-clause-count = grind (arith, common_steps)
