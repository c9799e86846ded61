use Rattle.std.proofs.Common.{length, refl, subst, sym}
use Rattle.std.proofs.lemmas.List.{length-set}
use Rattle.iscsi_login.specs.LoginState.{IsTargetBelow}
use Rattle.iscsi_world.specs.Machine.{Machine}
use Rattle.iscsi_world.proofs.Begun.{begun_within}
use Rattle.iscsi_world.proofs.Lending.{lent_holds}
use Rattle.iscsi_target.proofs.target.Target.begin_session.Goals as goal

pub invariant_of-self : goal.invariant_of-self
invariant_of-self g c =
    let units = c.self.inside.units.items in
    let target = subst (λ (m : Machine). IsTargetBelow (length m.units) c.args.session.target) (sym c.self.view_is) c.requires.target in
    lent_holds c.self.inside.connections units _ _ c.args.c _ _ c.begin.new.self c.requires.in_range c.self.invariant c.at_mut-connection.ensures.value
    (length-set units c.in-Some.target c.begin.new.units)
    (begun_within c.begin.result (length units) c.begin.new.self c.at_mut-connection.result.now c.args.session c.args.answer.now
    c.begin.ensures.ok c.begin.ensures.err target c.requires.values)

pub invariant_of-self-in-None : goal.invariant_of-self-in-None
invariant_of-self-in-None g c =
    let units = c.self.inside.units.items in
    let target = subst (λ (m : Machine). IsTargetBelow (length m.units) c.args.session.target) (sym c.self.view_is) c.requires.target in
    lent_holds c.self.inside.connections units units _ c.args.c _ _ c.begin_discovery.new.self c.requires.in_range c.self.invariant
    c.at_mut-connection-in-None.ensures.value refl
    (begun_within c.begin_discovery.result (length units) c.begin_discovery.new.self c.at_mut-connection-in-None.result.now c.args.session
    c.args.answer.now c.begin_discovery.ensures.ok c.begin_discovery.ensures.err target c.requires.values)
