use Rattle.std.proofs.Common.{ℕ, List, length, refl, ap, ◌∙◌, subst}
use Rattle.scsi_unit.specs.Units.{UnitStates, numbers_of}
use Rattle.iscsi_world.specs.World.{units_at}
use Rattle.iscsi_world.specs.Machine.{LinkState, Machine, link_at}
use Rattle.iscsi_world.specs.SessionCalls.{ServesSession}
use Rattle.iscsi_world.proofs.Lending.{lent_was, lent_is, lent_holds}
use Rattle.iscsi_connection.specs.Arriving.{frame_of}
use Rattle.iscsi_target.proofs.target.Target.serve_session.Goals as goal

pub invariant_of-self : goal.invariant_of-self
invariant_of-self g c =
    let units = c.self.inside.units.items in
    lent_holds c.self.inside.connections units units _ c.args.c _ _ c.serve.new.self c.requires.in_range c.self.invariant c.at_mut-connection.ensures.value
    refl (c.serve.ensures.within (length units))

pub returns-clause-calls : goal.returns-clause-calls
returns-clause-calls g c =
    let links = c.self.inside.connections in
    let given = link_at c.args.self.now c.args.c in
    let Calls : LinkState → LinkState → List ℕ → Type 0 =
    λ old new luns. ServesSession c.serve.result (frame_of c.args.arrived) luns c.serve.new.orders.items old new in
    subst (Calls given _) (c.luns_of-luns.ensures ∙ ap (λ (units : List UnitStates). numbers_of (units_at c.args.target units))
    (c.as_slice.ensures.value ∙ ap (λ (m : Machine). m.units) c.self.view_is))
    (subst (λ (new : LinkState). Calls given new c.luns_of-luns.result.now)
    (lent_is links c.args.c c.serve.new.self c.self.invariant.0 c.requires.in_range)
    (subst (λ (old : LinkState). Calls old c.serve.new.self c.luns_of-luns.result.now)
    (lent_was links c.args.self.now c.args.c _ _ c.self.invariant.0 c.requires.in_range c.at_mut-connection.ensures.value
    (ap (λ (m : Machine). m.links) c.self.view_is)) c.serve.ensures.calls))
