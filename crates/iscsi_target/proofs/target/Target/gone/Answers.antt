use Rattle.std.proofs.Common.{List, length, refl, subst, sym, ap, ◌∙◌, arith}
use Rattle.iscsi_world.specs.Machine.{LinkState, Machine, IsWithin, with_link, closed, free_link}
use Rattle.iscsi_world.proofs.Lending.{Holds, lent_holds}
use Rattle.iscsi_world.proofs.Moving.{closed_count}
use Rattle.iscsi_world.proofs.Sound.{closed_back, at_as, at_units, closed_sure, sure_as}
use Rattle.iscsi_world.proofs.Standing.{gone_stands, stands_machine}
use Rattle.iscsi_world.proofs.Wanting.{bounded_links, gone_bounded}
use Rattle.iscsi_target.proofs.target.Target.gone.Goals as goal

pub invariant_of-self : goal.invariant_of-self
invariant_of-self g c =
    let units = c.self.inside.units.items in
    subst (λ (links : List LinkState). Holds links units (length c.self.inside.directory.names)) (sym c.put.ensures)
    (lent_holds c.self.inside.connections units units _ c.args.c free_link _ c.free.result c.requires.in_range c.self.invariant refl refl
    (λ was. subst (λ (l : LinkState). IsWithin (length units) l.phase) (sym c.free.ensures) tt))

pub returns-clause-each : goal.returns-clause-each
returns-clause-each g c = λ target sound. closed_back c.args.self.now c.args.c target
    (at_as c.close.new.self _ target c.close.ensures.closed (at_units _ c.close.new.self target (ap (λ (m : Machine). m.units) c.self.view_is) sound))

pub returns-clause-sure : goal.returns-clause-sure
returns-clause-sure g c = λ sure. sure_as c.close.new.self _ (sym c.self.view_is)
    (sure_as _ c.close.new.self (sym c.close.ensures.closed) (closed_sure c.args.self.now c.args.c sure))

pub returns-clause-now : goal.returns-clause-now
returns-clause-now g c = rw (c.put.ensures, c.free.ensures, ← c.close.ensures.closed, ← c.self.view_is) refl

pub returns-clause-always : goal.returns-clause-always
returns-clause-always g c = λ s sent h at.
    stands_machine _ _ _ _ _ (sym (returns-clause-now g c)) (gone_stands s sent c.args.self.now h c.args.c c.requires.in_range at)

pub returns-clause-count : goal.returns-clause-count
returns-clause-count g c =
    sym (closed_count c.args.self.now c.args.c) ∙ ap (λ (m : Machine). length m.links) (sym c.close.ensures.closed ∙ sym c.self.view_is) ∙ c.self.invariant.0

pub returns-clause-bounded : goal.returns-clause-bounded
returns-clause-bounded g c = λ bounded. bounded_links (with_link (closed c.args.self.now c.args.c) c.args.c free_link) _
    (ap (λ (m : Machine). m.links) (sym (returns-clause-now g c)))
    (gone_bounded c.args.self.now c.args.c (let below = c.requires.in_range in omega (arith, returns-clause-count g c, below)) bounded)
