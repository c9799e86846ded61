use Rattle.std.proofs.Common.{length, refl, sym, ap, arith}
use Rattle.iscsi_world.specs.Machine.{Machine, with_link, opened_link}
use Rattle.iscsi_world.proofs.Sound.{at_units, sure_as}
use Rattle.iscsi_world.proofs.Standing.{open_stands, stands_machine}
use Rattle.iscsi_world.proofs.Wanting.{bounded_links, opened_bounded}
use Rattle.iscsi_target.proofs.target.Target.open.Goals as goal

pub returns-clause-now : goal.returns-clause-now
returns-clause-now g c = rw (c.put.ensures, c.opened.ensures, ← c.self.view_is) refl

pub returns-clause-always : goal.returns-clause-always
returns-clause-always g c = λ s sent h at. stands_machine _ _ _ _ _ (sym (returns-clause-now g c))
    (open_stands s sent c.args.self.now h c.args.c c.requires.in_range c.requires.free at)

pub returns-clause-each : goal.returns-clause-each
returns-clause-each g c = λ target sound. at_units _ c.args.self.now target (ap (λ (m : Machine). m.units) c.self.view_is) sound

pub returns-clause-sure : goal.returns-clause-sure
returns-clause-sure g c = λ sure. sure_as c.args.self.now _ (sym c.self.view_is) sure

pub returns-clause-bounded : goal.returns-clause-bounded
returns-clause-bounded g c = λ bounded. bounded_links (with_link c.args.self.now c.args.c (opened_link c.args.c)) _
    (ap (λ (m : Machine). m.links) (sym (returns-clause-now g c)))
    (opened_bounded c.args.self.now c.args.c (let count = c.self.invariant.0 in let below = c.requires.in_range in
    omega (arith, ap (λ (m : Machine). length m.links) c.self.view_is, count, below)) bounded)
