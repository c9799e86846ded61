use Rattle.std.proofs.Common.{sym, ap, ◌∙◌, arith}
use Rattle.iscsi_world.specs.Machine.{Machine, link_at, with_link, sent_link}
use Rattle.iscsi_world.proofs.Sound.{at_units}
use Rattle.iscsi_world.proofs.Standing.{sent_stands, stands_machine}
use Rattle.iscsi_world.proofs.Wanting.{bounded_links, sent_bounded}
use Rattle.iscsi_target.proofs.target.Target.sent.Goals as goal

pub returns-clause-always : goal.returns-clause-always
returns-clause-always g c = λ s sent h at. stands_machine s _ h _ _ (sym (c.trim.ensures ∙ c.note.ensures ∙ c.advance.ensures.sent))
    (sent_stands s sent c.args.self.now h c.args.c c.args.n c.requires.in_range c.requires.waits at)

pub returns-clause-each : goal.returns-clause-each
returns-clause-each g c = λ target sound.
    at_units _ c.args.self.now target (ap (λ (m : Machine). m.units) (c.trim.ensures ∙ c.note.ensures ∙ c.advance.ensures.sent)) sound

pub returns-clause-bounded : goal.returns-clause-bounded
returns-clause-bounded g c = λ bounded.
    bounded_links (with_link c.args.self.now c.args.c (sent_link (link_at c.args.self.now c.args.c) c.args.n)) _
    (ap (λ (m : Machine). m.links) (sym (c.trim.ensures ∙ c.note.ensures ∙ c.advance.ensures.sent)))
    (sent_bounded c.args.self.now c.args.c c.args.n (let lt = c.requires.in_range in omega (arith, c.advance.ensures.count, lt)) bounded)
