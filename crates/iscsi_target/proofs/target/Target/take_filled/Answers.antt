use Rattle.std.proofs.Common.{ℕ, List, [], refl, sym, ap, ◌∙◌, subst, append-nil}
use Rattle.iscsi_world.specs.Machine.{Machine, link_at, GivesFrame}
use Rattle.iscsi_world.specs.Serving.{TakesBytes, first_starved, kept_piece}
use Rattle.iscsi_target.proofs.Bytes.{takes_begin, takes_next, takes_then, takes_end, kept_nothing}
use Rattle.iscsi_target.proofs.target.Target.take_filled.Goals as goal

pub returns-in-Some : goal.returns-in-Some
returns-in-Some g c =
    let at = c.args.c in
    let old = c.args.self.now in
    let after = c.take_frame.new.self in
    let starved = first_starved c.take_frame.result in
    let on = takes_begin at [] old c.requires.in_range c.requires.reads c.in-Some.ensures.no_more in
    let next = takes_next at old c.take_alone.new.self after c.in-Some.frame [] 0 starved c.requires.in_range c.take_alone.ensures.count c.requires.reads
    (subst (λ (x : List ℕ). GivesFrame c.in-Some.frame x []) (sym (append-nil (link_at old at).half)) c.in-Some.ensures.given) c.in-Some.ensures.left
    c.take_frame.ensures in
    subst (λ (m : Machine). TakesBytes at starved m after) (kept_nothing at old)
    (takes_end at starved (kept_piece at [] old) after [] c.requires.in_range
    (takes_then at _ starved (kept_piece at [] old) old after [] [] c.requires.in_range c.requires.reads on next) refl next.1)

pub returns-in-None : goal.returns-in-None
returns-in-None g c =
    let at = c.args.c in
    let old = c.args.self.now in
    subst (λ (m : Machine). TakesBytes at (first_starved c.take_piece.result) m c.take_piece.new.self)
    (ap (λ (m : Machine). kept_piece at [] m) c.in-None.ensures.none ∙ kept_nothing at old) c.take_piece.ensures
