use Rattle.std.proofs.Common.{nat_lt, ap, sym, ◌∙◌}
use Rattle.media_tape.proofs.Indexed.{placed}
use Rattle.media_tape.proofs.tape.Tape.is_early.Goals as goal

pub returns : goal.returns
returns g c =
    let old = c.self.inside in
    let here = placed (g.S.Store.content old.store) old.index.sizes old.position c.self.invariant.sized in
    rw (← c.self.view_is) (ap (nat_lt old.early_mark) (c.place_of.ensures ∙ sym here))
