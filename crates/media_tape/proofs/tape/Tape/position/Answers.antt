use Rattle.std.proofs.Common.{sym, arith}
use Rattle.std.proofs.lemmas.List.{length-take-le}
use Rattle.media_tape.specs.Items.{items_sized}
use Rattle.media_tape.proofs.Sized.{length-sized}
use Rattle.media_tape.proofs.tape.Tape.position.Goals as goal

pub returns : goal.returns
returns g c =
    let old = c.self.inside in
    let content = g.S.Store.content old.store in
    let items = items_sized old.index.sizes content in
    rw (← c.self.view_is)
    (sym (length-take-le old.position items (omega (arith, c.self.invariant.within, length-sized old.index.sizes content))))
