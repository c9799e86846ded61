use Rattle.std.proofs.Common.{refl}
use Rattle.std.proofs.lemmas.List.{take-append-drop}
use Rattle.media_tape.specs.Items.{items_sized}
use Rattle.media_tape.proofs.Sized.{length-sized}
use Rattle.media_tape.proofs.tape.Tape.space_to_end.Goals as goal

pub returns : goal.returns
returns g c =
    let old = c.self.inside in
    let content = g.S.Store.content old.store in
    rw (
      ← c.self.view_is,
      take-append-drop old.position (items_sized old.index.sizes content),
      length-sized old.index.sizes content,
      c.count-self-inside.ensures,
    ) refl
