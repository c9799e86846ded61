use Rattle.std.proofs.Common.{take, drop, sym, ap, ◌∙◌, arith}
use Rattle.media_tape.specs.Items.{items_sized}
use Rattle.media_tape.specs.Tape.{TapeState}
use Rattle.tape_index.specs.Way.{Way}
use Rattle.media_tape.proofs.Sized.{sizes-sized, length-sized, items_sized-have}
use Rattle.media_tape.proofs.Sizes.{ways_ahead, spaced_is}
use Rattle.media_tape.proofs.tape.Tape.space.Goals as goal

pub returns-clause-told : goal.returns-clause-told
returns-clause-told g c =
    let old = c.self.inside in
    let sizes = old.index.sizes in
    let content = g.S.Store.content old.store in
    c.space-ended.ensures.told ∙ ap (λ (w : Way). w.told) (ways_ahead c.args.toward c.args.over c.args.count old.position sizes c.args.self.now
    (items_sized sizes content) (ap (λ (t : TapeState). t.before) (sym c.self.view_is)) (ap (λ (t : TapeState). t.after) (sym c.self.view_is))
    (sizes-sized sizes content c.self.invariant.sized) (items_sized-have sizes content))

pub returns-clause-tape : goal.returns-clause-tape
returns-clause-tape g c =
    let old = c.self.inside in
    let sizes = old.index.sizes in
    let number = c.space-ended.result.number in
    let content = g.S.Store.content old.store in
    let items = items_sized sizes content in
    ap (λ (t : TapeState). record t { before = take number items; after = drop number items }) c.self.view_is
    ∙ spaced_is c.args.toward c.args.over c.args.count old.position number sizes c.args.self.now items
    (ap (λ (t : TapeState). t.before) (sym c.self.view_is)) (ap (λ (t : TapeState). t.after) (sym c.self.view_is))
    (sizes-sized sizes content c.self.invariant.sized) (items_sized-have sizes content)
    (omega (arith, c.self.invariant.within, length-sized sizes content))
    c.space-ended.ensures.number
