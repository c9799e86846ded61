use Rattle.std.proofs.Common.{◌≡◌, ◌≤◌, nat_le, length, refl, arith, true, false}
use Rattle.std.proofs.lemmas.Bool.{le-leb, lt-leb}
use Rattle.std.proofs.lemmas.List.{take-append-drop, take_all, drop_all}
use Rattle.media_tape.specs.Items.{items_sized}
use Rattle.media_tape.proofs.Sized.{length-sized}
use Rattle.media_tape.proofs.tape.Tape.locate.Goals as goal

pub returns-then-count-number-clause-told : goal.returns-then-count-number-clause-told
returns-then-count-number-clause-told g c =
    let old = c.self.inside in
    let content = g.S.Store.content old.store in
    let past : nat_le c.args.number (length old.index.sizes) ≡ false =
    lt-leb c.args.number (length old.index.sizes) (omega (arith, c.count-count.ensures, c.if-count-number.true)) in
    rw (← c.self.view_is, take-append-drop old.position (items_sized old.index.sizes content), length-sized old.index.sizes content, past) refl

pub returns-clause-told : goal.returns-clause-told
returns-clause-told g c =
    let old = c.self.inside in
    let content = g.S.Store.content old.store in
    let there : nat_le c.args.number (length old.index.sizes) ≡ true =
    le-leb c.args.number (length old.index.sizes) (omega (arith, c.count-count.ensures, c.if-count-number.false)) in
    rw (← c.self.view_is, take-append-drop old.position (items_sized old.index.sizes content), length-sized old.index.sizes content, there) refl

pub returns-then-count-number-clause-tape : goal.returns-then-count-number-clause-tape
returns-then-count-number-clause-tape g c =
    let old = c.self.inside in
    let content = g.S.Store.content old.store in
    let items = items_sized old.index.sizes content in
    let many = length-sized old.index.sizes content in
    let count = c.count-count.result in
    let few : length items ≤ count = omega (arith, many, c.count-count.ensures) in
    let fewer : length items ≤ c.args.number = omega (arith, many, c.count-count.ensures, c.if-count-number.true) in
    rw (
      ← c.self.view_is,
      take-append-drop old.position items,
      take_all count items few,
      drop_all count items few,
      take_all c.args.number items fewer,
      drop_all c.args.number items fewer,
    ) refl
