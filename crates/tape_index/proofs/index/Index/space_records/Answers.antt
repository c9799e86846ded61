use Rattle.std.proofs.Common.{◌≡◌, zero, ap, ◌∙◌, arith}
use Rattle.tape_index.specs.Index.{sizes_ahead}
use Rattle.tape_index.specs.SizeSpace.{size_way}
use Rattle.tape_index.specs.Way.{spaced_to}
use Rattle.tape_index.specs.declared.outcome.Over.TheVariants.{Records}
use Rattle.tape_index.proofs.Spacing.{on_start, on_next, has_ended, spaced-none, way-edge, can_less, shorter}
use Rattle.tape_index.proofs.index.Index.space_records.Goals as goal

pub loop-left-init : goal.loop-left-init
loop-left-init c = on_start c.args.toward Records c.args.count c.args.from c.args.self.now.sizes c.requires

pub moved-at-requires : goal.moved-at-requires
moved-at-requires c = c.in-Some.ensures.can

pub moved-number-requires : goal.moved-number-requires
moved-number-requires c = can_less c.args.toward c.loop-left.at c.in-Some.ahead.many c.in-Part.passed c.in-Some.ensures.can c.in-Part.ensures.within

pub loop-left-preserved : goal.loop-left-preserved
loop-left-preserved c =
    on_next c.args.toward Records c.args.count c.args.from c.args.self.now.sizes c.loop-left.left c.loop-left.at c.in-All.rest c.moved-at.result
    c.in-Some.ahead c.loop-left.invariant c.in-Some.ensures c.moved-at.ensures (c.in-All.ensures.way c.args.toward)

pub loop-left-smaller : goal.loop-left-smaller
loop-left-smaller c = rw c.moved-at.ensures (shorter c.args.toward c.loop-left.at c.args.self.now.sizes c.in-Some.ahead c.in-Some.ensures)

pub returns-in-Part : goal.returns-in-Part
returns-in-Part c =
    let sizes = c.args.self.now.sizes in
    let at = c.loop-left.at in
    let ahead = c.in-Some.ahead in
    has_ended c.args.toward Records c.args.count c.args.from sizes c.loop-left.left at c.in-Part.passed _ c.loop-left.invariant
    (ap (size_way c.args.toward Records c.loop-left.left) c.in-Some.ensures.is
    ∙ c.in-Part.ensures.way c.args.toward (sizes_ahead c.args.toward (spaced_to c.args.toward at ahead.many) sizes))
    (omega (arith, c.in-Some.ensures.many, c.in-Part.ensures.within)) c.moved-number.ensures

pub returns-in_default : goal.returns-in_default
returns-in_default c =
    let sizes = c.args.self.now.sizes in
    let at = c.loop-left.at in
    has_ended c.args.toward Records c.args.count c.args.from sizes c.loop-left.left at 0 _ c.loop-left.invariant
    (rw c.at_edge-told.ensures (way-edge c.args.toward Records c.loop-left.left at sizes c.loop-left-test.true (rw c.in_default.is at c.ahead.ensures)))
    (omega arith) (spaced-none c.args.toward at)

pub returns : goal.returns
returns c =
    let sizes = c.args.self.now.sizes in
    let at = c.loop-left.at in
    let none : c.loop-left.left ≡ zero = omega (arith, c.loop-left-test.false) in
    has_ended c.args.toward Records c.args.count c.args.from sizes c.loop-left.left at 0 _ c.loop-left.invariant
    (ap (λ n. size_way c.args.toward Records n (sizes_ahead c.args.toward at sizes)) none) (omega arith) (spaced-none c.args.toward at)
