use Rattle.std.proofs.Common.{◌≡◌, zero, ap, ◌∙◌, arith}
use Rattle.tape_index.specs.Index.{sizes_ahead}
use Rattle.tape_index.specs.SizeSpace.{size_way}
use Rattle.tape_index.specs.Way.{spaced_to}
use Rattle.tape_index.specs.declared.outcome.Over.TheVariants.{Filemarks}
use Rattle.tape_index.proofs.Spacing.{on_start, on_next, has_ended, spaced-none, way-edge, can_less, shorter, on_past, no_longer}
use Rattle.tape_index.proofs.index.Index.space_marks.Goals as goal

pub loop-left-init : goal.loop-left-init
loop-left-init c = on_start c.args.toward Filemarks c.args.count c.args.from c.args.self.now.sizes c.requires

pub moved-at-requires : goal.moved-at-requires
moved-at-requires c = (rw c.in-Some.is at c.marks_ahead-start.ensures.ahead).can

pub moved-number-requires : goal.moved-number-requires
moved-number-requires c =
    let are = rw c.in-Some.is at c.marks_ahead-start.ensures.ahead in
    can_less c.args.toward c.marks_ahead-start.result.0 c.in-Some.ahead.many c.in-Part.passed are.can c.in-Part.ensures.within

pub loop-left-preserved : goal.loop-left-preserved
loop-left-preserved c =
    let are = rw c.in-Some.is at c.marks_ahead-start.ensures.ahead in
    on_next c.args.toward Filemarks c.args.count c.args.from c.args.self.now.sizes c.loop-left.left c.marks_ahead-start.result.0 c.in-All.rest
    c.moved-at.result c.in-Some.ahead
    (on_past _ _ _ _ _ _ _ c.loop-left-test.true c.loop-left.invariant c.marks_ahead-start.ensures.past) are c.moved-at.ensures
    (c.in-All.ensures.way c.args.toward)

pub loop-left-smaller : goal.loop-left-smaller
loop-left-smaller c =
    let are = rw c.in-Some.is at c.marks_ahead-start.ensures.ahead in
    let less = shorter c.args.toward c.marks_ahead-start.result.0 c.args.self.now.sizes c.in-Some.ahead are in
    let most = no_longer c.args.toward _ _ _ c.loop-left.invariant.within c.marks_ahead-start.ensures.past in
    rw c.moved-at.ensures (omega (arith, less, most))

pub returns-in-Part : goal.returns-in-Part
returns-in-Part c =
    let are = rw c.in-Some.is at c.marks_ahead-start.ensures.ahead in
    let sizes = c.args.self.now.sizes in
    let start = c.marks_ahead-start.result.0 in
    let ahead = c.in-Some.ahead in
    has_ended c.args.toward Filemarks c.args.count c.args.from sizes c.loop-left.left start c.in-Part.passed _
    (on_past _ _ _ _ _ _ _ c.loop-left-test.true c.loop-left.invariant c.marks_ahead-start.ensures.past)
    (ap (size_way c.args.toward Filemarks c.loop-left.left) are.is
    ∙ c.in-Part.ensures.way c.args.toward (sizes_ahead c.args.toward (spaced_to c.args.toward start ahead.many) sizes))
    (omega (arith, are.many, c.in-Part.ensures.within)) c.moved-number.ensures

pub returns-in_default : goal.returns-in_default
returns-in_default c =
    let sizes = c.args.self.now.sizes in
    let start = c.marks_ahead-start.result.0 in
    has_ended c.args.toward Filemarks c.args.count c.args.from sizes c.loop-left.left start 0 _
    (on_past _ _ _ _ _ _ _ c.loop-left-test.true c.loop-left.invariant c.marks_ahead-start.ensures.past)
    (rw c.at_edge-told.ensures (way-edge c.args.toward Filemarks c.loop-left.left start sizes c.loop-left-test.true
    (rw c.in_default.is at c.marks_ahead-start.ensures.ahead)))
    (omega arith) (spaced-none c.args.toward start)

pub returns : goal.returns
returns c =
    let sizes = c.args.self.now.sizes in
    let at = c.loop-left.at in
    let none : c.loop-left.left ≡ zero = omega (arith, c.loop-left-test.false) in
    has_ended c.args.toward Filemarks c.args.count c.args.from sizes c.loop-left.left at 0 _ c.loop-left.invariant
    (ap (λ n. size_way c.args.toward Filemarks n (sizes_ahead c.args.toward at sizes)) none) (omega arith) (spaced-none c.args.toward at)
