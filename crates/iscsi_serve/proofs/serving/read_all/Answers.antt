use Rattle.std.proofs.Common.{sym, ◌∙◌, arith}
use Rattle.iscsi_serve.specs.Turn.{Reads}
use Rattle.iscsi_serve.proofs.Flags.{one_here, none_here}
use Rattle.iscsi_serve.proofs.Keeping.{none_does, one_more_does}
use Rattle.iscsi_serve.proofs.Passing.{unnamed_does}
use Rattle.iscsi_serve.proofs.serving.read_all.Goals as goal
use Rattle.iscsi_serve.proofs.serving.read_all.Goals.{then-named-c, else-named-c}

pub loop-c-init : goal.loop-c-init
loop-c-init g c = record { does = none_does (Reads c.args.named.now) _ _ _ _; left = c.count_named-unread.ensures }

pub loop-c-preserved : goal.loop-c-preserved
loop-c-preserved g c =
    let flags = c.args.named.now.connections in
    let i = c.loop-c.c in
    let was = c.loop-c.invariant in
    let does = one_more_does (Reads c.args.named.now) i _ _ _ _ _ _ _ _ _ _ _ _ was.does c.read_one.ensures in
    elim c.if-named-c.branch [
      | then-named-c w ↦
          let one = one_here flags i (omega (arith, c.loop-c-test.true)) w.if-named-c.true in
          record { does = does; left = omega (arith, was.left, one, w.unread-is) }
      | else-named-c w ↦
          let none = none_here flags i w.if-named-c.false in
          record { does = does; left = omega (arith, was.left, none, w.unread-is) }
    ]

pub returns-then-unread-eq0 : goal.returns-then-unread-eq0
returns-then-unread-eq0 g c =
    unnamed_does c.args.named.now c.loop-c.c _ _ _ _ _ _ _ _ (omega (arith, c.loop-c-test.true))
    (sym c.loop-c.invariant.left ∙ c.if-unread-eq0.true) c.loop-c.invariant.does
