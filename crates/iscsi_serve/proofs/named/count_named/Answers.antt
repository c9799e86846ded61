use Rattle.std.proofs.Common.{◌≡◌, arith}
use Rattle.iscsi_serve.proofs.Flags.{one_here, none_here, none_after}
use Rattle.iscsi_serve.proofs.named.count_named.Goals as goal
use Rattle.iscsi_serve.proofs.named.count_named.Goals.{then-named-c, else-named-c}

pub loop-c-preserved : goal.loop-c-preserved
loop-c-preserved c =
    let flags = c.args.named.now.connections in
    let i = c.loop-c.c in
    let was = c.loop-c.invariant.count in
    elim c.if-named-c.branch [
      | then-named-c w ↦
          let counted = one_here flags i (omega (arith, c.loop-c-test.true)) w.if-named-c.true in
          record { count = omega (arith, was, counted, w.count-is); few = omega (arith, c.loop-c.invariant.few, w.count-is) }
      | else-named-c w ↦
          let counted = none_here flags i w.if-named-c.false in
          record { count = omega (arith, was, counted, w.count-is); few = omega (arith, c.loop-c.invariant.few, w.count-is) }
    ]

pub returns : goal.returns
returns c =
    let done : c.loop-c.c ≡ 64 = omega (arith, c.loop-c-test.false, c.loop-c.auto.c-end) in
    let all = c.loop-c.invariant.count in
    let none = none_after c.args.named.now.connections 64 (omega arith) in
    omega (arith, (rw done at all), none)
