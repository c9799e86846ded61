use Rattle.std.proofs.Common.{◌≡◌, arith}
use Rattle.iscsi_ports.specs.Turns.{is_short}
use Rattle.iscsi_ports.proofs.TakingTurns.{counted_here, counted_next}
use Rattle.iscsi_ports.proofs.turns.Turns.count_short.Goals as goal
use Rattle.iscsi_ports.proofs.turns.Turns.count_short.Goals.{then-ready-c, else-ready-c}

pub loop-c-preserved : goal.loop-c-preserved
loop-c-preserved c =
    let P = is_short c.args.ready.now c.args.self.now in
    let i = c.loop-c.c in
    let was = c.loop-c.invariant.count in
    elim c.if-ready-c.branch [
      | then-ready-c w ↦
          let counted = counted_here P i c.loop-c-test.true w.if-ready-c.true in
          record { count = omega (arith, was, counted, w.count-is); few = omega (arith, c.loop-c.invariant.few, w.count-is) }
      | else-ready-c w ↦
          let counted = counted_next P i c.loop-c-test.true w.if-ready-c.false in
          record { count = omega (arith, was, counted, w.count-is); few = omega (arith, c.loop-c.invariant.few, w.count-is) }
    ]

pub returns : goal.returns
returns c =
    let done : c.loop-c.c ≡ 64 = omega (arith, c.loop-c-test.false, c.loop-c.auto.c-end) in
    let all = c.loop-c.invariant.count in
    omega (arith, (rw done at all))
