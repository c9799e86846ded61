use Rattle.std.proofs.Common.{ℕ, false, sym, subst, arith}
use Rattle.std.specs.Prelude.{replicate}
use Rattle.iscsi_ports.proofs.NamingShort.{AreChosen, none_chosen, one_more, no_more, is_full, is_whole}
use Rattle.iscsi_ports.proofs.turns.Turns.choose.Goals as goal
use Rattle.iscsi_ports.proofs.turns.Turns.choose.Goals.{then-ready-c+else-count-self, else-ready-c}

pub loop-c-init : goal.loop-c-init
loop-c-init c =
    subst (λ (n : ℕ). AreChosen c.args.ready.now c.args.self.now (replicate 64 false) 0 n) (sym c.start-c.ensures)
    (none_chosen c.args.ready.now c.args.self.now)

pub returns-then-count-self : goal.returns-then-count-self
returns-then-count-self c =
    is_full c.args.ready.now c.args.self.now c.loop-c.chosen c.loop-c.count c.loop-c.c c.loop-c-test.true c.loop-c.invariant
    c.if-ready-c.true c.if-count-self.true

pub loop-c-preserved : goal.loop-c-preserved
loop-c-preserved c =
    let i = c.loop-c.c in
    elim c.if-ready-c.branch [
      | then-ready-c+else-count-self w ↦
          rw (w.chosen-is, w.count-is)
          (one_more c.args.ready.now c.args.self.now c.loop-c.chosen c.loop-c.count i c.loop-c-test.true c.loop-c.invariant
          w.if-ready-c.true w.if-count-self.false)
      | else-ready-c w ↦
          rw (w.chosen-is, w.count-is)
          (no_more c.args.ready.now c.args.self.now c.loop-c.chosen c.loop-c.count i c.loop-c-test.true c.loop-c.invariant
          w.if-ready-c.false)
    ]

pub returns : goal.returns
returns c =
    is_whole c.args.ready.now c.args.self.now c.loop-c.chosen c.loop-c.count c.loop-c.c
    (omega (arith, c.loop-c-test.false)) c.loop-c.invariant
