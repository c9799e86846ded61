use Rattle.std.proofs.Common.{◌≡◌, false, refl, ◌∙◌}
use Rattle.iscsi_ports.specs.Turns.{is_due}
use Rattle.iscsi_ports.proofs.TakingTurns.{found_next}
use Rattle.iscsi_ports.proofs.turns.Turns.due_from.Goals as goal
use Rattle.iscsi_ports.proofs.turns.Turns.due_from.Goals.{else-ready-c-via-then-ready-c+else-self-c, else-ready-c-via-else-ready-c}

pub loop-c-preserved : goal.loop-c-preserved
loop-c-preserved c =
    let P = is_due c.args.ready.now c.args.self.now in
    let none : P c.loop-c.c ≡ false = elim c.else-ready-c.branch [
      | else-ready-c-via-then-ready-c+else-self-c w ↦ rw (w.if-ready-c.true, w.if-self-c.false) refl
      | else-ready-c-via-else-ready-c w ↦ rw w.if-ready-c.false refl
    ] in
    c.loop-c.invariant ∙ found_next P c.loop-c.c c.loop-c-test.true none
