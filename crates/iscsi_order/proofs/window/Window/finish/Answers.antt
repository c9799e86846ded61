use Rattle.std.proofs.Common.{sym, subst, arith}
use Rattle.iscsi_order.specs.WindowState.{WindowKeys, Stands, marked}
use Rattle.iscsi_order.proofs.Held.{within_fewer}
use Rattle.iscsi_order.proofs.Standing.{finishes, some_unfinished}
use Rattle.iscsi_order.proofs.window.Window.finish.Goals as goal

pub invariant_of-self : goal.invariant_of-self
invariant_of-self c = (within_fewer _ _ c.if-self-gt0.true c.self.invariant.0, c.self.invariant.1)

pub returns-then-self-gt0-clause-stands : goal.returns-then-self-gt0-clause-stands
returns-then-self-gt0-clause-stands c past s fewer =
    let known = subst (λ (w : WindowKeys). Stands past (marked w)) (sym c.self.view_is) s in
    finishes past _ _ _ known c.if-self-gt0.true

pub returns-else-self-gt0-clause-stands : goal.returns-else-self-gt0-clause-stands
returns-else-self-gt0-clause-stands c past s fewer =
    let known = subst (λ (w : WindowKeys). Stands past (marked w)) (sym c.self.view_is) s in
    absurd (let some = some_unfinished past _ _ _ known fewer in let none = c.if-self-gt0.false in omega arith)
