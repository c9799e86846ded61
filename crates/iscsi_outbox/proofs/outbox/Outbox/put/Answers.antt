use Rattle.std.proofs.Common.{ℕ, List, sym, subst}
use Rattle.iscsi_outbox.specs.Outbox.{AreInOrder}
use Rattle.iscsi_outbox.proofs.Wholes.{order_put}
use Rattle.iscsi_outbox.proofs.outbox.Outbox.put.Goals as goal

pub invariant_of-self : goal.invariant_of-self
invariant_of-self c = (
  c.self.invariant.0,
  subst (λ (tail : List ℕ). AreInOrder c.self.inside.runs.items tail) (sym c.put.ensures.written)
      (order_put c.self.inside.runs.items c.self.inside.tail.items c.args.answer.now c.self.invariant.1),
)
