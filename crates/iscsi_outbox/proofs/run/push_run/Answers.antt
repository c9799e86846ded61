use Rattle.std.proofs.Common.{ℕ, List, [], ◌∷◌, ◌++◌, sym, subst, arith}
use Rattle.iscsi_outbox.specs.declared.run.Run.{Run}
use Rattle.iscsi_outbox.specs.Outbox.{AreInOrder}
use Rattle.iscsi_outbox.proofs.Wholes.{order_more, same_whole}
use Rattle.std.proofs.lemmas.Grind.{common_steps}
use Rattle.iscsi_outbox.proofs.run.push_run.Goals as goal

pub returns-clause-order : goal.returns-clause-order
returns-clause-order c order =
    let old = c.args.runs.now.items in
    let run : Run = record { before = c.take_tail-before.result; data_ins = c.into_unsent-data_ins.result } in
    let whole = same_whole run.data_ins c.args.data_ins c.into_unsent-data_ins.ensures.same c.into_unsent-data_ins.ensures.whole in
    subst (λ (runs : List Run). AreInOrder runs c.take_tail-before.new.tail.items) (sym c.push_back_reserved.ensures.items)
    (subst (λ (tail : List ℕ). AreInOrder (old ++ run ∷ []) tail) (sym c.take_tail-before.ensures.none)
    (order_more old run c.args.tail.now.items order c.take_tail-before.ensures.taken whole))

pub returns-clause-bytes : goal.returns-clause-bytes
returns-clause-bytes = grind (arith, common_steps)

pub returns-clause-capacity : goal.returns-clause-capacity
returns-clause-capacity = grind (arith, common_steps)

pub returns-clause-len : goal.returns-clause-len
returns-clause-len = grind (arith, common_steps)
