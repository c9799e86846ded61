use Rattle.std.proofs.Common.{◌≡◌, ℕ, List, [], ◌∷◌, get_or, arith}
use Rattle.std.proofs.Math.ListN.{set}
use Rattle.std.proofs.lemmas.Grind.{common_steps}
use Rattle.iscsi_outbox.specs.Outbox.{IsInOrder, AreInOrder}
use Rattle.iscsi_outbox.specs.declared.run.Run.{Run}
use Rattle.iscsi_outbox.proofs.run.skip_in.Goals as goal

first_replaced : (runs : List Run) (run next : Run) (tail : List ℕ) → run ≡ get_or runs 0 run → (IsInOrder run → IsInOrder next)
    → AreInOrder runs tail → AreInOrder (set runs 0 next) tail
first_replaced [] run next tail is keeps order = order
first_replaced (r ∷ runs) run next tail is keeps order = (keeps (rw is order.0), order.1, order.2)

pub returns : goal.returns
returns = grind (arith, common_steps)

pub returns-then-rest-gt0-clause-capacity : goal.returns-then-rest-gt0-clause-capacity
returns-then-rest-gt0-clause-capacity = grind (arith, common_steps)

pub returns-then-rest-gt0-clause-len : goal.returns-then-rest-gt0-clause-len
returns-then-rest-gt0-clause-len = grind (arith, common_steps)

pub returns-then-rest-gt0-clause-rest : goal.returns-then-rest-gt0-clause-rest
returns-then-rest-gt0-clause-rest = grind (arith, common_steps)

pub returns-then-rest-gt0-clause-running : goal.returns-then-rest-gt0-clause-running
returns-then-rest-gt0-clause-running = grind (arith, common_steps)

pub returns-then-rest-gt0-clause-some : goal.returns-then-rest-gt0-clause-some
returns-then-rest-gt0-clause-some = grind (arith, common_steps)

pub returns-then-rest-gt0-clause-spent : goal.returns-then-rest-gt0-clause-spent
returns-then-rest-gt0-clause-spent = grind (arith, common_steps)

pub returns-then-rest-gt0-clause-there : goal.returns-then-rest-gt0-clause-there
returns-then-rest-gt0-clause-there = grind (arith, common_steps)

pub returns-then-rest-gt0-clause-within : goal.returns-then-rest-gt0-clause-within
returns-then-rest-gt0-clause-within = grind (arith, common_steps)

pub returns-then-rest-gt0-clause-order : goal.returns-then-rest-gt0-clause-order
returns-then-rest-gt0-clause-order c = λ tail order.
    first_replaced _ _ _ tail c.index_mut-run.ensures.value c.skip_some-step.ensures.order order
