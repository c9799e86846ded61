use Rattle.std.proofs.Common.{◌≡◌, Some, ◌∙◌, refl, arith}
use Rattle.slab.specs.Slab.{get}
use Rattle.iscsi_requests.proofs.Lines.{requests_at-push, SameLines-other}
use Rattle.std.proofs.lemmas.Grind.{common_steps}
use Rattle.iscsi_requests.proofs.request_queue.RequestQueue.admit.Goals as goal

pub returns-clause-ok : goal.returns-clause-ok
returns-clause-ok c =
    let key = c.in_ok-key.key in
    let here : get c.insert.new.self key ≡ Some c.args.frame = c.in_ok-key.ensures.updates.changed in
    let same = SameLines-other c.self.inside.requests c.insert.new.self key (Some c.args.frame) c.self.inside.window.keys c.self.inside.due.items
    c.self.inside.queue.items c.in_ok-key.ensures.updates (c.self.invariant.once key ∙ rw c.in_ok-key.ensures.was_vacant refl) in
    rw (
      c.push_reserved.ensures.items,
      c.reserve.ensures.items,
      requests_at-push c.insert.new.self c.self.inside.due.items key c.args.frame here,
      same.same_held,
      same.same_due,
      same.same_queue,
      ← c.self.view_is,
    ) refl

pub invariant_of-self : goal.invariant_of-self
invariant_of-self = grind (arith, common_steps)

pub invariant_of-self-2 : goal.invariant_of-self-2
invariant_of-self-2 = grind (arith, common_steps)

pub invariant_of-self-in_err-key : goal.invariant_of-self-in_err-key
invariant_of-self-in_err-key = grind (arith, common_steps)

pub returns-in_err-key : goal.returns-in_err-key
returns-in_err-key = grind (arith, common_steps)

pub returns-in_err-reserve : goal.returns-in_err-reserve
returns-in_err-reserve = grind (arith, common_steps)

pub returns-clause-err : goal.returns-clause-err
returns-clause-err = grind (arith, common_steps)
