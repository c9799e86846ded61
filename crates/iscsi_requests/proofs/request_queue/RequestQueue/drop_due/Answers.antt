use Rattle.std.proofs.Common.{◌<◌, ◌+◌, length, arith}
use Rattle.iscsi_requests.specs.RequestQueue.{times, keys_in}
use Rattle.iscsi_requests.proofs.Lines.{first_out, once-remove}
use Rattle.std.proofs.lemmas.Grind.{common_steps}
use Rattle.iscsi_requests.proofs.request_queue.RequestQueue.drop_due.Goals as goal

pub invariant_of-self : goal.invariant_of-self
invariant_of-self c =
    let within : 0 < length c.self.inside.due.items = omega (arith, c.self.inside.due.ok.0) in
    record {
      once = λ k.
          let others = times k (keys_in c.self.inside.window.keys) + times k c.self.inside.queue.items in
          let left = once-remove c.self.inside.requests c.remove-frame.new.self c.remove-frame.result c.self.inside.due.items 0
          c.take_first-key.result k others c.remove-frame.ensures.updates within c.take_first-key.ensures.value c.remove-frame.ensures.value
          (omega (arith, c.self.invariant.once k)) in
          rw c.take_first-key.ensures.items (omega (arith, left));
    }

pub returns : goal.returns
returns c = grind (arith, first_out)

pub returns-then-is_empty : goal.returns-then-is_empty
returns-then-is_empty = grind (arith, common_steps)
