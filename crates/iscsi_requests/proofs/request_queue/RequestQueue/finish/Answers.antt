use Rattle.std.proofs.Common.{◌≡◌, ◌<◌, ◌+◌, ◌∷◌, length, drop, ◌∙◌, refl, ap, subst, arith}
use Rattle.iscsi_requests.specs.State.{TaskLists, one_fewer}
use Rattle.iscsi_requests.specs.RequestQueue.{times, keys_in}
use Rattle.iscsi_requests.proofs.Lines.{first_out, once-remove}
use Rattle.iscsi_requests.proofs.request_queue.RequestQueue.finish.Goals as goal

pub invariant_of-self : goal.invariant_of-self
invariant_of-self c =
    let within : 0 < length c.self.inside.queue.items = omega (arith, c.self.inside.queue.ok.0) in
    record {
      once = λ k.
          let others = times k (keys_in c.self.inside.window.keys) + times k c.self.inside.due.items in
          let left = once-remove c.self.inside.requests c.remove-frame.new.self c.remove-frame.result c.self.inside.queue.items 0
          c.take_first-key.result k others c.remove-frame.ensures.updates within c.take_first-key.ensures.value c.remove-frame.ensures.value
          (omega (arith, c.self.invariant.once k)) in
          rw c.take_first-key.ensures.items (omega (arith, left));
    }

pub returns : goal.returns
returns c =
    let within : 0 < length c.self.inside.queue.items = grind (arith, c.if-is_empty.false, c.is_empty.ensures, c.self.inside.queue.ok.0) in
    let once = c.self.invariant.once c.take_first-key.result in
    let out = first_out c.self.inside.requests c.remove-frame.new.self c.take_first-key.result c.remove-frame.result c.self.inside.window.keys
    c.self.inside.queue.items c.self.inside.due.items within c.take_first-key.ensures.value
    c.remove-frame.ensures.value c.remove-frame.ensures.updates (omega arith) in
    record {
      some = subst (λ (t : TaskLists). t.queue ≡ c.remove-frame.result ∷ drop 1 t.queue) c.self.view_is out.first;
      same = subst (λ (t : TaskLists). c.finish_number.new.self ≡ one_fewer c.remove-frame.result (record t { queue = drop 1 t.queue })) c.self.view_is
          (c.finish_number.ensures ∙ ap (one_fewer c.remove-frame.result) (rw (c.take_first-key.ensures.items, out.left, out.same_held, out.same_others) refl));
      none = tt;
      none_same = tt;
    }
