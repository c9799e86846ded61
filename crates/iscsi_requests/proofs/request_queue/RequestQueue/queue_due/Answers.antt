use Rattle.std.proofs.Common.{◌≡◌, ◌+◌, ◌<◌, length, Some, ◌∷◌, ◌∙◌, refl, sym, ap, arith, remove}
use Rattle.slab.specs.Slab.{get}
use Rattle.iscsi_requests.specs.State.{TaskLists}
use Rattle.iscsi_requests.specs.RequestQueue.{times, keys_in, requests_at}
use Rattle.iscsi_requests.proofs.Lines.{found_at, requests_at-remove_first, requests_at-push}
use Rattle.iscsi_requests.proofs.request_queue.RequestQueue.queue_due.Goals as goal

pub returns-then-not-is_empty-clause-ok : goal.returns-then-not-is_empty-clause-ok
returns-then-not-is_empty-clause-ok c frame others is =
    let requests = c.self.inside.requests in
    let held = keys_in c.self.inside.window.keys in
    let due = c.self.inside.due.items in
    let queue = c.self.inside.queue.items in
    let key = c.take_first-key.result in
    let within : 0 < length due = omega (arith, c.self.inside.due.ok.0, c.take_first-key.ensures.len) in
    let here = found_at requests due 0 key (times key held + times key queue) within c.take_first-key.ensures.value (omega (arith, c.self.invariant.once key)) in
    let first = requests_at-remove_first requests due key here.0 within (ap (get requests) (sym c.take_first-key.ensures.value) ∙ here.1) in
    let both : here.0 ∷ requests_at requests (remove due 0) ≡ frame ∷ others = sym first ∙ ap (λ (t : TaskLists). t.due) c.self.view_is ∙ is in
    let head : here.0 ≡ frame = cc in
    let tail : requests_at requests (remove due 0) ≡ others = cc in
    rw (
      c.take_first-key.ensures.items,
      c.push_reserved.ensures.items,
      c.reserve.ensures.items,
      requests_at-push requests queue key frame (here.1
          ∙ ap Some head),
      tail,
      ← c.self.view_is,
    ) refl
