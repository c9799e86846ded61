use Rattle.std.proofs.Common.{◌≡◌, ◌+◌, ◌<◌, length, Some, ◌∷◌, ◌∙◌, false, sym, ap, arith, remove}
use Rattle.slab.specs.Slab.{get}
use Rattle.iscsi_requests.specs.State.{TaskLists, reaches_frame}
use Rattle.iscsi_requests.specs.RequestQueue.{times, keys_in, requests_at, lists_of}
use Rattle.iscsi_requests.proofs.Heads.{same_head}
use Rattle.iscsi_requests.proofs.Voiding.{turned}
use Rattle.iscsi_requests.proofs.Lines.{found_at, requests_at-remove_first, requests_at-push}
use Rattle.std.proofs.lemmas.Grind.{common_steps}
use Rattle.iscsi_requests.proofs.request_queue.RequestQueue.turn_queue.Goals as goal

pub returns-else-has_frame : goal.returns-else-has_frame
returns-else-has_frame c frame others is =
    let requests = c.self.inside.requests in
    let held = keys_in c.self.inside.window.keys in
    let due = c.self.inside.due.items in
    let queue = c.self.inside.queue.items in
    let key = c.remove-key.result in
    let within : 0 < length queue = omega (arith, c.self.inside.queue.ok.0, c.remove-key.ensures.len) in
    let here = found_at requests queue 0 key (times key held + times key due) within c.remove-key.ensures.value (omega (arith, c.self.invariant.once key)) in
    let first = requests_at-remove_first requests queue key here.0 within (ap (get requests) (sym c.remove-key.ensures.value) ∙ here.1) in
    let both : here.0 ∷ requests_at requests (remove queue 0) ≡ frame ∷ others = sym first ∙ ap (λ (t : TaskLists). t.queue) c.self.view_is ∙ is in
    let head : here.0 ≡ frame = cc in
    let tail : requests_at requests (remove queue 0) ≡ others = cc in
    let same : c.in-Some.frame.now ≡ frame = same_head _ frame _ others c.args.self.now.queue c.in-Some.ensures.some is in
    let stays : reaches_frame c.args.reach.now frame ≡ false =
    ap (reaches_frame c.args.reach.now) (sym same) ∙ sym c.has_frame.ensures ∙ c.if-has_frame.false in
    rw (
      c.push_reserved.ensures.items,
      c.remove-key.ensures.items,
      requests_at-push requests (remove queue 0) key frame (here.1 ∙ ap Some head),
      tail,
      ← c.self.view_is,
    ) (sym (turned c.args.reach.now frame others (lists_of requests c.self.inside.window due queue) stays))

pub invariant_of-self : goal.invariant_of-self
invariant_of-self = grind (arith, common_steps)

pub returns-in_default : goal.returns-in_default
returns-in_default = grind (arith, common_steps)

pub returns-then-has_frame : goal.returns-then-has_frame
returns-then-has_frame = grind (arith, common_steps)
