use Rattle.std.proofs.Common.{◌≡◌, ℕ, List, refl, sym, ap, subst, ◌∙◌}
use Rattle.iscsi_order.specs.WindowState.{WindowKeys, with_key}
use Rattle.iscsi_requests.specs.State.{TaskLists, holding, takes_all}
use Rattle.iscsi_requests.specs.RequestQueue.{lists_of, keys_in, AreLines, moves_all}
use Rattle.iscsi_requests.proofs.Lines.{holds_vacant}
use Rattle.iscsi_requests.proofs.request_queue.RequestQueue.hold.Goals as goal

pub returns-clause-ok : goal.returns-clause-ok
returns-clause-ok c =
    let held = holds_vacant c.self.inside.requests c.insert.new.self c.in_ok-key.key c.args.number c.args.frame c.self.inside.window c.self.inside.due.items
    c.self.inside.queue.items _ c.self.view_is c.requires c.in_ok-key.ensures.updates c.in_ok-key.ensures.was_vacant c.self.invariant c.held.ensures.len in
    let moved : (c.take_ready.new.window, c.take_ready.new.due.items) ≡ moves_all
    (with_key c.args.number c.in_ok-key.key c.self.inside.window, c.self.inside.due.items) =
    c.take_ready.ensures ∙ rw (c.arrive.ensures.key, c.reserve.ensures.items) refl in
    ap (λ (p : WindowKeys × List ℕ). lists_of c.insert.new.self p.0 p.1 c.self.inside.queue.items) moved ∙ held.lists
    ∙ ap (λ (t : TaskLists). takes_all (holding c.args.number c.args.frame t)) c.self.view_is

pub invariant_of-self-2 : goal.invariant_of-self-2
invariant_of-self-2 c =
    let held = holds_vacant c.self.inside.requests c.insert.new.self c.in_ok-key.key c.args.number c.args.frame c.self.inside.window c.self.inside.due.items
    c.self.inside.queue.items _ c.self.view_is c.requires c.in_ok-key.ensures.updates c.in_ok-key.ensures.was_vacant c.self.invariant c.held.ensures.len in
    let moved : (c.take_ready.new.window, c.take_ready.new.due.items) ≡ moves_all
    (with_key c.args.number c.in_ok-key.key c.self.inside.window, c.self.inside.due.items) =
    c.take_ready.ensures ∙ rw (c.arrive.ensures.key, c.reserve.ensures.items) refl in
    subst (λ (p : WindowKeys × List ℕ). AreLines c.insert.new.self (keys_in p.0.keys) p.1 c.self.inside.queue.items) (sym moved) held.lines
