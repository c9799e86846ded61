use Rattle.std.proofs.Common.{◌≡◌, ℕ, List, drop, remove, refl, sym, ap, subst, ◌∙◌, arith}
use Rattle.iscsi_order.specs.WindowState.{WindowKeys, with_key}
use Rattle.iscsi_order.specs.WindowState as windows
use Rattle.iscsi_requests.specs.Functions.{plug}
use Rattle.iscsi_requests.specs.State.{TaskLists, holding, takes_all, one_fewer, plugged_behind, window_of}
use Rattle.iscsi_requests.specs.RequestQueue.{lists_of, keys_in, AreLines, moves_all, requests_at}
use Rattle.iscsi_requests.proofs.Heads.{same_head, same_tail}
use Rattle.iscsi_requests.proofs.Lines.{Replaced, counted_out, replaced, marked_known}
use Rattle.std.proofs.lemmas.Grind.{common_steps}
use Rattle.iscsi_requests.proofs.request_queue.RequestQueue.plug_behind_first.Goals as goal
use Rattle.iscsi_requests.proofs.request_queue.RequestQueue.plug_behind_first.Goals.{After-drop-frame-inside}

replaces : (c : After-drop-frame-inside) → Replaced c.self.inside.requests c.remove-frame.new.self c.insert_reserved-key.new.self c.args.number
    c.insert_reserved-key.result c.remove-frame.result c.self.inside.window c.self.inside.due.items c.self.inside.queue.items
replaces c = replaced _ _ _ _ c.remove-key.result _ _ _ _ _ _ _ _ c.self.view_is c.requires.vacant c.requires.some c.reserve.ensures.items
    c.remove-key.ensures.value c.remove-frame.ensures.value c.remove-frame.ensures.updates c.self.invariant c.insert_reserved-key.ensures.was_vacant
    c.plug.ensures c.insert_reserved-key.ensures.updates c.held.ensures.len

moved : (c : After-drop-frame-inside) → (c.take_ready.new.window, c.take_ready.new.due.items) ≡ moves_all
    (with_key c.args.number c.insert_reserved-key.result (counted_out c.remove-frame.result c.self.inside.window), remove c.self.inside.due.items 0)
moved c = c.take_ready.ensures ∙ rw (c.arrive.ensures.key, c.count_out.ensures, c.remove-key.ensures.items, c.reserve.ensures.items) refl

pub invariant_of-self-2 : goal.invariant_of-self-2
invariant_of-self-2 c =
    subst (λ (p : WindowKeys × List ℕ). AreLines c.insert_reserved-key.new.self (keys_in p.0.keys) p.1 c.self.inside.queue.items) (sym (moved c)) (replaces c).lines

pub returns-clause-ok : goal.returns-clause-ok
returns-clause-ok c =
    let given = lists_of c.self.inside.requests c.self.inside.window c.self.inside.due.items c.self.inside.queue.items in
    ap (λ (p : WindowKeys × List ℕ). lists_of c.insert_reserved-key.new.self p.0 p.1 c.self.inside.queue.items) (moved c) ∙ (replaces c).lists
    ∙ ap (λ (t : TaskLists). takes_all (holding c.args.number plug t)) (replaces c).middle
    ∙ ap (plugged_behind c.args.number given) (sym (replaces c).first)
    ∙ ap (λ (t : TaskLists). plugged_behind c.args.number t t.due) c.self.view_is

pub returns-clause-numbers : goal.returns-clause-numbers
returns-clause-numbers c past frame others is s =
    let r = replaces c in
    let counted : c.count_out.new.window ≡ counted_out c.remove-frame.result c.self.inside.window = c.count_out.ensures in
    let first = ap (λ (t : TaskLists). t.due) (sym c.self.view_is) ∙ r.first in
    let head : c.remove-frame.result ≡ frame = same_head _ frame _ others c.args.self.now.due first is in
    let tail : drop 1 (requests_at c.self.inside.requests c.self.inside.due.items) ≡ others = same_tail _ frame _ others c.args.self.now.due first is in
    let middle : lists_of c.remove-frame.new.self (counted_out c.remove-frame.result c.self.inside.window) (remove c.self.inside.due.items 0)
    c.self.inside.queue.items ≡ one_fewer frame (record c.args.self.now { due = others }) =
    r.middle ∙ ap (λ (t : TaskLists). one_fewer c.remove-frame.result (record t { due = drop 1 (requests_at c.self.inside.requests c.self.inside.due.items) }))
    c.self.view_is ∙ rw (head, tail) refl in
    let known : windows.Stands past (window_of (lists_of c.remove-frame.new.self (counted_out c.remove-frame.result c.self.inside.window)
    (remove c.self.inside.due.items 0) c.self.inside.queue.items)) = subst (λ (t : TaskLists). windows.Stands past (window_of t)) (sym middle) s in
    c.numbers-numbers.ensures past
    (subst (λ (w : WindowKeys). windows.Stands past (windows.marked w)) (sym counted) (marked_known c.remove-frame.result c.remove-frame.new.self
    c.self.inside.window (remove c.self.inside.due.items 0) c.self.inside.queue.items r.once known))

pub invariant_of-self : goal.invariant_of-self
invariant_of-self = grind (arith, common_steps)

pub returns-in_err-reserve : goal.returns-in_err-reserve
returns-in_err-reserve = grind (arith, common_steps)

pub returns-clause-err : goal.returns-clause-err
returns-clause-err = grind (arith, common_steps)
