use Rattle.std.proofs.Common.{List, Bool, sym, ap, subst, ◌∙◌}
use Rattle.iscsi_order.specs.WindowState as windows
use Rattle.iscsi_requests.specs.State.{TaskLists, is_vacant, window_of}
use Rattle.iscsi_requests.proofs.Lines.{vacant_same, marks_same}
use Rattle.iscsi_requests.proofs.request_queue.RequestQueue.is_new.Goals as goal

pub returns-clause-vacant : goal.returns-clause-vacant
returns-clause-vacant c =
    c.is_new.ensures.vacant ∙ sym
    (vacant_same c.self.inside.requests c.self.inside.window c.self.inside.due.items c.self.inside.queue.items c.args.number c.self.invariant.once)
    ∙ ap (λ (t : TaskLists). is_vacant t c.args.number) c.self.view_is

pub returns-clause-past : goal.returns-clause-past
returns-clause-past c past s =
    let known = subst (λ (t : TaskLists). windows.Stands past (window_of t)) (sym c.self.view_is) s in
    c.is_new.ensures.past past
    (subst (λ (l : List Bool). windows.Stands past (record { next = c.self.inside.window.next; unfinished = c.self.inside.window.unfinished; held = l }))
    (marks_same c.self.inside.requests c.self.inside.window.keys c.self.inside.due.items c.self.inside.queue.items c.self.invariant.once) known)
