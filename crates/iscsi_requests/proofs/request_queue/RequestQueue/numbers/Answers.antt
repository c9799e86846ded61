use Rattle.std.proofs.Common.{List, Bool, sym, subst}
use Rattle.iscsi_order.specs.WindowState as windows
use Rattle.iscsi_requests.specs.State.{TaskLists, window_of}
use Rattle.iscsi_requests.proofs.Lines.{marks_same}
use Rattle.iscsi_requests.proofs.request_queue.RequestQueue.numbers.Goals as goal

pub returns : goal.returns
returns c past s =
    let known = subst (λ (t : TaskLists). windows.Stands past (window_of t)) (sym c.self.view_is) s in
    c.numbers.ensures past
    (subst (λ (l : List Bool). windows.Stands past (record { next = c.self.inside.window.next; unfinished = c.self.inside.window.unfinished; held = l }))
    (marks_same c.self.inside.requests c.self.inside.window.keys c.self.inside.due.items c.self.inside.queue.items c.self.invariant.once) known)
