use Rattle.std.proofs.Common.{length, ap, arith}
use Rattle.iscsi_requests.specs.State.{TaskLists}
use Rattle.iscsi_requests.specs.RequestQueue.{keys_in}
use Rattle.iscsi_requests.proofs.Voiding.{line_length}
use Rattle.iscsi_requests.proofs.request_queue.RequestQueue.queued.Goals as goal

pub returns : goal.returns
returns c =
    let long = line_length c.self.inside.requests (keys_in c.self.inside.window.keys) c.self.inside.due.items c.self.inside.queue.items c.self.invariant.once in
    omega (arith, c.len.ensures, c.self.inside.queue.ok.0, long, ap (λ (t : TaskLists). length t.queue) c.self.view_is)
