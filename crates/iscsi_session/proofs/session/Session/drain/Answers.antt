use Rattle.std.proofs.Common.{◌≡◌, ◌++◌, ◌<◌, length, drop, List, sym, ap, subst, ◌∙◌, arith}
use Rattle.std.proofs.lemmas.List.{length-map}
use Rattle.iscsi_pdu.specs.Frames.{Frame}
use Rattle.iscsi_requests.specs.Requests.{frames_of}
use Rattle.iscsi_requests.specs.Functions.{FunctionReach, awaited}
use Rattle.iscsi_session.specs.Acts.{reach_of}
use Rattle.iscsi_requests.specs.State.{SessionState, TaskLists, Stands, standing, without, transfers_without, void_if, waiting}
use Rattle.iscsi_requests.specs.Draining.{awaited_in, awaits_in}
use Rattle.iscsi_session.proofs.Parts.{due_is}
use Rattle.iscsi_session.proofs.Weights.{queues_one, waiting_without, given_frame}
use Rattle.iscsi_session.proofs.Waits.{awaits_is, some_of, stands_waits}
use Rattle.iscsi_session.proofs.session.Session.drain.Goals as goal

still_due : (reach : FunctionReach) (tasks left : TaskLists) → left ≡ without reach tasks → 0 < length tasks.due → 0 < length left.due
still_due reach tasks left same some =
    omega (arith, some, ap (λ (t : TaskLists). length t.due) same, length-map tasks.due (void_if reach))

pub returns-clause-stands : goal.returns-clause-stands
returns-clause-stands c luns past k rest s is e same awaits =
    let known = subst (λ (x : SessionState). Stands past x) (sym c.self.view_is) s in
    let reach = reach_of luns k past in
    let line = due_is past _ known ∙ ap (frames_of (standing past)) is in
    let some : 0 < length c.self.inside.tasks.due = omega (arith, ap (λ (l : List Frame). length l) line) in
    let g = given_frame c.drop_due.result c.remove.new.self.due c.drop_due.ensures.some c.drop_due.ensures.same c.drop_due.ensures.none
    (still_due c.args.reach.now c.self.inside.tasks c.remove.new.self c.remove.ensures some) in
    let removed : c.remove.new.self ≡ without reach c.self.inside.tasks = grind (arith, c.remove.ensures, c.self.inside.tasks) in
    let tasks = g.2 ∙ ap (λ (t : TaskLists). record t { due = drop 1 t.due }) removed in
    let transfers = c.in_ok-drain.ensures.ok ∙ ap (λ (r : FunctionReach). record c.self.inside.transfers {
      list = transfers_without r c.self.inside.transfers.list;
      drains = c.self.inside.transfers.drains ++ awaited_in r c.self.inside.transfers.list;
    }) same in
    let there = some_of (awaited past reach) (sym (awaits_is past _ reach s) ∙ ap (λ (r : FunctionReach). awaits_in r c.args.self.now.transfers.list) (sym same)
    ∙ awaits) in
    rw (tasks, transfers) (stands_waits luns past s.lawful k rest is e there.0 there.1 there.2 _ known)

pub returns-clause-fewer : goal.returns-clause-fewer
returns-clause-fewer c frame others is =
    let some : 0 < length c.self.inside.tasks.due = omega (
      arith,
      ap (λ (l : List Frame). length l) is,
      ap (λ (x : SessionState). length x.tasks.due) c.self.view_is,
    ) in
    let g = given_frame c.drop_due.result c.remove.new.self.due c.drop_due.ensures.some c.drop_due.ensures.same c.drop_due.ensures.none
    (still_due c.args.reach.now c.self.inside.tasks c.remove.new.self c.remove.ensures some) in
    let less = queues_one g.0 (drop 1 c.remove.new.self.due) c.remove.new.self.queue c.remove.new.self c.drop_due.new.self g.1 g.2 in
    omega (
      arith,
      less,
      ap waiting c.remove.ensures,
      waiting_without c.args.reach.now c.self.inside.tasks,
      ap (λ (x : SessionState). waiting x.tasks) c.self.view_is,
    )
