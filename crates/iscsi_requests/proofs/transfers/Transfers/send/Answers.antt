use Rattle.std.proofs.Common.{◌≡◌, ◌<◌, Some, length, sym, ap, subst, ◌∙◌}
use Rattle.iscsi_transfer.specs.WriteData.{first, due_asks}
use Rattle.iscsi_requests.specs.State.{TransferList, transfer_at, r2ts_at}
use Rattle.iscsi_requests.proofs.Sending.{same_place, sent_rest}
use Rattle.iscsi_requests.proofs.transfers.Transfers.send.Goals as goal

pub returns-clause-rest : goal.returns-clause-rest
returns-clause-rest c =
    let place = c.args.place in
    let items = c.self.inside.list.items in
    let there = subst (λ (t : TransferList). place < length t.list) (sym c.self.view_is) c.requires.there in
    let due = subst (λ (t : TransferList). first (due_asks (transfer_at t.list place).task) ≡ Some c.args.ask) (sym c.self.view_is) c.requires.due in
    ap (λ (t : TransferList). r2ts_at t c.args.stamp place) (sym c.self.view_is)
    ∙ sent_rest c.next_after-self-inside.result items c.self.inside.drains.items c.self.inside.next_tag place c.args.stamp c.args.ask
    c.index_mut-transfer.result.now there due
    (c.index_mut-transfer.ensures.value ∙ same_place items place c.index_mut-transfer.result.now there)
    c.asked.ensures.same c.next_after-self-inside.ensures c.r2t_to.ensures
