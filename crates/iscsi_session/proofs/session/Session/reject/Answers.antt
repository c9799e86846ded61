use Rattle.std.proofs.Common.{◌≡◌, ◌++◌, ℕ, List, ap, ◌∙◌}
use Rattle.iscsi_pdu.specs.Answer.{spelling}
use Rattle.iscsi_pdu.specs.declared.answer.Answer.{Answer}
use Rattle.iscsi_pdu.specs.declared.stamp.Stamp.{Stamp}
use Rattle.iscsi_requests.specs.Requests.{stamp}
use Rattle.iscsi_requests.specs.Judging.{reject}
use Rattle.iscsi_session.proofs.session.Session.reject.Goals as goal

pub returns-clause-out : goal.returns-clause-out
returns-clause-out c past frame s h =
    let answer : c.rejected.result ≡ reject c.args.reason (stamp past) frame = c.rejected.ensures.value frame h
    ∙ ap (λ (now : Stamp). reject c.args.reason now frame) (c.next_stamp-stamp.ensures.stamp past s) in
    c.put.ensures.items
    ∙ ap (λ (a : Answer). c.reserve.new.self.items ++ spelling a) answer
    ∙ ap (λ (bytes : List ℕ). bytes ++ spelling (reject c.args.reason (stamp past) frame)) c.reserve.ensures.items
