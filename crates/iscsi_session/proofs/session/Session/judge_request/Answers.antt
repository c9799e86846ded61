use Rattle.std.proofs.Common.{◌≡◌, sym, ap, ◌∙◌, subst}
use Rattle.iscsi_pdu.specs.Header.{opcode_of, opcode_number}
use Rattle.iscsi_pdu.specs.Frames.{Frame}
use Rattle.iscsi_pdu.specs.declared.header.Opcode.TheVariants.{DataOut}
use Rattle.iscsi_requests.specs.Judging.{verdict_by}
use Rattle.iscsi_requests.specs.State.{SessionState, Stands}
use Rattle.iscsi_session.proofs.Feeding.{judged_is}
use Rattle.iscsi_session.proofs.Verdicts.{verdict_at}
use Rattle.iscsi_session.proofs.session.Session.judge_request.Goals as goal

pub returns-in-DataOut-clause-verdict : goal.returns-in-DataOut-clause-verdict
unfolding verdict_by
returns-in-DataOut-clause-verdict c past s =
    let opcode : opcode_of (opcode_number c.args.frame.now.header) ≡ c.opcode.result = ap (λ (f : Frame). opcode_of (opcode_number f.header))
    (sym c.frame.view_is) ∙ sym c.opcode.ensures in
    let known = subst (λ (state : SessionState). Stands past state) (sym c.self.view_is) s in
    c.judge.ensures ∙ judged_is past _ c.args.frame.now known ∙ sym (verdict_at past c.args.frame.now DataOut (opcode ∙ c.in-DataOut.is))
