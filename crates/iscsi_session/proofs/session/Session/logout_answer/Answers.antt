use Rattle.std.proofs.Common.{◌≡◌, sym, ap, ◌∙◌}
use Rattle.std.proofs.lemmas.Bool.{ne_eqb}
use Rattle.iscsi_pdu.specs.Frames.{Frame}
use Rattle.iscsi_pdu.specs.LogoutRequest.{logout_reason}
use Rattle.iscsi_session.proofs.Answered.{logout_refused}
use Rattle.iscsi_session.proofs.session.Session.logout_answer.Goals as goal

pub returns-else-reason-eq2-clause-value : goal.returns-else-reason-eq2-clause-value
returns-else-reason-eq2-clause-value c =
    let header_is : c.args.frame.now.header ≡ c.frame.inside.header = sym (ap (λ (f : Frame). f.header) c.frame.view_is) in
    let reason_is : c.logout_reason-reason.result ≡ logout_reason c.args.frame.now.header = c.logout_reason-reason.ensures ∙ sym (ap logout_reason header_is) in
    logout_refused c.args.stamp c.args.self.now.params c.args.frame.now _ (sym (c.if-closes.ensures c.args.frame.now header_is))
    (ne_eqb _ _ (λ e. c.if-reason-eq1.false (reason_is ∙ e))) (ne_eqb _ _ (λ e. c.if-reason-eq2.false (reason_is
    ∙ e))) (c.rejected.ensures.value c.args.frame.now header_is)
