use Rattle.std.proofs.Common.{◌≡◌, false, sym, ap, ◌∙◌, subst}
use Rattle.iscsi_login.specs.declared.session_params.SessionParams.{SessionParams}
use Rattle.iscsi_requests.specs.Judging.{is_refused}
use Rattle.iscsi_requests.specs.Unread.{IsUnread}
use Rattle.iscsi_requests.specs.State.{SessionState, Stands}
use Rattle.iscsi_session.proofs.Parts.{parts}
use Rattle.iscsi_session.proofs.Unread.{unread_is}
use Rattle.iscsi_session.proofs.session.Session.judge_unread.Goals as goal

pub returns-clause-verdict : goal.returns-clause-verdict
returns-clause-verdict c frame unread past s =
    let header = c.args.header.now in
    let known = subst (λ (state : SessionState). Stands past state) (sym c.self.view_is) s in
    let there = subst (λ (state : SessionState). IsUnread state.transfers header frame) (sym c.self.view_is) unread in
    let served : is_refused past.params frame ≡ false = ap (λ (p : SessionParams). is_refused p frame) (sym (parts past _ s).params_is)
    ∙ sym (c.is_refused.ensures frame unread.header_is) ∙ c.if-is_refused.false in
    c.judge_unread.ensures frame there ∙ sym (unread_is past _ header frame false known there served)
