use Rattle.std.proofs.Common.{◌≡◌, false, sym, ap, ◌∙◌, subst}
use Rattle.iscsi_pdu.specs.Header.{is_immediate, cmd_sn}
use Rattle.iscsi_pdu.specs.Frames.{Frame}
use Rattle.iscsi_order.specs.Window as order
use Rattle.iscsi_requests.specs.Requests.{numbers}
use Rattle.iscsi_requests.specs.State.{SessionState, Stands}
use Rattle.iscsi_session.proofs.Parts.{fresh_is, window_stands}
use Rattle.iscsi_session.proofs.session.Session.is_fresh.Goals as goal

pub returns-else-is_immediate-clause-fresh : goal.returns-else-is_immediate-clause-fresh
returns-else-is_immediate-clause-fresh c past s =
    let known = subst (λ (state : SessionState). Stands past state) (sym c.self.view_is) s in
    let numbered : is_immediate c.args.frame.now.header ≡ false = ap (λ (f : Frame). is_immediate f.header) (sym c.frame.view_is)
    ∙ sym c.is_immediate.ensures ∙ c.if-is_immediate.false in
    let number = c.cmd_sn.ensures ∙ ap (λ (f : Frame). cmd_sn f.header) c.frame.view_is in
    c.is_new.ensures.past (numbers past) (window_stands past _ known) ∙ ap (order.is_new (numbers past)) number ∙ sym (fresh_is past c.args.frame.now numbered)
