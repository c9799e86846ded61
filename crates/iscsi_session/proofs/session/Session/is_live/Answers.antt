use Rattle.std.proofs.Common.{sym, subst, ◌∙◌}
use Rattle.iscsi_requests.specs.State.{SessionState, Stands}
use Rattle.iscsi_session.proofs.Feeding.{live_is, live_first, live_second}
use Rattle.iscsi_session.proofs.session.Session.is_live.Goals as goal

pub returns-then-is_live-clause-live : goal.returns-then-is_live-clause-live
returns-then-is_live-clause-live c past s =
    let known = subst (λ (x : SessionState). Stands past x) (sym c.self.view_is) s in
    live_first _ _ _ (sym c.is_live.ensures ∙ c.if-is_live.true) _ c.if-is_live.true (live_is past _ c.args.tag known)

pub returns-else-is_live-clause-live : goal.returns-else-is_live-clause-live
returns-else-is_live-clause-live c past s =
    let known = subst (λ (x : SessionState). Stands past x) (sym c.self.view_is) s in
    live_second _ _ (sym c.is_live.ensures ∙ c.if-is_live.false) c.is_live-else-is_live.ensures (live_is past _ c.args.tag known)
