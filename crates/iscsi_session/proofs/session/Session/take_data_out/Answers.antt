use Rattle.std.proofs.Common.{sym, subst}
use Rattle.std.proofs.lemmas.Result.{on_ok_weaker}
use Rattle.iscsi_requests.specs.State.{SessionState, Stands}
use Rattle.iscsi_session.proofs.Feeding.{stands_fed}
use Rattle.iscsi_session.proofs.session.Session.take_data_out.Goals as goal

pub returns-clause-stands : goal.returns-clause-stands
returns-clause-stands c = on_ok_weaker c.take_data_out.result (λ e past s.
    let known = subst (λ (state : SessionState). Stands past state) (sym c.self.view_is) s in
    rw e (stands_fed past _ c.args.frame known)) c.take_data_out.ensures.ok
