use Rattle.std.proofs.Common.{sym, ap, subst, ◌∙◌}
use Rattle.iscsi_requests.specs.Unread.{takes_in}
use Rattle.iscsi_requests.specs.State.{SessionState, Stands}
use Rattle.iscsi_requests.proofs.Unread.{untaken_without}
use Rattle.iscsi_session.proofs.Removing.{stands_removing}
use Rattle.iscsi_session.proofs.Ending.{some_reached}
use Rattle.iscsi_session.proofs.session.Session.remove.Goals as goal

pub returns-clause-some : goal.returns-clause-some
returns-clause-some c past s =
    let known = subst (λ (x : SessionState). Stands past x) (sym c.self.view_is) s in
    c.has_reached-some.ensures ∙ some_reached past _ c.args.reach.now known

pub returns-clause-stands : goal.returns-clause-stands
returns-clause-stands c past s =
    let known = subst (λ (x : SessionState). Stands past x) (sym c.self.view_is) s in
    rw (c.remove.ensures, c.remove-2.ensures) (stands_removing c.args.reach.now past _ known)

pub returns-clause-takes : goal.returns-clause-takes
returns-clause-takes c frame none =
    let known = ap (λ (x : SessionState). takes_in x.transfers frame) c.self.view_is ∙ none in
    rw c.remove.ensures (untaken_without c.self.inside.transfers c.args.reach.now frame known)
