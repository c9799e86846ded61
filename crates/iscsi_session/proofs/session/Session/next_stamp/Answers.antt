use Rattle.std.proofs.Common.{sym, subst, arith}
use Rattle.iscsi_requests.specs.Requests.{statuses, stamp}
use Rattle.iscsi_requests.specs.State.{SessionState, Stands}
use Rattle.iscsi_session.proofs.Parts.{parts, window_stands, stands_stat}
use Rattle.iscsi_session.proofs.session.Session.next_stamp.Goals as goal

pub returns-clause-stamp : goal.returns-clause-stamp
unfolding stamp
returns-clause-stamp c past s = grind (arith, parts, window_stands)

pub returns-clause-stands : goal.returns-clause-stands
returns-clause-stands c past more s one =
    let known = subst (λ (state : SessionState). Stands past state) (sym c.self.view_is) s in
    stands_stat past more _ c.next.new.self known one (c.next.ensures.counted (statuses past) (parts past _ known).stat_is)
