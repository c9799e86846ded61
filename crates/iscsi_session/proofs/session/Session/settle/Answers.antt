use Rattle.std.proofs.Common.{ℕ, suc, List, [], refl, ap, ◌∙◌}
use Rattle.iscsi_login.specs.declared.session_params.SessionParams.{SessionParams}
use Rattle.iscsi_session.specs.Runs.{output}
use Rattle.iscsi_session.proofs.Came.{came_none, came_then, came_as, came_with}
use Rattle.iscsi_session.proofs.Parts.{on_err_known}
use Rattle.iscsi_session.proofs.Runs.{grows_none, grows_then}
use Rattle.iscsi_session.proofs.Stages.{none_ran}
use Rattle.iscsi_session.proofs.Settled.{settling, settled_more, all_settled, settling_stops, settle_stops}
use Rattle.iscsi_session.proofs.AtRest.{eases_none, eases_then}
use Rattle.iscsi_session.proofs.session.Session.settle.Goals as goal

pub loop-init : goal.loop-init
loop-init g c = record {
  turns = 0;
  ran = came_none _ _ _ _ (λ comings. none_ran settling _ _ _);
  back = λ sound. sound;
  sure = λ sure. sure;
  grows = grows_none _;
  eases = λ r. eases_none _ _ r;
  params = refl;
  takes = λ frame none. none;
}

pub returns-in_err-finish-clause-err : goal.returns-in_err-finish-clause-err
returns-in_err-finish-clause-err g c = on_err_known _
    (settle_stops c.loop.invariant.turns _ _ _ _ _ _ _ _ _ _ c.in_err-finish.ensures.err
    (ap (λ (bytes : List ℕ). output bytes []) c.in_err-finish.ensures.out_err)
    c.in_err-finish.ensures.units_err
    (came_as _ _ _ _ _ c.loop.invariant.ran (λ given left ran. settling_stops _ _ _ _ _ given left ran c.in_err-finish.ensures.waits)))

pub loop-preserved : goal.loop-preserved
loop-preserved g c = record {
  turns = suc c.loop.invariant.turns;
  ran = came_then _ _ _ _ _ _ _ c.loop.invariant.ran
      (came_with _ _ _ _ _ (ap (λ (p : SessionParams). p.target) c.loop.invariant.params) c.in_ok-finish.ensures.steps) c.in_ok-finish.ensures.back
      (λ given middle left ran one. settled_more _ _ _ _ _ _ _ _ given middle left ran one
      c.if-branch.true (c.in_ok-finish.ensures.fewer c.if-branch.true));
  back = λ sound. c.loop.invariant.back (c.in_ok-finish.ensures.back sound);
  sure = λ sure. c.in_ok-finish.ensures.sure (c.loop.invariant.sure sure);
  grows = grows_then _ _ _ c.loop.invariant.grows c.in_ok-finish.ensures.grows;
  eases = λ r. (let first = c.loop.invariant.eases r in eases_then _ _ _ _ _ _ first (c.in_ok-finish.ensures.eases first.rests));
  params = c.in_ok-finish.ensures.params ∙ c.loop.invariant.params;
  takes = λ frame none. c.in_ok-finish.ensures.takes frame (c.loop.invariant.takes frame none);
}

pub returns-clause-ok : goal.returns-clause-ok
returns-clause-ok g c = came_then _ _ _ _ _ _ _ c.loop.invariant.ran
    (came_with _ _ _ _ _ (ap (λ (p : SessionParams). p.target) c.loop.invariant.params) c.in_ok-finish.ensures.steps) c.in_ok-finish.ensures.back
    (λ given middle left ran one. all_settled _ _ _ _ _ _ _ _ given middle left ran one c.if-branch.false)

pub returns-clause-sure : goal.returns-clause-sure
returns-clause-sure g c = λ sure. c.in_ok-finish.ensures.sure (c.loop.invariant.sure sure)

pub returns-clause-back : goal.returns-clause-back
returns-clause-back g c = λ sound. c.loop.invariant.back (c.in_ok-finish.ensures.back sound)

pub returns-clause-grows : goal.returns-clause-grows
returns-clause-grows g c = grows_then _ _ _ c.loop.invariant.grows c.in_ok-finish.ensures.grows

pub returns-clause-eases : goal.returns-clause-eases
returns-clause-eases g c = λ r. (let first = c.loop.invariant.eases r in eases_then _ _ _ _ _ _ first (c.in_ok-finish.ensures.eases first.rests))

pub returns-clause-params : goal.returns-clause-params
returns-clause-params g c = c.in_ok-finish.ensures.params ∙ c.loop.invariant.params

pub returns-in_err-finish-clause-grows : goal.returns-in_err-finish-clause-grows
returns-in_err-finish-clause-grows g c = grows_then _ _ _ c.loop.invariant.grows c.in_err-finish.ensures.grows

pub returns-in_err-finish-clause-eases : goal.returns-in_err-finish-clause-eases
returns-in_err-finish-clause-eases g c = λ r.
    (let first = c.loop.invariant.eases r in eases_then _ _ _ _ _ _ first (c.in_err-finish.ensures.eases first.rests))

pub returns-clause-takes : goal.returns-clause-takes
returns-clause-takes g c frame none = c.finish.ensures.takes frame (c.loop.invariant.takes frame none)

pub returns-in_err-finish-clause-takes : goal.returns-in_err-finish-clause-takes
returns-in_err-finish-clause-takes g c frame none = c.finish.ensures.takes frame (c.loop.invariant.takes frame none)
