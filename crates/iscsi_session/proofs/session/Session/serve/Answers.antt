use Rattle.std.proofs.lemmas.Result.{IfOk-weaker, on_err_weaker}
use Rattle.iscsi_session.proofs.Parts.{on_err_known}
use Rattle.iscsi_session.proofs.Runs.{grows_then}
use Rattle.iscsi_session.proofs.Stages.{judges, judging_stops, judging_ends, taken_ended, taken_stops}
use Rattle.iscsi_session.proofs.session.Session.serve.Goals as goal

pub returns-in_err-receive-clause-err : goal.returns-in_err-receive-clause-err
returns-in_err-receive-clause-err c = on_err_known _ (taken_stops c.args.luns.now c.args.frame _ _ _ _
    (judging_stops c.args.luns.now c.args.frame _ _ _ _ _ c.in_err-receive.ensures.err c.in_err-receive.ensures.out_err))

pub returns-in-Violating-clause-ok : goal.returns-in-Violating-clause-ok
returns-in-Violating-clause-ok c units numbers =
    let taken = c.in_ok-receive.ensures in
    taken_ended c.args.frame
    (judging_ends c.args.frame (judges taken.verdict taken.stands taken.out) c.in-Violating.is)

pub returns-clause-ok : goal.returns-clause-ok
returns-clause-ok c =
    let taken = c.in_ok-receive.ensures in
    IfOk-weaker c.serve_judged.result _ _
    (λ goes_on leads. leads _ c.args.frame _ _ (judges taken.verdict taken.stands taken.out) c.in_default.not-Violating) c.serve_judged.ensures.ok

pub returns-clause-err : goal.returns-clause-err
returns-clause-err c =
    let taken = c.in_ok-receive.ensures in
    on_err_weaker c.serve_judged.result
    (λ leads. leads _ c.args.frame _ _ (judges taken.verdict taken.stands taken.out) c.in_default.not-Violating) c.serve_judged.ensures.err

pub returns-clause-grows : goal.returns-clause-grows
returns-clause-grows c = grows_then _ _ _ c.receive.ensures.grows c.serve_judged.ensures.grows
