use Rattle.std.proofs.Common.{refl}
use Rattle.iscsi_session.proofs.Parts.{on_err_known}
use Rattle.iscsi_session.proofs.Runs.{grows_then}
use Rattle.iscsi_session.proofs.Stages.{taken_on, taken_ended, asked_then, told_then, act_stops, ask_stops, tell_stops}
use Rattle.iscsi_session.proofs.session.Session.serve_judged.Goals as goal

pub returns-in_err-act_all-clause-err : goal.returns-in_err-act_all-clause-err
returns-in_err-act_all-clause-err c = on_err_known _ (act_stops c.args.luns.now c.in_err-act_all.ensures.err)

pub returns-then-not-branch-clause-ok : goal.returns-then-not-branch-clause-ok
returns-then-not-branch-clause-ok c v frame old bytes judged on units numbers =
    taken_ended frame (taken_on v frame judged on (λ place. refl) (rw c.if-not-branch.true at (c.in_ok-act_all.ensures.ok units numbers)))

pub returns-in_err-ask_due-clause-err : goal.returns-in_err-ask_due-clause-err
returns-in_err-ask_due-clause-err c =
    on_err_known _ (ask_stops c.args.luns.now (rw c.if-not-branch.false at c.in_ok-act_all.ensures.ok) c.in_err-ask_due.ensures.stops)

pub returns-in_err-answer_drained-clause-err : goal.returns-in_err-answer_drained-clause-err
returns-in_err-answer_drained-clause-err c =
    on_err_known _ (tell_stops c.args.luns.now (rw c.if-not-branch.false at c.in_ok-act_all.ensures.ok) c.in_ok-ask_due.ensures.ok
    c.in_err-answer_drained.ensures.stops)

pub returns-clause-ok : goal.returns-clause-ok
returns-clause-ok c v frame old bytes judged on units numbers =
    told_then frame (λ place. refl) (λ place turn. refl) (λ place. refl) (asked_then frame (λ place. refl) (λ place turn. refl)
    (taken_on v frame judged on (λ place. refl) (rw c.if-not-branch.false at (c.in_ok-act_all.ensures.ok units numbers)))
    (c.in_ok-ask_due.ensures.ok _ units)) (c.in_ok-answer_drained.ensures.ok _ units)

pub returns-in_err-ask_due-clause-grows : goal.returns-in_err-ask_due-clause-grows
returns-in_err-ask_due-clause-grows c = grows_then _ _ _ c.act_all.ensures.grows c.ask_due.ensures.grows

pub returns-in_err-answer_drained-clause-grows : goal.returns-in_err-answer_drained-clause-grows
returns-in_err-answer_drained-clause-grows c =
    grows_then _ _ _ (grows_then _ _ _ c.act_all.ensures.grows c.ask_due.ensures.grows) c.answer_drained.ensures.grows

pub returns-clause-grows : goal.returns-clause-grows
returns-clause-grows c =
    grows_then _ _ _ (grows_then _ _ _ c.act_all.ensures.grows c.ask_due.ensures.grows) c.answer_drained.ensures.grows
