use Rattle.std.proofs.lemmas.Result.{IfOk-weaker, on_err_weaker}
use Rattle.iscsi_requests.proofs.Unread.{unread_frame}
use Rattle.iscsi_session.proofs.Parts.{on_err_known}
use Rattle.iscsi_session.proofs.Runs.{grows_then}
use Rattle.iscsi_session.proofs.Stages.{judges, judging_ends, taken_ended}
use Rattle.iscsi_session.proofs.Unread.{unread_stops}
use Rattle.iscsi_session.proofs.session.Session.serve_unread.Goals as goal

pub returns-in_err-receive_unread-clause-err : goal.returns-in_err-receive_unread-clause-err
returns-in_err-receive_unread-clause-err c = on_err_known _ (unread_stops c.args.luns.now c.args.header.now _ _ _ _ _
    c.in_err-receive_unread.ensures.err c.in_err-receive_unread.ensures.out_err)

pub returns-in-Violating-clause-ok : goal.returns-in-Violating-clause-ok
returns-in-Violating-clause-ok c frame same long units numbers =
    let taken = c.in_ok-receive_unread.ensures in
    let unread = unread_frame c.args.self.now.transfers c.args.header.now frame same long c.requires.out c.requires.untaken in
    taken_ended frame (judging_ends frame (judges (taken.verdict frame unread) (taken.stands frame unread) (taken.out frame unread)) c.in-Violating.is)

pub returns-clause-ok : goal.returns-clause-ok
returns-clause-ok c =
    let taken = c.in_ok-receive_unread.ensures in
    IfOk-weaker c.serve_judged.result _ _ (λ goes_on leads frame same long.
    (let unread = unread_frame c.args.self.now.transfers c.args.header.now frame same long c.requires.out c.requires.untaken in
    leads _ frame _ _ (judges (taken.verdict frame unread) (taken.stands frame unread) (taken.out frame unread)) c.in_default.not-Violating))
    c.serve_judged.ensures.ok

pub returns-clause-err : goal.returns-clause-err
returns-clause-err c =
    let taken = c.in_ok-receive_unread.ensures in
    on_err_weaker c.serve_judged.result (λ leads frame same long.
    (let unread = unread_frame c.args.self.now.transfers c.args.header.now frame same long c.requires.out c.requires.untaken in
    leads _ frame _ _ (judges (taken.verdict frame unread) (taken.stands frame unread) (taken.out frame unread)) c.in_default.not-Violating))
    c.serve_judged.ensures.err

pub returns-clause-grows : goal.returns-clause-grows
returns-clause-grows c = grows_then _ _ _ c.receive_unread.ensures.grows c.serve_judged.ensures.grows
