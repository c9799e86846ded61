use Rattle.std.proofs.Common.{sym, append-nil}
use Rattle.iscsi_session.proofs.Unread.{unread_quiet}
use Rattle.iscsi_session.proofs.session.Session.receive_unread.Goals as goal

pub returns-in-Accepted-clause-stands : goal.returns-in-Accepted-clause-stands
returns-in-Accepted-clause-stands c frame unread past s =
    rw (unread_quiet _ past _ c.args.header.now frame s unread (c.judge_unread-verdict.ensures.verdict frame unread past s) c.in-Accepted.is).stays s

pub returns-in-Accepted-clause-out : goal.returns-in-Accepted-clause-out
returns-in-Accepted-clause-out c frame unread past s =
    rw (unread_quiet _ past _ c.args.header.now frame s unread (c.judge_unread-verdict.ensures.verdict frame unread past s) c.in-Accepted.is).silent
    (sym (append-nil _))
