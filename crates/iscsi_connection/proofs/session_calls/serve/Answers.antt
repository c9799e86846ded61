use Rattle.std.proofs.Common.{sym, ap, ◌∙◌}
use Rattle.std.proofs.lemmas.Result.{IfOk-weaker, on_err_weaker}
use Rattle.iscsi_pdu.specs.Header.{data_length}
use Rattle.iscsi_connection.proofs.session_calls.serve.Goals as goal

pub returns-in-Whole-clause-err : goal.returns-in-Whole-clause-err
returns-in-Whole-clause-err c = rw c.in-Whole.is c.serve.ensures.err

pub returns-in-Passed-clause-ok : goal.returns-in-Passed-clause-ok
returns-in-Passed-clause-ok c =
    let header = sym c.header.ensures.header in
    let long = c.header.ensures.size ∙ ap data_length header in
    rw c.in-Passed.is (IfOk-weaker c.serve_unread.result _ _ (λ goes_on said. said c.in-Passed.passed header long) c.serve_unread.ensures.ok)

pub returns-in-Passed-clause-err : goal.returns-in-Passed-clause-err
returns-in-Passed-clause-err c =
    let header = sym c.header.ensures.header in
    let long = c.header.ensures.size ∙ ap data_length header in
    rw c.in-Passed.is (on_err_weaker c.serve_unread.result (λ said. said c.in-Passed.passed header long) c.serve_unread.ensures.err)
