use Rattle.std.proofs.Common.{◌++◌, ℕ, List, sym, ap, ◌∙◌, subst}
use Rattle.std.specs.Prelude.{flat_map, is_some}
use Rattle.iscsi_pdu.specs.Answer.{spelling}
use Rattle.iscsi_pdu.specs.declared.answer.Answer.{Answer}
use Rattle.iscsi_requests.specs.Transfers.{asking, asked_by, r2t_answers, r2ts_by}
use Rattle.iscsi_requests.specs.State.{SessionState, Stands, r2ts_at}
use Rattle.iscsi_session.specs.Steps.{Ask, ask, ask_due}
use Rattle.iscsi_session.proofs.Parts.{on_err_known}
use Rattle.iscsi_session.proofs.Asking.{asking_there, sends_all}
use Rattle.iscsi_session.proofs.Stages.{none_runs, first_stops, sent_runs, asks}
use Rattle.iscsi_session.proofs.session.Session.ask_due.Goals as goal

pub returns-in_default-clause-ok : goal.returns-in_default-clause-ok
unfolding ask_due
returns-in_default-clause-ok c orders units =
    none_runs Ask 0 asking ask (λ past s.
    (let known = subst (λ (state : SessionState). Stands past state) (sym c.self.view_is) s in
    (asking_there past _ known).1 (ap is_some (sym c.asking.ensures.place ∙ c.in_default.is))))

pub returns-in_err-reserve-clause-stops : goal.returns-in_err-reserve-clause-stops
unfolding ask_due
returns-in_err-reserve-clause-stops c = on_err_known _
    (first_stops Ask 0 asking ask c.in_err-reserve.ensures.items (λ past s.
    (let known = subst (λ (state : SessionState). Stands past state) (sym c.self.view_is) s in
    (asking_there past _ known).0 (ap is_some (sym c.asking.ensures.place ∙ c.in-Some.is)))))

pub returns-clause-ok : goal.returns-clause-ok
unfolding ask_due
returns-clause-ok c orders units =
    sent_runs Ask 0 asking ask asked_by r2ts_by asks _ _ _ _ orders units
    (λ past s.
    (let known = subst (λ (state : SessionState). Stands past state) (sym c.self.view_is) s in
    let sends = sends_all past _ c.stamp-stamp.result c.in-Some.place known (c.stamp-stamp.ensures past s) (sym c.asking.ensures.place ∙ c.in-Some.is) in (
      rw c.ask.ensures.sent sends.stands,
      c.ask.ensures.written
          ∙ ap (λ (bytes : List ℕ). bytes ++ flat_map spelling (r2t_answers (r2ts_at c.self.inside.transfers c.stamp-stamp.result c.in-Some.place)))
          c.in_ok-reserve.ensures.items
          ∙ ap (λ (l : List Answer). c.args.out.now.items ++ flat_map spelling l) sends.r2ts_are,
    )))
