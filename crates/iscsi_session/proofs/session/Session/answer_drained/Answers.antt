use Rattle.std.proofs.Common.{◌≡◌, ◌++◌, ℕ, List, refl, sym, ap, subst, ◌∙◌}
use Rattle.iscsi_pdu.specs.Answer.{spelling}
use Rattle.iscsi_pdu.specs.Header.{initiator_task_tag}
use Rattle.iscsi_pdu.specs.declared.answer.Answer.{Answer}
use Rattle.iscsi_pdu.specs.declared.stamp.Stamp.{Stamp}
use Rattle.iscsi_pdu.specs.declared.task_management_response.TaskResult.TheVariants.{Complete}
use Rattle.iscsi_requests.specs.Requests.{stamp}
use Rattle.iscsi_requests.specs.Functions.{drained_functions, function_answer, told, told_answers, answered_by, told_by}
use Rattle.iscsi_requests.specs.Draining.{drains_without}
use Rattle.iscsi_requests.specs.State.{SessionState, Stands, function_removed, function_place}
use Rattle.iscsi_session.proofs.Parts.{on_err_known}
use Rattle.iscsi_session.proofs.Answered.{one_spelled}
use Rattle.iscsi_session.proofs.Telling.{telling_none, telling_here, told_same}
use Rattle.iscsi_session.specs.Steps.{Tell, tell, tell_due}
use Rattle.iscsi_session.proofs.Stages.{none_runs, first_stops, sent_runs, tells}
use Rattle.iscsi_session.proofs.session.Session.answer_drained.Goals as goal

pub returns-in_default-clause-ok : goal.returns-in_default-clause-ok
unfolding tell_due
returns-in_default-clause-ok c orders units =
    none_runs Tell 0 drained_functions tell
    (λ past s. telling_none past _ (subst (λ (x : SessionState). Stands past x) (sym c.self.view_is) s) c.in_default.ensures)

pub returns-in_err-reserve-clause-stops : goal.returns-in_err-reserve-clause-stops
unfolding tell_due
returns-in_err-reserve-clause-stops c = on_err_known _
    (first_stops Tell 0 drained_functions tell c.in_err-reserve.ensures.items (λ past s.
    (let t = telling_here past _ c.in-Some.function (subst (λ (x : SessionState). Stands past x) (sym c.self.view_is) s) c.in-Some.ensures in
    (t.function, t.rest, t.first))))

pub returns-clause-ok : goal.returns-clause-ok
unfolding tell_due told_answers
returns-clause-ok c orders units =
    sent_runs Tell 0 drained_functions tell answered_by told_by tells _ _ _ _ orders units
    (λ past s.
    (let known = subst (λ (x : SessionState). Stands past x) (sym c.self.view_is) s in
    let t = telling_here past _ c.in-Some.function known c.in-Some.ensures in
    let tag : c.initiator_task_tag-tag.result ≡ initiator_task_tag c.in-Some.function = c.initiator_task_tag-tag.ensures in
    let transfers = c.forget.ensures
    ∙ ap (λ (n : ℕ). record c.self.inside.transfers { drains = drains_without n c.self.inside.transfers.drains }) tag in
    let functions = c.finish.ensures ∙ ap (λ (n : ℕ). function_removed c.self.inside.functions (function_place n c.self.inside.functions)) tag in
    let there : Stands (told t.function past) (record {
      params = c.self.inside.params;
      stat = c.self.inside.stat;
      tasks = c.finish_function.new.self;
      transfers = c.forget.new.self;
      functions = c.finish.new.self;
      exchange = c.self.inside.exchange;
    }) = rw (c.finish_function.ensures, transfers, functions) t.stands in
    let answer : c.answer_to.result ≡ function_answer (stamp (told t.function past)) Complete c.in-Some.function =
    c.answer_to.ensures.value
    ∙ ap (λ (n : Stamp). function_answer n Complete c.in-Some.function) (c.next_stamp-stamp.ensures.stamp (told t.function past) there) in (
      subst (λ (l : List ℕ). Stands (answered_by l past) c.next_stamp-stamp.new.self) (sym t.first)
          (c.next_stamp-stamp.ensures.stands (told t.function past) (told_answers past t.function) there refl),
      c.put.ensures.items ∙ ap (λ (bytes : List ℕ). bytes ++ spelling c.answer_to.result) c.in_ok-reserve.ensures.items
          ∙ ap (λ (a : Answer). c.args.out.now.items ++ spelling a) answer
          ∙ one_spelled c.args.out.now.items _ _ (told_same past _ c.in-Some.function t),
    )))
