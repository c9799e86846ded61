use Rattle.std.proofs.Common.{◌≡◌, ◌++◌, [], List, ℕ, refl, sym, ap, subst, ◌∙◌, arith}
use Rattle.iscsi_pdu.specs.Answer.{spelling}
use Rattle.iscsi_pdu.specs.Frames.{Frame}
use Rattle.iscsi_pdu.specs.declared.stamp.Stamp.{Stamp}
use Rattle.iscsi_pdu.specs.declared.answer.Answer.{Answer}
use Rattle.iscsi_order.specs.Stat.{stat_sn}
use Rattle.iscsi_requests.specs.Functions.{FunctionReach, own_reach, awaited, function_answer}
use Rattle.iscsi_requests.specs.Draining.{awaits_in}
use Rattle.iscsi_session.proofs.Waits.{awaits_is, some_of, none_of, acted_waits}
use Rattle.iscsi_requests.specs.Requests.{Past, frame_of, statuses, stamp}
use Rattle.iscsi_session.specs.Acts.{reach_of, ended, behind, act_answers}
use Rattle.iscsi_requests.specs.State.{SessionState, Stands, waiting}
use Rattle.iscsi_session.proofs.Kept.{function_no_command}
use Rattle.iscsi_session.proofs.Parts.{parts, stands_stat}
use Rattle.iscsi_requests.proofs.Heads.{same_head}
use Rattle.iscsi_session.proofs.Answered.{seen, function_kind, goes_on_act, none_spelled, function_waits, first_drops, statuses_behind, stamp_is, function_bears, function_same, function_ordered, one_spelled, some_due}
use Rattle.iscsi_session.proofs.session.Session.answer_function.Goals as goal

pub returns-in_default-clause-acts : goal.returns-in_default-clause-acts
returns-in_default-clause-acts c past k rest s is e = absurd (some_due past _ k rest (seen c.self.view_is s) is c.in_default.ensures.none)

pub returns-clause-acts : goal.returns-clause-acts
returns-clause-acts c past k rest s is e =
    let known = seen c.self.view_is s in
    let luns = c.args.luns.now in
    let here : c.in-Some.frame.now ≡ frame_of past.came k = same_head _ _ _ _ c.self.inside.tasks.due c.in-Some.ensures.some
    (first_drops past _ k rest known is (function_no_command (frame_of past.came k) e)) in
    let header : c.frame.inside.header ≡ (frame_of past.came k).header = ap (λ (f : Frame). f.header) (c.frame.view_is ∙ here) in
    let reach : own_reach luns c.frame.inside.header ≡ reach_of luns k past = ap (own_reach luns) header in
    let none : awaited past (reach_of luns k past) ≡ [] = none_of _
    (sym (awaits_is past _ (reach_of luns k past) known) ∙ ap (λ (r : FunctionReach). awaits_in r c.self.inside.transfers.list) (sym reach)
    ∙ sym c.awaits.ensures ∙ c.if-awaits.false) in
    let after = behind luns k past (ended luns k past) in
    let ends = c.in_ok-numbers.ensures.stands luns past k rest s is e reach (ap (awaited past) reach ∙ none) (c.judge_function-response.ensures.plugs past s) in
    let there = seen c.self-2.view_is ends.1 in
    let stat_is = (parts after _ there).stat_is in
    let number = c.next.ensures.number (statuses after) stat_is ∙ ap stat_sn (statuses_behind luns k past (ended luns k past)) in
    let stamped = stamp_is (ended luns k past) c.next.result c.in_ok-numbers.numbers number ends.0 in
    let result = c.judge_function-response.result.0 in
    let answer : c.answer_to.result ≡ function_answer (stamp (ended luns k past)) result c.frame.inside.header =
    c.answer_to.ensures.value ∙ ap (λ (n : Stamp). function_answer n result c.frame.inside.header) stamped in
    record {
      act = goes_on_act k past (function_kind (frame_of past.came k) e) refl;
      stands = stands_stat after (act_answers luns k past) _ c.next.new.self there (function_bears luns k past e none)
          (c.next.ensures.counted (statuses after) stat_is);
      out = c.put.ensures.items ∙ ap (λ (bytes : List ℕ). bytes ++ spelling c.answer_to.result) c.in_ok-reserve.ensures.items
          ∙ ap (λ (a : Answer). c.args.out.now.items ++ spelling a) answer
          ∙ one_spelled c.args.out.now.items _ _ (function_same luns k past c.frame.inside.header result header
          (c.judge_function-response.ensures.response past s) e none);
      orders = grind (arith, function_ordered, c.frame.inside.header);
    }

pub returns-clause-fewer : goal.returns-clause-fewer
returns-clause-fewer c frame others is function =
    omega (arith, c.in_ok-numbers.ensures.fewer frame others is function, ap (λ (x : SessionState). waiting x.tasks) c.self-2.view_is)

-- it waits for data
pub returns-then-awaits-clause-acts : goal.returns-then-awaits-clause-acts
returns-then-awaits-clause-acts c past k rest s is e =
    let known = seen c.self.view_is s in
    let luns = c.args.luns.now in
    let here : c.in-Some.frame.now ≡ frame_of past.came k = same_head _ _ _ _ c.self.inside.tasks.due c.in-Some.ensures.some
    (first_drops past _ k rest known is (function_no_command (frame_of past.came k) e)) in
    let header : c.frame.inside.header ≡ (frame_of past.came k).header = ap (λ (f : Frame). f.header) (c.frame.view_is ∙ here) in
    let reach : own_reach luns c.frame.inside.header ≡ reach_of luns k past = ap (own_reach luns) header in
    let some = some_of (awaited past (reach_of luns k past))
    (sym (awaits_is past _ (reach_of luns k past) known) ∙ ap (λ (r : FunctionReach). awaits_in r c.self.inside.transfers.list) (sym reach)
    ∙ sym c.awaits.ensures ∙ c.if-awaits.true) in
    let awaits = ap (λ (x : SessionState). awaits_in (own_reach luns c.frame.inside.header) x.transfers.list) (sym c.self.view_is)
    ∙ sym c.awaits.ensures ∙ c.if-awaits.true in
    record {
      act = goes_on_act k past (function_kind (frame_of past.came k) e) refl;
      stands = subst (λ (p : Past). Stands p c.drain.new.self) (acted_waits luns past s.lawful k rest is e some.0 some.1 some.2)
          (c.in_ok-drain.ensures.stands luns past k rest s is e reach awaits);
      out = c.in_ok-reserve.ensures.items ∙ none_spelled c.args.out.now.items _ (function_waits luns k past some.0 some.1 e some.2);
      orders = grind (arith, function_ordered, c.frame.inside.header);
    }
