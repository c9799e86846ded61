use Rattle.std.proofs.Common.{◌≡◌, ◌<◌, [], ◌∷◌, length, drop, true, false, refl, sym, ap, subst, ◌∙◌, arith}
use Rattle.iscsi_pdu.specs.Header.{initiator_task_tag}
use Rattle.iscsi_pdu.specs.TaskManagement.{ref_cmd_sn}
use Rattle.iscsi_requests.specs.Requests.{frame_of, numbers}
use Rattle.iscsi_requests.specs.Functions.{FunctionReach, awaited, plug, plugs}
use Rattle.iscsi_session.specs.Acts.{reach_of, ended}
use Rattle.iscsi_requests.specs.State.{SessionState, TaskLists, Stands, one_fewer, plugged_behind, holding, takes_all, without, transfers_without, is_vacant}
use Rattle.iscsi_session.proofs.Kept.{function_no_command}
use Rattle.iscsi_session.proofs.Parts.{window_stands}
use Rattle.iscsi_session.proofs.Answered.{first_drops, function_here}
use Rattle.iscsi_session.proofs.Weights.{waiting_plugged, waiting_without, finishes_one, given_frame}
use Rattle.iscsi_session.proofs.Ending.{vacant_still, stands_ended, stands_behind, stands_unreached, stands_plugged_behind}
use Rattle.iscsi_session.proofs.session.Session.end_tasks.Goals as goal

-- ---- a number is plugged

pub returns-then-plugs-clause-stands : goal.returns-then-plugs-clause-stands
returns-then-plugs-clause-stands c luns past k rest s is e same unasked told =
    let known = subst (λ (x : SessionState). Stands past x) (sym c.self.view_is) s in
    let tasks = c.self.inside.tasks in
    let n = c.ref_cmd_sn.result in
    let frame = frame_of past.came k in
    let some : tasks.due ≡ frame ∷ drop 1 tasks.due = first_drops past _ k rest known is (function_no_command frame e) in
    let left : TaskLists = one_fewer frame (record tasks { due = drop 1 tasks.due }) in
    let reach = reach_of luns k past in
    let header : c.reach.inside.function ≡ frame.header = ap (λ (r : FunctionReach). r.function) (c.reach.view_is ∙ same) in
    let tag = c.initiator_task_tag-tag.ensures ∙ ap initiator_task_tag header in
    let middle = (function_here past _ k rest known is frame left c.initiator_task_tag-tag.result c.finish.new.self e some refl tag c.finish.ensures).1 in
    let none : awaited past reach ≡ [] = ap (awaited past) (sym same) ∙ unasked in
    let does : plugs past reach ≡ true = ap (plugs past) (sym same) ∙ sym told ∙ c.if-plugs.true in
    let ends = stands_unreached luns past _ k e none does middle in
    let number : n ≡ ref_cmd_sn frame.header = c.ref_cmd_sn.ensures ∙ ap ref_cmd_sn header in
    let free : is_vacant left n ≡ true =
    grind (arith, vacant_still, c.ref_cmd_sn.ensures, c.reach.view_is, c.self.view_is, c.requires.vacant, c.if-plugs.true) in
    let after = stands_plugged_behind luns past _ k n e does number free ends in
    let now : c.plug_behind_first.new.self ≡ takes_all (holding n plug left) = c.in_ok-numbers.ensures.ok ∙ ap (plugged_behind n tasks) some in
    (c.in_ok-numbers.ensures.numbers (numbers (ended luns k past)) frame (drop 1 tasks.due) some (window_stands (ended luns k past) _ ends), rw now after)

pub returns-then-plugs-clause-fewer : goal.returns-then-plugs-clause-fewer
returns-then-plugs-clause-fewer c frame others is function = grind (arith, waiting_plugged)

-- ---- commands are removed

pub returns-clause-stands : goal.returns-clause-stands
returns-clause-stands c luns past k rest s is e same unasked told =
    let known = subst (λ (x : SessionState). Stands past x) (sym c.self.view_is) s in
    let reach = reach_of luns k past in
    let header : c.reach.inside.function ≡ (frame_of past.came k).header = ap (λ (r : FunctionReach). r.function) (c.reach.view_is ∙ same) in
    let some : 0 < length c.self.inside.tasks.due = omega (arith, c.requires.due, ap (λ (x : SessionState). length x.tasks.due) c.self.view_is) in
    let g = given_frame c.finish_due.result c.self.inside.tasks.due c.finish_due.ensures.some c.finish_due.ensures.same c.finish_due.ensures.none some in
    let tag = c.initiator_task_tag-tag.ensures ∙ ap initiator_task_tag header in
    let middle = (function_here past _ k rest known is g.0 c.finish_due.new.self c.initiator_task_tag-tag.result c.finish-2.new.self e g.1 g.2 tag
    c.finish-2.ensures).1 in
    let unwaited : awaited past reach ≡ [] = ap (awaited past) (sym same) ∙ unasked in
    let ends = stands_ended luns past _ k e unwaited middle in
    let tasks : c.remove-2.new.self ≡ without reach c.finish_due.new.self = c.remove-2.ensures
    ∙ ap (λ (r : FunctionReach). without r c.finish_due.new.self) same in
    let transfers : c.remove.new.self ≡ record c.self.inside.transfers { list = transfers_without reach c.self.inside.transfers.list } = c.remove.ensures
    ∙ ap (λ (r : FunctionReach). record c.self.inside.transfers { list = transfers_without r c.self.inside.transfers.list }) same in
    let none : plugs past reach ≡ false = ap (plugs past) (sym same) ∙ sym told ∙ c.if-plugs.false in
    let there : Stands (ended luns k past) (record {
      params = c.self.inside.params;
      stat = c.self.inside.stat;
      tasks = c.remove-2.new.self;
      transfers = c.remove.new.self;
      functions = c.finish-2.new.self;
      exchange = c.self.inside.exchange;
    }) = rw (tasks, transfers) ends in
    (c.numbers.ensures (numbers (ended luns k past)) (window_stands (ended luns k past) _ there), stands_behind luns past _ k none there)

pub returns-clause-fewer : goal.returns-clause-fewer
returns-clause-fewer c frame others is function = grind (arith, given_frame, finishes_one, waiting_without)
