use Rattle.std.proofs.Common.{◌≡◌, ◌++◌, [], ◌∷◌, ℕ, List, drop, true, false, refl, sym, ap, subst, ◌∙◌, arith}
use Rattle.std.proofs.lemmas.Result.{IfOk-weaker}
use Rattle.iscsi_requests.specs.Requests.{is_command, is_function, frame_of}
use Rattle.iscsi_session.specs.Acts.{act_answers}
use Rattle.iscsi_requests.specs.Texts.{is_text}
use Rattle.iscsi_requests.specs.State.{SessionState, standing, waiting}
use Rattle.iscsi_session.specs.Runs.{ActsAs, output}
use Rattle.iscsi_session.proofs.Answered.{seen, none_due, due_first, none_acts, first_acts, command_kind, goes_on_act, command_answers_none, none_ordered, none_spelled, stands_queued, command_there, text_there, function_there, no_text_there, no_function_there}
use Rattle.iscsi_session.proofs.Kept.{command_no_function}
use Rattle.iscsi_session.proofs.Weights.{queues_one}
use Rattle.iscsi_session.proofs.session.Session.act.Goals as goal

pub returns-in-None-clause-acts : goal.returns-in-None-clause-acts
returns-in-None-clause-acts c past s = none_acts c.args.luns.now past _ _ (none_due past _ (seen c.self.view_is s) c.in-None.ensures.none)

-- ---- a SCSI Command

pub returns-in_ok-queue_due-in-Some-clause-acts : goal.returns-in_ok-queue_due-in-Some-clause-acts
returns-in_ok-queue_due-in-Some-clause-acts c past s =
    let known = seen c.self.view_is s in
    let luns = c.args.luns.now in
    let d = due_first past _ c.in-Some.frame.now _ known c.in-Some.ensures.some in
    let stands : is_command (frame_of (standing past) d.0) ≡ true = ap is_command (sym d.3) ∙ sym c.is_command.ensures ∙ c.if-is_command.true in
    let there = command_there past _ d.0 d.1 known d.2 stands in
    let kind : is_command (frame_of past.came d.0) ≡ true = ap is_command (sym there.0) ∙ stands in
    first_acts luns past d.0 d.1 _ _ _ _ _ d.2 (record {
      act = goes_on_act d.0 past (command_kind (frame_of past.came d.0) kind) refl;
      stands = stands_queued past _ d.0 d.1 known d.2 luns c.in-Some.frame.now _ c.queue_due.new.self kind there.1 (d.3 ∙ there.0) d.4
          (c.in_ok-queue_due-in-Some.ensures.ok c.in-Some.frame.now _ c.in-Some.ensures.some);
      out = none_spelled _ (act_answers luns d.0 past) (command_answers_none luns d.0 past kind);
      orders = none_ordered past d.0 _ (command_no_function (frame_of past.came d.0) kind);
    })

pub returns-in_ok-queue_due-in-Some-clause-fewer : goal.returns-in_ok-queue_due-in-Some-clause-fewer
returns-in_ok-queue_due-in-Some-clause-fewer c e =
    let moved = c.in_ok-queue_due-in-Some.ensures.ok c.in-Some.frame.now _ c.in-Some.ensures.some in
    let before = ap (λ (x : SessionState). waiting x.tasks) c.self.view_is in
    omega (
      arith,
      queues_one c.in-Some.frame.now (drop 1 c.self.inside.tasks.due)
          (c.self.inside.tasks.queue ++ c.in-Some.frame.now ∷ []) c.self.inside.tasks c.queue_due.new.self c.in-Some.ensures.some moved,
      before,
    )

-- ---- a Text, a Task Management Function Request, and any other

pub returns-in-Some-2-clause-acts : goal.returns-in-Some-2-clause-acts
returns-in-Some-2-clause-acts c =
    IfOk-weaker c.answer_text.result _ _ (λ a acts past s.
    (let known = seen c.self.view_is s in
    let d = due_first past _ c.in-Some.frame.now _ known c.in-Some.ensures.some in
    let stands : is_text (frame_of (standing past) d.0) ≡ true = ap is_text (sym d.3) ∙ sym c.is_text.ensures ∙ c.if-is_text.true in
    first_acts c.args.luns.now past d.0 d.1 _ _ _ _ _ d.2
    (acts c.args.luns.now past d.0 d.1 s d.2 (text_there past _ d.0 d.1 known d.2 stands) _))) c.answer_text.ensures.acts

pub returns-in-Some-3-clause-acts : goal.returns-in-Some-3-clause-acts
returns-in-Some-3-clause-acts c =
    IfOk-weaker c.answer_function.result _ _ (λ a acts past s.
    (let known = seen c.self.view_is s in
    let d = due_first past _ c.in-Some.frame.now _ known c.in-Some.ensures.some in
    let stands : is_function (frame_of (standing past) d.0) ≡ true = ap is_function (sym d.3) ∙ sym c.is_function.ensures ∙ c.if-is_function.true in
    first_acts c.args.luns.now past d.0 d.1 _ _ _ _ _ d.2
    (acts past d.0 d.1 s d.2 (function_there past _ d.0 d.1 known d.2 stands)))) c.answer_function.ensures.acts

pub returns-in_ok-reserve-in-Some-4-clause-acts : goal.returns-in_ok-reserve-in-Some-4-clause-acts
returns-in_ok-reserve-in-Some-4-clause-acts c past s =
    let known = seen c.self.view_is s in
    let luns = c.args.luns.now in
    let orders = c.args.orders.now.items in
    let d = due_first past _ c.in-Some.frame.now _ known c.in-Some.ensures.some in
    let kind : is_command (frame_of (standing past) d.0) ≡ false = ap is_command (sym d.3) ∙ sym c.is_command.ensures ∙ c.if-is_command.false in
    let no_text : is_text (frame_of past.came d.0) ≡ false = grind (arith, no_text_there, c.is_text.ensures, c.if-is_text.false) in
    let no_function : is_function (frame_of past.came d.0) ≡ false = grind (arith, no_function_there, c.is_function.ensures, c.if-is_function.false) in
    first_acts luns past d.0 d.1 _ _ _ _ _ d.2
    (subst (λ (bytes : List ℕ). ActsAs luns d.0 past c.answer.result c.answer.new.self (output bytes orders) (output c.answer.new.out.items orders))
    c.in_ok-reserve-in-Some-4.ensures.items (c.answer.ensures.acts luns past d.0 d.1 s d.2 kind no_text no_function orders))
