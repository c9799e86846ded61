use Rattle.std.proofs.Common.{ℕ, true, false, refl, sym, ap, ◌∙◌}
use Rattle.iscsi_order.specs.Window as order
use Rattle.iscsi_pdu.specs.TaskManagement.{ref_cmd_sn}
use Rattle.iscsi_requests.specs.Requests.{numbers}
use Rattle.iscsi_requests.specs.Functions.{FunctionReach, refers_back}
use Rattle.iscsi_requests.specs.State.{is_some_plug, held_numbered}
use Rattle.iscsi_session.proofs.Answered.{seen}
use Rattle.iscsi_session.proofs.Parts.{window_stands}
use Rattle.iscsi_session.proofs.Ending.{finds_is}
use Rattle.iscsi_session.proofs.session.Session.abort_finds.Goals as goal

pub returns-then-has_reached-clause-past : goal.returns-then-has_reached-clause-past
returns-then-has_reached-clause-past c past s =
    finds_is c.args.reach.now true _ _ _ (seen c.self.view_is s) (sym c.if-has_reached.true ∙ c.has_reached.ensures) refl refl refl

pub returns-then-not-refers_back-clause-past : goal.returns-then-not-refers_back-clause-past
returns-then-not-refers_back-clause-past c past s =
    let back = c.refers_back.ensures ∙ ap (λ (r : FunctionReach). refers_back r.function) c.reach.view_is in
    finds_is c.args.reach.now false false _ _ (seen c.self.view_is s) (sym c.if-has_reached.false ∙ c.has_reached.ensures)
    (sym c.if-not-refers_back.true ∙ back) refl refl

pub returns-then-is_new-clause-past : goal.returns-then-is_new-clause-past
returns-then-is_new-clause-past c past s =
    let known = seen c.self.view_is s in
    let back = c.refers_back.ensures ∙ ap (λ (r : FunctionReach). refers_back r.function) c.reach.view_is in
    let new = c.is_new.ensures.past (numbers past) (window_stands past _ known)
    ∙ ap (order.is_new (numbers past)) (c.ref_cmd_sn-number.ensures ∙ ap (λ (r : FunctionReach). ref_cmd_sn r.function) c.reach.view_is) in
    finds_is c.args.reach.now false true true _ known (sym c.if-has_reached.false ∙ c.has_reached.ensures)
    (sym c.if-not-refers_back.false ∙ back) (sym c.if-is_new.true ∙ new) refl

pub returns-then-is_plugged-clause-past : goal.returns-then-is_plugged-clause-past
returns-then-is_plugged-clause-past c past s =
    let known = seen c.self.view_is s in
    let back = c.refers_back.ensures ∙ ap (λ (r : FunctionReach). refers_back r.function) c.reach.view_is in
    let number = c.ref_cmd_sn-number.ensures ∙ ap (λ (r : FunctionReach). ref_cmd_sn r.function) c.reach.view_is in
    let new = c.is_new.ensures.past (numbers past) (window_stands past _ known) ∙ ap (order.is_new (numbers past)) number in
    let plug = c.is_plugged.ensures ∙ ap (λ (n : ℕ). is_some_plug (held_numbered c.self.inside.tasks n)) number in
    finds_is c.args.reach.now false true false true known (sym c.if-has_reached.false ∙ c.has_reached.ensures)
    (sym c.if-not-refers_back.false ∙ back) (sym c.if-is_new.false ∙ new) (sym c.if-is_plugged.true ∙ plug)

pub returns-clause-past : goal.returns-clause-past
returns-clause-past c past s =
    let known = seen c.self.view_is s in
    let back = c.refers_back.ensures ∙ ap (λ (r : FunctionReach). refers_back r.function) c.reach.view_is in
    let number = c.ref_cmd_sn-number.ensures ∙ ap (λ (r : FunctionReach). ref_cmd_sn r.function) c.reach.view_is in
    let new = c.is_new.ensures.past (numbers past) (window_stands past _ known) ∙ ap (order.is_new (numbers past)) number in
    let plug = c.is_plugged.ensures ∙ ap (λ (n : ℕ). is_some_plug (held_numbered c.self.inside.tasks n)) number in
    finds_is c.args.reach.now false true false false known (sym c.if-has_reached.false ∙ c.has_reached.ensures)
    (sym c.if-not-refers_back.false ∙ back) (sym c.if-is_new.false ∙ new) (sym c.if-is_plugged.false ∙ plug)
