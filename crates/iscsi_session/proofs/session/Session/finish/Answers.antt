use Rattle.std.proofs.Common.{◌≡◌, ℕ, [], sym, ap, ◌∙◌, append-nil}
use Rattle.iscsi_requests.specs.State.{SessionState, payload_at, place_for, place_with}
use Rattle.iscsi_pdu.specs.Frames.{Frame}
use Rattle.iscsi_pdu.specs.Header.{initiator_task_tag}
use Rattle.iscsi_session.specs.Commands.{carried_out}
use Rattle.iscsi_session.specs.Steps.{finish}
use Rattle.iscsi_session.proofs.Came.{came_none, came_one}
use Rattle.iscsi_session.proofs.Settled.{none_steps, none_ready, finish_steps}
use Rattle.iscsi_session.proofs.AtRest.{done_eases}
use Rattle.iscsi_session.proofs.session.Session.finish.Goals as goal

pub returns-in_default-clause-steps : goal.returns-in_default-clause-steps
returns-in_default-clause-steps g c =
    came_none _ _ _ _ (λ comings work s. none_steps finish _ work _ _ _ (none_ready work _ _ s c.in_default.ensures.none) s.units)

pub returns-clause-steps : goal.returns-clause-steps
returns-clause-steps g c =
    let came = rw c.lay_out.ensures at c.in_ok-done.ensures.came in
    rw (c.keep_buffers.ensures, c.give_back.ensures)
    (came_one _ _ _ _ came.0 (λ comings next work s.
    let list = c.self.inside.transfers.list in
    let payload : c.payload-payload.result ≡ payload_at c.args.self.now.transfers.list (place_for c.in-Some.frame.now c.args.self.now.transfers.list) =
    c.payload-payload.ensures
    ∙ ap (λ (t : ℕ). payload_at list (place_with t list)) (c.initiator_task_tag.ensures ∙ ap (λ (f : Frame). initiator_task_tag f.header) c.frame.view_is)
    ∙ ap (λ (x : SessionState). payload_at x.transfers.list (place_for c.in-Some.frame.now x.transfers.list)) c.self.view_is in
    finish_steps _ _ _ _ _ _ comings came.0 _ _ _ _ c.in-Some.ensures.some (ap (λ (x : SessionState). x.params.nexus) c.self.view_is) next
    (came.1 ∙ ap (carried_out came.0 c.args.units.now c.self.inside.params.nexus c.in-Some.frame.now) payload)
    (rw c.make_room.ensures.same at c.answer_command-buffer.ensures.answers) work s c.in-Some.ensures.whole) came.2)

pub returns-clause-back : goal.returns-clause-back
returns-clause-back g c = rw (c.keep_buffers.ensures, c.give_back.ensures) (rw c.lay_out.ensures at c.perform_first.ensures.back)

pub returns-in_err-make_room-clause-grows : goal.returns-in_err-make_room-clause-grows
returns-in_err-make_room-clause-grows g c = ([], c.make_room.ensures.same ∙ sym (append-nil _))

pub returns-in_err-done-clause-grows : goal.returns-in_err-done-clause-grows
returns-in_err-done-clause-grows g c = ([], c.make_room.ensures.same ∙ sym (append-nil _))

pub returns-clause-sure : goal.returns-clause-sure
returns-clause-sure g c = rw (c.keep_buffers.ensures, c.give_back.ensures) (rw c.lay_out.ensures at c.perform_first.ensures.sure)

pub returns-clause-eases : goal.returns-clause-eases
returns-clause-eases g c r =
    done_eases c.args.self.now c.answer_command-buffer.new.self c.in-Some.frame.now _ c.in_ok-done.done c.args.out.now.items c.answer_command-buffer.new.out.items
    c.in-Some.ensures.some c.requires c.in_ok-done.ensures.given (rw c.make_room.ensures.same at c.answer_command-buffer.ensures.answers) r
