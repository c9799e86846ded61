use Rattle.std.proofs.Common.{◌≡◌, ℕ, ◌≤◌, ◌++◌, ◌∷◌, List, sym, ap, subst, ◌∙◌}
use Rattle.std.specs.Prelude.{flat_map}
use Rattle.iscsi_pdu.specs.Frames.{Frame}
use Rattle.iscsi_pdu.specs.Answer.{spelling}
use Rattle.iscsi_pdu.specs.declared.answer.Answer.{Answer}
use Rattle.iscsi_pdu.specs.declared.stamp.Stamp.{Stamp}
use Rattle.iscsi_login.specs.declared.session_params.SessionParams.{SessionParams}
use Rattle.iscsi_requests.specs.Requests.{frame_of, stamp, finished}
use Rattle.iscsi_answers.specs.Answers.{command_answers}
use Rattle.iscsi_answers.specs.Room.{room_for}
use Rattle.iscsi_requests.specs.Unread.{takes_in}
use Rattle.iscsi_requests.specs.State.{SessionState, TransferList, removed_at, place_with}
use Rattle.iscsi_requests.proofs.Unread.{untaken_removed}
use Rattle.iscsi_pdu.specs.Header.{initiator_task_tag}
use Rattle.iscsi_session.proofs.Parts.{parts}
use Rattle.iscsi_session.proofs.Answered.{seen, done_here, some_queued}
use Rattle.iscsi_session.proofs.Settled.{answers_bare, command_bears}
use Rattle.iscsi_session.proofs.session.Session.answer_command.Goals as goal

pub returns-in_default-clause-answers : goal.returns-in_default-clause-answers
returns-in_default-clause-answers c past k rest s is = absurd (some_queued past _ k rest (seen c.self.view_is s) is c.in_default.ensures.none)

pub put_answers-requires-clause-room : goal.put_answers-requires-clause-room
put_answers-requires-clause-room c =
    let known = subst (λ (x : SessionState). (frame : Frame) (others : List Frame) → x.tasks.queue ≡ frame ∷ others
    → room_for x.params.values frame ≤ c.args.out.now.spare) (sym c.self.view_is) c.requires.room in
    let same : c.self-2.inside.params ≡ c.self.inside.params = ap (λ (x : SessionState). x.params) (c.self-2.view_is ∙ c.next_stamp-stamp.ensures.same) in
    subst (λ (p : SessionParams). room_for p.values c.in-Some.frame ≤ c.args.out.now.spare) (sym same) (known _ _ c.in-Some.ensures.some)

pub returns-clause-answers : goal.returns-clause-answers
returns-clause-answers c past k rest s is =
    let known = seen c.self.view_is s in
    let done = c.args.done in
    let items = c.args.out.now.items in
    let f = done_here past _ k rest c.in-Some.frame _ _ known is c.in-Some.ensures.some c.in-Some.ensures.same
    (c.finish-parts.ensures ∙ ap (λ (t : ℕ). record c.self.inside.transfers
    { list = removed_at c.self.inside.transfers.list (place_with t c.self.inside.transfers.list) })
    (c.initiator_task_tag.ensures ∙ ap (λ (f : Frame). initiator_task_tag f.header) c.frame.view_is)) in
    let same : c.self-2.inside.params ≡ past.params = ap (λ (x : SessionState). x.params) (c.self-2.view_is ∙ c.next_stamp-stamp.ensures.same)
    ∙ (parts past _ known).params_is in
    let now = stamp (finished k past) in
    record {
      stands = c.next_stamp-stamp.ensures.stands (finished k past) (command_answers now past.params.values (frame_of past.came k) done) f.1
          (command_bears now past.params.values (frame_of past.came k) done);
      out = c.put_answers.ensures
          ∙ ap (λ (x : Stamp). items ++ flat_map spelling (command_answers x c.self-2.inside.params.values c.in-Some.frame done))
          (c.next_stamp-stamp.ensures.stamp (finished k past) f.1)
          ∙ ap (λ (p : SessionParams). items ++ flat_map spelling (command_answers now p.values c.in-Some.frame done)) same
          ∙ ap (λ (x : Frame). items ++ flat_map spelling (command_answers now past.params.values x done)) f.0
          ∙ ap (λ (all : List Answer). items ++ flat_map spelling all) (answers_bare now past.params.values (frame_of past.came k) done);
    }

pub returns-clause-takes : goal.returns-clause-takes
returns-clause-takes c frame none =
    let known = ap (λ (x : SessionState). takes_in x.transfers frame) c.self.view_is ∙ none in
    ap (λ (x : SessionState). takes_in x.transfers frame) c.next_stamp-stamp.ensures.same
    ∙ ap (λ (x : TransferList). takes_in x frame) c.finish-parts.ensures
    ∙ untaken_removed c.self.inside.transfers (place_with c.initiator_task_tag.result c.self.inside.transfers.list) frame known
