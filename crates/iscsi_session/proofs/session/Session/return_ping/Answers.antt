use Rattle.std.proofs.Common.{◌≡◌, ◌∙◌, sym, subst, ap, ℕ, List, length, take, min}
use Rattle.iscsi_pdu.specs.Segment.{most_data}
use Rattle.iscsi_login.specs.declared.session_params.SessionParams.{SessionParams}
use Rattle.std.proofs.lemmas.Bool.{ne_eqb}
use Rattle.iscsi_pdu.specs.Frames.{Frame}
use Rattle.iscsi_pdu.specs.Header.{initiator_task_tag}
use Rattle.iscsi_requests.specs.State.{SessionState, Stands}
use Rattle.iscsi_session.proofs.Parts.{parts}
use Rattle.iscsi_session.proofs.Answered.{ping_written, ping_data}
use Rattle.iscsi_session.proofs.session.Session.return_ping.Goals as goal

pub returns-clause-out : goal.returns-clause-out
returns-clause-out c past s =
    let known = subst (λ (x : SessionState). Stands past x) (sym c.self.view_is) s in
    let frame_is : c.frame.inside.header ≡ c.args.frame.now.header = ap (λ (f : Frame). f.header) c.frame.view_is in
    let tag_is : c.initiator_task_tag-2.result ≡ initiator_task_tag c.args.frame.now.header = c.initiator_task_tag-2.ensures ∙ ap initiator_task_tag frame_is in
    let values_is = (parts past _ known).params_is in
    let body_now : c.deref.result.now ≡ c.args.frame.now.body = c.deref.ensures.value ∙ ap (λ (f : Frame). f.body) c.frame.view_is in
    let count : c.len.result ≡ length c.args.frame.now.body = c.len.ensures ∙ sym c.deref.ensures.len ∙ ap (λ (l : List ℕ). length l) body_now in
    let body_is : take c.min-length.result c.deref.result.now ≡ take (min past.params.values.max_recv_data_segment_length most_data) c.args.frame.now.body =
    ap (take c.min-length.result) body_now ∙ ap (λ (k : ℕ). take k c.args.frame.now.body) (c.min-length.ensures ∙ ap (λ (k : ℕ). min k most_data) c.min.ensures)
    ∙ ping_data c.len.result c.self.inside.params.values.max_recv_data_segment_length most_data c.args.frame.now.body count
    ∙ ap (λ (p : SessionParams). take (min p.values.max_recv_data_segment_length most_data) c.args.frame.now.body) values_is in
    ping_written c.args.out.now.items c.put.new.self.items _ c.initiator_task_tag-2.result _ c.next_stamp.result past.params.values c.args.frame.now
    (record {
      asks = ne_eqb _ _ (λ e. c.if-initiator_task_tag.false (c.initiator_task_tag.ensures ∙ ap initiator_task_tag frame_is ∙ e));
      tag_is = tag_is;
      body_is = body_is;
    })
    (c.next_stamp.ensures.stamp past s) c.put.ensures.items
