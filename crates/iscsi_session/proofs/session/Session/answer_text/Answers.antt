use Rattle.std.proofs.Common.{◌≡◌, ◌∷◌, List, ℕ, drop, true, ap, subst, ◌∙◌, arith}
use Rattle.iscsi_pdu.specs.Frames.{Frame}
use Rattle.iscsi_exchange.specs.Exchange.{hears}
use Rattle.iscsi_requests.specs.Requests.{Past, frame_of, frames_of, due}
use Rattle.iscsi_requests.specs.Texts.{is_text}
use Rattle.iscsi_session.specs.Runs.{ActsAs, output}
use Rattle.iscsi_requests.specs.State.{SessionState, Stands, standing}
use Rattle.iscsi_requests.proofs.Heads.{same_head}
use Rattle.iscsi_session.proofs.Answered.{seen, first_due, some_due, stands_other_kind, text_no_command}
use Rattle.iscsi_session.proofs.session.Session.answer_text.Goals as goal
use Rattle.std.proofs.lemmas.Grind.{common_steps}

pub returns-in_default-clause-acts : goal.returns-in_default-clause-acts
returns-in_default-clause-acts c luns past k rest s is e orders =
    absurd (some_due past _ k rest (seen c.self.view_is s) is c.in_default.ensures.none)

-- the first request that is due is this one
abbrev IsHere : (inside now : SessionState) (frame : Frame) → Type 0
IsHere inside now frame = (past : Past) (k : ℕ) (rest : List ℕ) → inside ≡ now → Stands past now → due past ≡ k ∷ rest → is_text (frame_of past.came k) ≡ true
    → inside.tasks.due ≡ frame ∷ drop 1 inside.tasks.due → frame ≡ frame_of past.came k

here : (inside now : SessionState) (frame : Frame) → IsHere inside now frame
here inside now frame past k rest same s is e some =
    let known = seen same s in
    same_head frame (frame_of (standing past) k) _ (frames_of (standing past) rest) _ some (first_due past _ k rest known is)
    ∙ stands_other_kind past _ k rest known is (text_no_command (frame_of past.came k) e)

pub returns-in-Some-text_on-clause-acts : goal.returns-in-Some-text_on-clause-acts
returns-in-Some-text_on-clause-acts c luns past k rest s is e orders =
    let known = seen c.self.view_is s in
    let at = here _ _ c.in-Some.frame.now past k rest c.self.view_is s is e c.in-Some.ensures.some in
    let told = c.in_ok-piece.ensures.told ∙ ap (λ (f : Frame). hears c.self.inside.exchange f c.self.inside.params) at in
    subst (λ (bytes : List ℕ). ActsAs luns k past c.answer_told.result c.answer_told.new.self (output bytes orders) (output c.answer_told.new.out.items orders))
    c.in_ok-reserve.ensures.items (c.answer_told.ensures.acts luns past k rest c.self.inside.exchange known is e told orders)

pub returns-clause-acts : goal.returns-clause-acts
returns-clause-acts c luns past k rest s is e orders =
    let known = seen c.self.view_is s in
    let at = here _ _ c.in-Some.frame.now past k rest c.self.view_is s is e c.in-Some.ensures.some in
    let told = c.told.view_is ∙ c.in_ok-told.ensures.told ∙ ap (λ (f : Frame). hears c.self.inside.exchange f c.self.inside.params) at in
    subst (λ (bytes : List ℕ). ActsAs luns k past c.answer_told-2.result c.answer_told-2.new.self (output bytes orders) (output c.answer_told-2.new.out.items orders))
    c.in_ok-reserve-2.ensures.items (c.answer_told-2.ensures.acts luns past k rest c.self.inside.exchange known is e told orders)

pub answer_told-requires-clause-room : goal.answer_told-requires-clause-room
answer_told-requires-clause-room c = grind (arith, common_steps)
