use Rattle.std.proofs.Common.{◌++◌, [], ◌∷◌, refl, sym, ap, subst, ◌∙◌}
use Rattle.iscsi_pdu.specs.Answer.{spelling}
use Rattle.iscsi_pdu.specs.declared.stamp.Stamp.{Stamp}
use Rattle.iscsi_exchange.specs.Exchange.{ToldState, hears}
use Rattle.iscsi_requests.specs.Requests.{frame_of, moved, stamp}
use Rattle.iscsi_requests.specs.Texts.{text_answer}
use Rattle.iscsi_requests.specs.State.{SessionState, Stands}
use Rattle.iscsi_session.proofs.Parts.{text_kind}
use Rattle.iscsi_session.proofs.Answered.{text_here, text_same, text_bears, goes_on_act, some_due, one_spelled, acts_plain, text_no_function}
use Rattle.iscsi_session.proofs.session.Session.answer_told.Goals as goal

pub returns-in_default-clause-acts : goal.returns-in_default-clause-acts
returns-in_default-clause-acts c luns past k rest before s is e heard orders =
    let known = subst (λ (x : SessionState). Stands past (record x { exchange = before })) (sym c.self.view_is) s in
    absurd (some_due past _ k rest known is c.in_default.ensures.none)

pub returns-clause-acts : goal.returns-clause-acts
returns-clause-acts c luns past k rest before s is e heard orders =
    let known = subst (λ (x : SessionState). Stands past (record x { exchange = before })) (sym c.self.view_is) s in
    let given : ToldState = record { exchange = c.self.inside.exchange; piece = c.args.piece.now } in
    let told = ap (λ (x : SessionState). record { exchange = x.exchange; piece = c.args.piece.now }) c.self.view_is ∙ heard
    ∙ ap (λ (x : SessionState). hears before (frame_of past.came k) x.params) (sym c.self.view_is) in
    let t = text_here past _ k rest known is c.in-Some.frame _ given e c.in-Some.ensures.some c.in-Some.ensures.same told in
    let answers = text_answer (stamp (moved k past)) given.piece c.in-Some.frame ∷ [] in
    acts_plain luns k past answers _ _ _ _ orders (text_no_function (frame_of past.came k) e) (text_same luns k past c.in-Some.frame given t.0 t.1 e)
    (goes_on_act k past (text_kind (frame_of past.came k) e) refl)
    (c.next_stamp-stamp.ensures.stands (moved k past) answers t.2 (text_bears (stamp (moved k past)) given.piece c.in-Some.frame))
    (c.put_told.ensures ∙ ap (λ (x : Stamp). c.args.out.now.items ++ spelling (text_answer x given.piece c.in-Some.frame))
    (c.next_stamp-stamp.ensures.stamp (moved k past) t.2) ∙ one_spelled c.args.out.now.items _ _ refl)
