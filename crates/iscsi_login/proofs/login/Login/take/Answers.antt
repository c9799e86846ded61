use Rattle.std.proofs.Common.{ap, refl, sym, ◌∙◌}
use Rattle.iscsi_pdu.specs.Frames.{Frame}
use Rattle.iscsi_pdu.specs.LoginRequest.{is_continued}
use Rattle.iscsi_login.specs.Lookup.{lookup_in}
use Rattle.iscsi_login.specs.LoginState.{LoginState}
use Rattle.iscsi_login.specs.Login.{refused_reply}
use Rattle.iscsi_login.proofs.After.{after_piece, after_kept, after_heard}
use Rattle.iscsi_login.specs.Rules.{pairs_with}
use Rattle.iscsi_login.proofs.Ranges.{range_kept, range_heard, heard_values}
use Rattle.iscsi_login.proofs.Replying.{replies_refused, replies_piece, replies_kept, replies_heard, replies_refused_text}
use Rattle.iscsi_login.proofs.login.Login.take.Goals as goal

pub returns-then-is_due-clause-after : goal.returns-then-is_due-clause-after
returns-then-is_due-clause-after c =
    after_piece c.args.directory.now c.args.self.now c.answer.new.self c.args.request.now c.answer.result
    (sym c.is_due.ensures ∙ c.if-is_due.true) c.answer.ensures.after

pub returns-then-is_continued-clause-after : goal.returns-then-is_continued-clause-after
returns-then-is_continued-clause-after c =
    after_kept c.args.directory.now c.args.self.now c.keep.new.self c.answer-then-is_continued-2.new.self c.args.request.now
    c.answer-then-is_continued-2.result
    (sym c.is_due.ensures ∙ c.if-is_due.false) (ap (λ (frame : Frame). is_continued frame.header) (sym c.request.view_is)
    ∙ sym c.is_continued.ensures ∙ c.if-is_continued.true) c.in_ok-keep.ensures.ok c.answer-then-is_continued-2.ensures.after

pub returns-in-Ok-clause-after : goal.returns-in-Ok-clause-after
returns-in-Ok-clause-after c =
    after_heard c.args.directory.now c.args.self.now c.hear.new.self c.answer-in-Ok.new.self c.args.request.now c.answer-in-Ok.result
    (sym c.is_due.ensures ∙ c.if-is_due.false) (ap (λ (frame : Frame). is_continued frame.header) (sym c.request.view_is)
    ∙ sym c.is_continued.ensures ∙ c.if-is_continued.false) c.in-Ok.ensures.heard c.answer-in-Ok.ensures.after

pub returns-then-is_due-clause-values : goal.returns-then-is_due-clause-values
returns-then-is_due-clause-values c = λ was. range_kept c.args.self.now.values c.args.self.now.values c.answer.new.self.values c.answer.result refl
    c.answer.ensures.values c.answer.ensures.begins was

pub returns-then-is_continued-clause-values : goal.returns-then-is_continued-clause-values
returns-then-is_continued-clause-values c = λ was.
    range_kept c.args.self.now.values c.keep.new.self.values c.answer-then-is_continued-2.new.self.values c.answer-then-is_continued-2.result
    (ap (λ (login : LoginState). login.values) c.in_ok-keep.ensures.ok)
    c.answer-then-is_continued-2.ensures.values c.answer-then-is_continued-2.ensures.begins was

pub returns-in-Ok-clause-values : goal.returns-in-Ok-clause-values
returns-in-Ok-clause-values c = λ was.
    range_heard c.args.self.now.values c.hear.new.self.values c.answer-in-Ok.new.self.values (pairs_with c.args.self.now c.args.request.now)
    c.answer-in-Ok.result
    (heard_values c.args.directory.now c.args.self.now c.hear.new.self c.args.request.now.header
    (pairs_with c.args.self.now c.args.request.now) c.in-Ok.ensures.heard)
    c.answer-in-Ok.ensures.values c.answer-in-Ok.ensures.begins was

pub returns-in-Some-clause-reply : goal.returns-in-Some-clause-reply
returns-in-Some-clause-reply c =
    c.refuse.ensures
    ∙ replies_refused c.args.self.now (lookup_in c.args.directory.now c.args.named.now) c.args.request.now c.in-Some.refusal
    (sym c.refusal_of_request.ensures ∙ c.in-Some.is)

pub returns-then-is_due-clause-reply : goal.returns-then-is_due-clause-reply
returns-then-is_due-clause-reply c =
    c.answer.ensures.reply
    ∙ replies_piece c.args.self.now (lookup_in c.args.directory.now c.args.named.now) c.args.request.now (sym c.refusal_of_request.ensures
    ∙ c.in_default.is) (sym c.is_due.ensures ∙ c.if-is_due.true)

pub returns-then-is_continued-clause-reply : goal.returns-then-is_continued-clause-reply
returns-then-is_continued-clause-reply c =
    c.answer-then-is_continued-2.ensures.reply
    ∙ replies_kept c.args.self.now c.keep.new.self (lookup_in c.args.directory.now c.args.named.now) c.args.request.now
    (sym c.refusal_of_request.ensures ∙ c.in_default.is) (sym c.is_due.ensures ∙ c.if-is_due.false)
    (ap (λ (frame : Frame). is_continued frame.header) (sym c.request.view_is) ∙ sym c.is_continued.ensures ∙ c.if-is_continued.true) c.in_ok-keep.ensures.ok

pub returns-in-Ok-clause-reply : goal.returns-in-Ok-clause-reply
returns-in-Ok-clause-reply c =
    c.answer-in-Ok.ensures.reply
    ∙ replies_heard c.args.self.now c.hear.new.self (lookup_in c.args.directory.now c.args.named.now) c.args.request.now
    (sym c.refusal_of_request.ensures ∙ c.in_default.is) (sym c.is_due.ensures ∙ c.if-is_due.false)
    (ap (λ (frame : Frame). is_continued frame.header) (sym c.request.view_is) ∙ sym c.is_continued.ensures ∙ c.if-is_continued.false)
    c.in-Ok.ensures.accepted c.in-Ok.ensures.heard

pub returns-in-Err-Refused-clause-reply : goal.returns-in-Err-Refused-clause-reply
returns-in-Err-Refused-clause-reply c =
    c.refuse-in-Err-Refused.ensures
    ∙ ap (λ (login : LoginState). refused_reply login c.args.request.now c.in-Err-Refused.refusal) c.in-Err-Refused.ensures.err
    ∙ replies_refused_text c.args.self.now (lookup_in c.args.directory.now c.args.named.now) c.args.request.now c.in-Err-Refused.refusal
    (sym c.refusal_of_request.ensures ∙ c.in_default.is) (sym c.is_due.ensures ∙ c.if-is_due.false)
    (ap (λ (frame : Frame). is_continued frame.header) (sym c.request.view_is) ∙ sym c.is_continued.ensures ∙ c.if-is_continued.false)
    (rw c.in-Err-Refused.field-0-is at c.in-Err-Refused.ensures.refused)
