use Rattle.std.proofs.Common.{◌≡◌, ◌∙◌, Some, sym, ap, string_bytes}
use Rattle.std.specs.Prelude.{option_map}
use Rattle.iscsi_target.specs.Events.{event_view}
use Rattle.target_replay.specs.Reply.{event_in}
use Rattle.target_replay.proofs.Comings.{is_back}
use Rattle.target_replay.proofs.Replies.{other_form, refused, replied}
use Rattle.target_replay.proofs.reply.reply.Goals as goal

pub returns-in_default-clause-reply : goal.returns-in_default-clause-reply
returns-in_default-clause-reply g c = λ kind is s h stands. other_form s h c.args.bytes.now (sym c.in_ok-event.ensures.event
    ∙ ap (option_map event_view) c.in_default.is)

pub returns-in-Ok-true-clause-reply : goal.returns-in-Ok-true-clause-reply
returns-in-Ok-true-clause-reply g c = λ kind is s h stands.
    (let event : event_in c.args.bytes.now ≡ Some (event_view c.in-Some.event) = sym c.in_ok-event.ensures.event ∙ ap (option_map event_view) c.in-Some.is in
    replied kind s h c.args.bytes.now (string_bytes c.in_ok-print-in-Ok-true.field-0) (event_view c.in-Some.event) c.act.new.target c.print.new.target event
    (sym (c.in-Ok-true.ensures.allowed s h stands) ∙ c.in-Ok-true.field-0-test)
    (c.in-Ok-true.ensures.acted c.in-Ok-true.field-0-test kind (is_back kind c.act.new.target c.print.new.target c.print.ensures.each is) s h stands)
    c.print.ensures.each c.in_ok-print-in-Ok-true.ensures.prints)

pub returns-in-Ok-false-clause-reply : goal.returns-in-Ok-false-clause-reply
returns-in-Ok-false-clause-reply g c = λ kind is s h stands.
    (let event : event_in c.args.bytes.now ≡ Some (event_view c.in-Some.event) = sym c.in_ok-event.ensures.event ∙ ap (option_map event_view) c.in-Some.is in
    refused s h c.args.bytes.now (event_view c.in-Some.event) event (sym (c.in-Ok-false.ensures.allowed s h stands) ∙ c.in-Ok-false.field-0-test))

pub returns-in-Ok-true-clause-each : goal.returns-in-Ok-true-clause-each
returns-in-Ok-true-clause-each g c = λ target sound. c.act.ensures.each target (c.print.ensures.each target sound)

pub returns-in-Ok-true-clause-sure : goal.returns-in-Ok-true-clause-sure
returns-in-Ok-true-clause-sure g c = λ sure. c.print.ensures.sure (c.act.ensures.sure sure)

pub returns-in-Ok-false-clause-each : goal.returns-in-Ok-false-clause-each
returns-in-Ok-false-clause-each g c = c.act.ensures.each

pub returns-in-Ok-false-clause-sure : goal.returns-in-Ok-false-clause-sure
returns-in-Ok-false-clause-sure g c = c.act.ensures.sure

pub returns-in_err-print-in-Ok-true-clause-each : goal.returns-in_err-print-in-Ok-true-clause-each
returns-in_err-print-in-Ok-true-clause-each g c = λ target sound. c.act.ensures.each target (c.print.ensures.each target sound)

pub returns-in_err-print-in-Ok-true-clause-sure : goal.returns-in_err-print-in-Ok-true-clause-sure
returns-in_err-print-in-Ok-true-clause-sure g c = λ sure. c.print.ensures.sure (c.act.ensures.sure sure)

pub returns-clause-each : goal.returns-clause-each
returns-clause-each g c = c.act.ensures.each

pub returns-clause-sure : goal.returns-clause-sure
returns-clause-sure g c = c.act.ensures.sure
