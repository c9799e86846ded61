use Rattle.std.proofs.Common.{rules}
use Rattle.target_replay.specs.Engine.{Progress}
use Rattle.target_replay.proofs.Taking.{line_ends, line_refused, line_fails}
use Rattle.target_replay.proofs.engine.Engine.end_line.Goals as goal

pub returns-clause-fails : goal.returns-clause-fails
returns-clause-fails g c =
    let old : Progress = record {
      target = c.self.inside.target;
      pending = c.self.inside.pending.items;
      number = c.self.inside.number;
      one_line = c.self.inside.one_line;
    } in
    rw (← c.self.view_is)
    (line_fails c.print_all.result old c.reply.new.target c.as_bytes.result.now _ _
    (rw c.as_bytes.ensures.value
    (λ kind is s h stands. rw (c.in-Some.is, c.as_slice.ensures.value) at (c.in_ok-text.ensures.reply kind is s h stands))) c.print_all.ensures.part c.print_all.ensures.fault)

pub returns-clause-reply : goal.returns-clause-reply
returns-clause-reply g c =
    let old : Progress = record {
      target = c.self.inside.target;
      pending = c.self.inside.pending.items;
      number = c.self.inside.number;
      one_line = c.self.inside.one_line;
    } in
    rw (← c.self.view_is)
    (line_ends c.print_all.result old c.reply.new.target c.as_bytes.result.now _ _
    (rw c.as_bytes.ensures.value
    (λ kind is s h stands. rw (c.in-Some.is, c.as_slice.ensures.value) at (c.in_ok-text.ensures.reply kind is s h stands))) c.print_all.ensures.whole)

pub returns-in_default-clause-fails : goal.returns-in_default-clause-fails
returns-in_default-clause-fails g c =
    let old : Progress = record {
      target = c.self.inside.target;
      pending = c.self.inside.pending.items;
      number = c.self.inside.number;
      one_line = c.self.inside.one_line;
    } in
    rw (← c.self.view_is)
    (line_refused old c.reply.new.target _ _
    (λ kind is s h stands. rw (c.in_default.is, c.as_slice.ensures.value) at (c.in_ok-text.ensures.reply kind is s h stands)) (search rules))

pub returns-in_err-text-clause-each : goal.returns-in_err-text-clause-each
returns-in_err-text-clause-each g c = rw (← c.self.view_is) c.reply.ensures.each

pub returns-in_default-clause-each : goal.returns-in_default-clause-each
returns-in_default-clause-each g c = rw (← c.self.view_is) c.reply.ensures.each

pub returns-clause-each : goal.returns-clause-each
returns-clause-each g c = rw (← c.self.view_is) c.reply.ensures.each

pub returns-in_err-text-clause-sure : goal.returns-in_err-text-clause-sure
returns-in_err-text-clause-sure g c = rw (← c.self.view_is) c.reply.ensures.sure

pub returns-in_default-clause-sure : goal.returns-in_default-clause-sure
returns-in_default-clause-sure g c = rw (← c.self.view_is) c.reply.ensures.sure

pub returns-clause-sure : goal.returns-clause-sure
returns-clause-sure g c = rw (← c.self.view_is) c.reply.ensures.sure
