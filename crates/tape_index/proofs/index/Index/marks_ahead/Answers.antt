use Rattle.std.proofs.Common.{◌≡◌, ◌+◌, ◌-◌, ◌^◌, ◌<◌, length, max, min, ap, ◌∙◌, arith}
use Rattle.tape_index.specs.Runs.{run_before}
use Rattle.tape_index.specs.declared.run.Run.{Run}
use Rattle.tape_index.proofs.Runs.{are_all, has_run}
use Rattle.tape_index.proofs.Marks.{past_on, past_back, marks_end_after, marks_begin_before, marks_on, marks_back}
use Rattle.tape_index.proofs.index.Index.marks_ahead.Goals as goal

pub run_of-requires : goal.run_of-requires
run_of-requires c =
    let within = rw (← c.self.view_is) at c.requires in
    let count = rw (← c.self.view_is) at c.count-count.ensures in
    let all = are_all c.self.inside.runs.items c.self.invariant in
    rw c.deref-in-Forward.ensures.value (omega (arith, within, count, all.count))

pub run_of-requires-in-Backward : goal.run_of-requires-in-Backward
run_of-requires-in-Backward c =
    let within = rw (← c.self.view_is) at c.requires in
    let all = are_all c.self.inside.runs.items c.self.invariant in
    rw c.deref-in-Backward-2.ensures.value (omega (arith, within, all.count))

pub returns-then-run-len-clause-past : goal.returns-then-run-len-clause-past
returns-then-run-len-clause-past c =
    let runs = c.self.inside.runs.items in
    let found = rw c.deref-in-Forward.ensures.value at c.run_of.ensures in
    let marks = rw c.deref.ensures.value at c.marks_from-run.ensures in
    let within = rw (← c.self.view_is) at c.requires in
    let count = rw (← c.self.view_is) at c.count-count.ensures in
    let all = are_all runs c.self.invariant in
    let last : c.marks_from-run.result ≡ length runs = omega (arith, c.if-run-len.true, c.len.ensures) in
    rw (c.in-Forward.is, ← c.self.view_is)
    (past_on runs c.args.at c.run_of.result c.marks_from-run.result c.count-count.result c.self.invariant found.within
    found.from found.to marks.from marks.within marks.records marks.mark
    (omega (arith, count, all.count, within, ap (λ k. (run_before runs k).count) last)))

pub overflow_sub-many : goal.overflow_sub-many
overflow_sub-many c =
    let runs = c.self.inside.runs.items in
    let run = c.marks_from-run.result in
    let found = rw c.deref-in-Forward.ensures.value at c.run_of.ensures in
    let marks = rw c.deref.ensures.value at c.marks_from-run.ensures in
    let first = rw c.deref-in-Forward-2.ensures.value at c.run_before.ensures in
    let start = c.max-start.ensures ∙ ap (λ (run : Run). max run.count c.args.at) first in
    let last = rw c.deref-in-Forward-3.ensures.value at c.run_before-in-Forward.ensures in
    let next = ap (λ (run : Run). run.count) last in
    let less : run < length runs = omega (arith, marks.within, c.if-run-len.false, c.len.ensures) in
    let high = marks_end_after runs c.args.at c.run_of.result run c.self.invariant found.from found.to marks.from less
    marks.records in
    omega (arith, start, next, high, (has_run runs run c.self.invariant less).follows.some)

pub returns-else-run-len : goal.returns-else-run-len
returns-else-run-len c =
    let runs = c.self.inside.runs.items in
    let run = c.marks_from-run.result in
    let found = rw c.deref-in-Forward.ensures.value at c.run_of.ensures in
    let marks = rw c.deref.ensures.value at c.marks_from-run.ensures in
    let first = rw c.deref-in-Forward-2.ensures.value at c.run_before.ensures in
    let start = c.max-start.ensures ∙ ap (λ (run : Run). max run.count c.args.at) first in
    let last = rw c.deref-in-Forward-3.ensures.value at c.run_before-in-Forward.ensures in
    let next = ap (λ (run : Run). run.count) last in
    let less : run < length runs = omega (arith, marks.within, c.if-run-len.false, c.len.ensures) in
    let high = marks_end_after runs c.args.at c.run_of.result run c.self.invariant found.from found.to marks.from less
    marks.records in
    let fits : (run_before runs (run + 1)).count < 2 ^ 64 = omega (arith, next) in
    rw (c.in-Forward.is, ← c.self.view_is, next) (record {
      past = past_on runs c.args.at c.run_of.result run c.max-start.result c.self.invariant found.within found.from found.to
          marks.from marks.within marks.records marks.mark start;
      ahead = marks_on runs run c.args.at c.max-start.result _ c.self.invariant less (marks.mark less) fits high start;
    })

pub returns-then-runs-eq0-clause-past : goal.returns-then-runs-eq0-clause-past
returns-then-runs-eq0-clause-past c =
    let runs = c.self.inside.runs.items in
    let found = rw c.deref-in-Backward-2.ensures.value at c.run_of-in-Backward.ensures in
    let marks = rw c.deref-in-Backward.ensures.value at c.marks_before-runs.ensures in
    rw (c.in-Backward.is, ← c.self.view_is)
    (past_back runs c.args.at c.run_of-in-Backward.result c.marks_before-runs.result 0 c.self.invariant
    found.within (omega arith) found.from found.to marks.within marks.records marks.mark
    (omega (arith, ap (λ k. (run_before runs k).count) c.if-runs-eq0.true)))

pub overflow_sub-many-in-Backward : goal.overflow_sub-many-in-Backward
overflow_sub-many-in-Backward c =
    let runs = c.self.inside.runs.items in
    let many = c.marks_before-runs.result in
    let found = rw c.deref-in-Backward-2.ensures.value at c.run_of-in-Backward.ensures in
    let marks = rw c.deref-in-Backward.ensures.value at c.marks_before-runs.ensures in
    let last = rw c.deref-in-Backward-3.ensures.value at c.run_before-in-Backward.ensures in
    let start = c.min-start.ensures ∙ ap (λ (run : Run). min run.count c.args.at) last in
    let before = rw c.deref-in-Backward-4.ensures.value at c.run_before-in-Backward-2.ensures in
    let first = ap (λ (run : Run). run.count) before in
    let low = marks_begin_before runs c.args.at c.run_of-in-Backward.result many c.self.invariant found.within (omega arith)
    found.from found.to marks.within (omega arith) marks.records in
    let there : many - 1 + 1 ≡ many = omega arith in
    let longer = (has_run runs (many - 1) c.self.invariant (omega (arith, marks.within, found.within))).follows.some in
    omega (arith, start, first, low, longer, ap (λ k. (run_before runs k).count) there)

pub returns-else-runs-eq0 : goal.returns-else-runs-eq0
returns-else-runs-eq0 c =
    let runs = c.self.inside.runs.items in
    let many = c.marks_before-runs.result in
    let found = rw c.deref-in-Backward-2.ensures.value at c.run_of-in-Backward.ensures in
    let marks = rw c.deref-in-Backward.ensures.value at c.marks_before-runs.ensures in
    let last = rw c.deref-in-Backward-3.ensures.value at c.run_before-in-Backward.ensures in
    let start = c.min-start.ensures ∙ ap (λ (run : Run). min run.count c.args.at) last in
    let before = rw c.deref-in-Backward-4.ensures.value at c.run_before-in-Backward-2.ensures in
    let first = ap (λ (run : Run). run.count) before in
    let low = marks_begin_before runs c.args.at c.run_of-in-Backward.result many c.self.invariant found.within (omega arith)
    found.from found.to marks.within (omega arith) marks.records in
    let within = rw (← c.self.view_is) at c.requires in
    rw (c.in-Backward.is, ← c.self.view_is, first) (record {
      past = past_back runs c.args.at c.run_of-in-Backward.result many c.min-start.result c.self.invariant
          found.within (omega arith) found.from found.to marks.within marks.records marks.mark start;
      ahead = marks_back runs many c.args.at c.min-start.result _ c.self.invariant (omega arith)
          (omega (arith, marks.within, found.within)) within (marks.mark (omega arith)) low start;
    })
