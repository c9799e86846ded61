use Rattle.std.proofs.Common.{sym, ◌∙◌, arith}
use Rattle.iscsi_serve.specs.Turn.{Writes}
use Rattle.iscsi_serve.proofs.Closing.{none_first, none_next}
use Rattle.iscsi_serve.proofs.Keeping.{none_does, one_more_does}
use Rattle.iscsi_serve.proofs.Passing.{silent_does, silent_none, either_not}
use Rattle.iscsi_serve.proofs.serving.write_all.Goals as goal

pub loop-c-init : goal.loop-c-init
loop-c-init g c = record {
  does = none_does Writes _ _ _ _;
  due = λ none. none_first c.args.ended.now c.args.target.now;
  none = λ none d behind below. c.any_ended-has_closes.ensures none d below;
  within = omega arith;
}

pub loop-c-preserved : goal.loop-c-preserved
loop-c-preserved g c =
    let found = c.in-Some.ensures.found in
    let k = c.in-Some.c in
    let was = c.loop-c.invariant in
    let after = c.write_one-closes.new in
    record {
      does = one_more_does Writes k _ _ _ _ _ _ _ _ _ _ _ _
          (silent_does c.loop-c.from k _ _ _ _ _ c.loop-c.target _ _ found.0 c.in-Some.ensures.before was.does) c.write_one-closes.ensures.does;
      due = λ neither.
          none_next c.loop-c.has_closes c.write_one-closes.result k c.loop-c.target after.target c.loop-c.ended after.ended
          (λ so_far. silent_none c.loop-c.from k c.loop-c.ended c.loop-c.target
          (λ d behind below. was.none so_far d behind (omega (arith, below, found.1))) c.in-Some.ensures.before (was.due so_far))
          c.write_one-closes.ensures.others c.write_one-closes.ensures.due (sym c.either-has_closes.ensures ∙ neither);
      none = λ neither d behind below.
          (let others = c.write_one-closes.ensures.others d (omega (arith, behind)) in
          others.1 ∙ was.none (either_not c.loop-c.has_closes c.write_one-closes.result (sym c.either-has_closes.ensures ∙ neither)) d
          (omega (arith, behind, found.0)) below);
      within = omega (arith, found.1);
    }

pub loop-c-smaller : goal.loop-c-smaller
loop-c-smaller g c = (let found = c.in-Some.ensures.found in omega (arith, found.0, found.1))

pub returns-clause-does : goal.returns-clause-does
returns-clause-does g c =
    silent_does c.loop-c.from 64 _ _ _ _ _ c.loop-c.target _ _ c.loop-c.invariant.within c.in_default.ensures.none c.loop-c.invariant.does

pub returns-clause-due : goal.returns-clause-due
returns-clause-due g c = λ none.
    silent_none c.loop-c.from 64 c.loop-c.ended c.loop-c.target (c.loop-c.invariant.none none) c.in_default.ensures.none (c.loop-c.invariant.due none)
