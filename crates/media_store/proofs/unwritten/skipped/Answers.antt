use Rattle.std.proofs.Common.{◌+◌, length, arith, ◌∙◌, ◌≤◌}
use Rattle.std.proofs.lemmas.List.{length-append}
use Rattle.media_store.proofs.BySlice.{drop-first}
use Rattle.std.proofs.lemmas.Grind.{common_steps}
use Rattle.media_store.proofs.unwritten.skipped.Goals as goal

pub loop-left-preserved : goal.loop-left-preserved
loop-left-preserved c =
    let left = c.loop-left.left in
    let front = c.loop-left.front.now in
    let more = c.loop-left.more in
    let joined = c.split_front.ensures.joined in
    let within : left ≤ length front + length more = simp length-append at c.loop-left.invariant.within in
    record {
      within = rw (← joined) (omega (arith, within));
      some = λ some. c.split_front.ensures.some (omega (arith, within, some));
      any = λ _ some. c.split_front.ensures.some (omega (arith, (rw (← joined) at some)));
      rest = rw (← joined) (drop-first left front more (omega arith) ∙ c.loop-left.invariant.rest);
    }

pub returns : goal.returns
returns = grind (arith, common_steps)
