use Rattle.std.proofs.Common.{sym, ◌∙◌, arith}
use Rattle.std.proofs.lemmas.Slice.Eq.{bytes_eq-Decides}
use Rattle.media_block.proofs.Differences.{first_difference-same}
use Rattle.std.proofs.lemmas.Grind.{common_steps}
use Rattle.media_block.proofs.difference.difference.Goals as goal

pub returns-then-eq-clause-least : goal.returns-then-eq-clause-least
returns-then-eq-clause-least c =
    let same = (bytes_eq-Decides c.args.held.now c.args.bytes.now).0 (sym c.eq.ensures ∙ c.if-eq.true) in
    rw same (sym (first_difference-same c.args.bytes.now))

pub loop-at-preserved : goal.loop-at-preserved
loop-at-preserved = grind (arith, common_steps)

pub returns : goal.returns
returns = grind (arith, common_steps)

pub returns-then-held-at : goal.returns-then-held-at
returns-then-held-at = grind (arith, common_steps)

pub returns-then-eq-clause-within : goal.returns-then-eq-clause-within
returns-then-eq-clause-within = grind (arith, common_steps)
