use Rattle.std.proofs.Common.{sym, ◌∙◌}
use Rattle.target_config.proofs.Lists.{name_repeats, name_differs}
use Rattle.target_config.proofs.distinct.have_distinct_names.Goals as goal

pub returns-then-has_namesake : goal.returns-then-has_namesake
returns-then-has_namesake c =
    sym (c.loop-i.invariant ∙ name_repeats c.args.targets.now c.loop-i.i c.index-targets-i.result c.loop-i-test.true c.index-targets-i.is
    (sym c.has_namesake.ensures ∙ c.if-has_namesake.true))

pub loop-i-preserved : goal.loop-i-preserved
loop-i-preserved c =
    c.loop-i.invariant ∙ name_differs c.args.targets.now c.loop-i.i c.index-targets-i.result c.loop-i-test.true c.index-targets-i.is
    (sym c.has_namesake.ensures ∙ c.if-has_namesake.false)
