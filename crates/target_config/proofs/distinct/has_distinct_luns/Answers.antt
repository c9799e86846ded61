use Rattle.std.proofs.Common.{sym, ◌∙◌}
use Rattle.target_config.proofs.Lists.{lun_repeats, lun_differs}
use Rattle.target_config.proofs.distinct.has_distinct_luns.Goals as goal

pub returns-then-has_twin : goal.returns-then-has_twin
returns-then-has_twin c =
    let repeats = lun_repeats c.as_slice-units.result.now c.loop-i.i c.index-units-i.result c.loop-i-test.true c.index-units-i.is
    (sym c.has_twin.ensures ∙ c.if-has_twin.true) in
    rw (← c.as_slice-units.ensures.value) (sym (c.loop-i.invariant ∙ repeats))

pub loop-i-preserved : goal.loop-i-preserved
loop-i-preserved c =
    c.loop-i.invariant ∙ lun_differs c.as_slice-units.result.now c.loop-i.i c.index-units-i.result c.loop-i-test.true c.index-units-i.is
    (sym c.has_twin.ensures ∙ c.if-has_twin.false)
