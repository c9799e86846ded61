use Rattle.std.proofs.Common.{◌≡◌, sym, ◌∙◌}
use Rattle.target_config.proofs.Files.{files_repeat, files_differ}
use Rattle.target_config.proofs.Lists.{behind}
use Rattle.target_config.specs.Configuration.{units_view, targets_view}
use Rattle.target_config.specs.Distinct.{is_distinct_before, shares_file, units_in}
use Rattle.target_config.proofs.distinct.have_distinct_files.Goals as goal

pub returns-then-not-is_apart : goal.returns-then-not-is_apart
returns-then-not-is_apart c =
    let apart : c.is_apart.result ≡ is_distinct_before shares_file (units_view c.index-targets-i.result.units.items)
    (units_in (targets_view (behind c.loop-i.i c.args.targets.now))) = rw (← c.as_slice.ensures.value) c.is_apart.ensures in
    sym (c.loop-i.invariant ∙ files_repeat c.args.targets.now c.loop-i.i c.index-targets-i.result c.loop-i-test.true c.index-targets-i.is (sym apart
    ∙ c.if-not-is_apart.true))

pub loop-i-preserved : goal.loop-i-preserved
loop-i-preserved c =
    let apart : c.is_apart.result ≡ is_distinct_before shares_file (units_view c.index-targets-i.result.units.items)
    (units_in (targets_view (behind c.loop-i.i c.args.targets.now))) = rw (← c.as_slice.ensures.value) c.is_apart.ensures in
    c.loop-i.invariant ∙ files_differ c.args.targets.now c.loop-i.i c.index-targets-i.result c.loop-i-test.true c.index-targets-i.is (sym apart
    ∙ c.if-not-is_apart.false)
