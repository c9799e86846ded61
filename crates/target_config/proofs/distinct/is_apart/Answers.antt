use Rattle.std.proofs.Common.{sym, ◌∙◌}
use Rattle.target_config.proofs.Files.{file_repeats, file_repeats_behind, file_differs}
use Rattle.target_config.specs.Configuration.{targets_view}
use Rattle.target_config.specs.Distinct.{units_in}
use Rattle.target_config.proofs.distinct.is_apart.Goals as goal
use Rattle.target_config.proofs.distinct.is_apart.Goals.{then-has_file_of-via-then-has_file_of, then-has_file_of-via-else-has_file_of+then-have_file_of}

pub returns-then-has_file_of : goal.returns-then-has_file_of
returns-then-has_file_of c =
    sym
    (c.loop-i.invariant
    ∙ elim c.then-has_file_of.branch [
      | then-has_file_of-via-then-has_file_of w ↦ file_repeats c.args.units.now (units_in (targets_view c.args.behind.now)) c.loop-i.i
          c.index-units-i.result c.loop-i-test.true c.index-units-i.is (sym c.has_file_of.ensures ∙ w.if-has_file_of.true)
      | then-has_file_of-via-else-has_file_of+then-have_file_of w ↦ file_repeats_behind c.args.units.now c.args.behind.now c.loop-i.i
          c.index-units-i.result c.loop-i-test.true c.index-units-i.is (sym w.have_file_of.ensures ∙ w.if-have_file_of.true)
    ])

pub loop-i-preserved : goal.loop-i-preserved
loop-i-preserved c =
    c.loop-i.invariant
    ∙ file_differs c.args.units.now c.args.behind.now c.loop-i.i c.index-units-i.result c.loop-i-test.true c.index-units-i.is
    (sym c.has_file_of.ensures ∙ c.if-has_file_of.false) (sym c.have_file_of.ensures ∙ c.if-have_file_of.false)
