use Rattle.std.proofs.Common.{sym, ◌∙◌}
use Rattle.iscsi_login.specs.Rules.{is_segment_refused}
use Rattle.iscsi_login.proofs.Lists.{list_any_ends, list_any_goes_on}
use Rattle.iscsi_login.proofs.text.says_no_segment.Goals as goal

pub returns-then-is_segment_refused : goal.returns-then-is_segment_refused
returns-then-is_segment_refused c =
    list_any_ends is_segment_refused c.args.pairs.now c.loop-at.at _ c.pair.ensures (sym c.is_segment_refused.ensures
    ∙ c.if-is_segment_refused.true) c.loop-at.invariant

pub loop-at-preserved : goal.loop-at-preserved
loop-at-preserved c =
    list_any_goes_on is_segment_refused c.args.pairs.now c.loop-at.at _ c.pair.ensures (sym c.is_segment_refused.ensures
    ∙ c.if-is_segment_refused.false) c.loop-at.invariant
