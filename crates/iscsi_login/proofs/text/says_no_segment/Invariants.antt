use Rattle.std.proofs.Common.{◌≡◌, drop}
use Rattle.std.specs.List.{list_any}
use Rattle.iscsi_login.specs.Rules.{is_segment_refused}
use Rattle.iscsi_login.proofs.text.says_no_segment.Given as goal

-- what is left decides
abbrev pub invariant-loop-at : goal.invariant-loop-at
invariant-loop-at l = list_any is_segment_refused l.pairs ≡ list_any is_segment_refused (drop l.at l.pairs)
