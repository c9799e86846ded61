use Rattle.std.proofs.Common.{rules}
use Rattle.scsi_unit.specs.Checks.{judged}
use Rattle.scsi_unit.proofs.unit.Unit.judge.Goals as goal

pub returns-in-Some-unready-clause-judged : goal.returns-in-Some-unready-clause-judged
unfolding judged
returns-in-Some-unready-clause-judged g c = search rules

pub returns-in-Err-clause-judged : goal.returns-in-Err-clause-judged
unfolding judged
returns-in-Err-clause-judged g c = search rules

pub returns-then-not-has_range-clause-judged : goal.returns-then-not-has_range-clause-judged
unfolding judged
returns-then-not-has_range-clause-judged g c = search rules
