use Rattle.std.proofs.Common.{◌-◌, ◌≤◌, length}
use Rattle.tape_index.specs.Runs.{AreRecords}
use Rattle.tape_index.proofs.run.marks_from.Given as goal

abbrev pub invariant-loop-run : goal.invariant-loop-run
invariant-loop-run l = record {
  from : l.from ≤ l.run;
  within : l.run ≤ length l.runs;
  records : AreRecords l.runs l.from l.run;
}

abbrev pub decreases-loop-run : goal.decreases-loop-run
decreases-loop-run l = length l.runs - l.run
