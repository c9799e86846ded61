use Rattle.std.proofs.Common.{◌≤◌}
use Rattle.tape_index.specs.Runs.{AreRecords}
use Rattle.tape_index.proofs.run.marks_before.Given as goal

abbrev pub invariant-loop-run : goal.invariant-loop-run
invariant-loop-run l = record {
  within : l.run ≤ l.many;
  records : AreRecords l.runs l.run l.many;
}

abbrev pub decreases-loop-run : goal.decreases-loop-run
decreases-loop-run l = l.run
