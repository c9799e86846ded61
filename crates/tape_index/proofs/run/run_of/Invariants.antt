use Rattle.std.proofs.Common.{◌-◌, ◌≤◌, ◌<◌, length}
use Rattle.tape_index.specs.Runs.{run_before}
use Rattle.tape_index.proofs.run.run_of.Given as goal

abbrev pub invariant-loop-high : goal.invariant-loop-high
invariant-loop-high l = record {
  within : l.high ≤ length l.runs;
  from : (run_before l.runs l.low).count ≤ l.number;
  to : l.number < (run_before l.runs l.high).count;
  apart : l.low < l.high;
}

abbrev pub decreases-loop-high : goal.decreases-loop-high
decreases-loop-high l = l.high - l.low
