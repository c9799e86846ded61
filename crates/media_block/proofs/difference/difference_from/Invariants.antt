use Rattle.std.proofs.Common.{◌≡◌, ◌<◌, ◌≤◌, ◌-◌, ◌++◌, length, drop}
use Rattle.media_block.proofs.Differences.{AreSame}
use Rattle.media_block.proofs.difference.difference_from.Given as goal

abbrev pub invariant-loop-done : goal.invariant-loop-done
invariant-loop-done l = record {
  below : l.done ≤ length l.held;
  lies : l.done < length l.held → (l.front ++ l.behind ≡ drop l.done l.«data») × (0 < length l.front);
  same : AreSame 0 l.done l.held l.«data»;
}

abbrev pub decreases-loop-done : goal.decreases-loop-done
decreases-loop-done l = length l.held - l.done
