use Rattle.std.proofs.Common.{◌≡◌, ◌≤◌, ◌-◌, ◌++◌, length, take, drop}
use Rattle.media_block.proofs.filling.fill.Given as goal

abbrev pub invariant-loop-done : goal.invariant-loop-done
invariant-loop-done l = record {
  below : l.done ≤ length l.initial.room;
  long : length l.room ≡ length l.initial.room;
  lies : l.front ++ l.behind ≡ drop l.done (l.initial.front ++ l.initial.behind);
  filled : take l.done l.room ≡ take l.done (l.initial.front ++ l.initial.behind);
}

abbrev pub decreases-loop-done : goal.decreases-loop-done
decreases-loop-done l = length l.room - l.done
