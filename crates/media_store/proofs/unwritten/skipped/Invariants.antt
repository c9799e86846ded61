use Rattle.std.proofs.Common.{◌≡◌, ◌<◌, ◌≤◌, ◌++◌, length, drop}
use Rattle.media_store.proofs.unwritten.skipped.Given as goal

abbrev pub invariant-loop-left : goal.invariant-loop-left
invariant-loop-left l = record {
  within : l.left ≤ length (l.front ++ l.more);
  some : 0 < l.left → 0 < length l.front;
  any : 0 < length l.bytes → l.left < length (l.front ++ l.more) → 0 < length l.front;
  rest : drop l.left (l.front ++ l.more) ≡ drop l.n (l.bytes ++ l.initial.more);
}

abbrev pub decreases-loop-left : goal.decreases-loop-left
decreases-loop-left l = l.left
