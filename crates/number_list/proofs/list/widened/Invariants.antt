use Rattle.std.proofs.Common.{◌≡◌, take}
use Rattle.number_list.proofs.list.widened.Given as goal

abbrev pub invariant-loop-number : goal.invariant-loop-number
invariant-loop-number l = l.long.items ≡ take l.number-index l.short
