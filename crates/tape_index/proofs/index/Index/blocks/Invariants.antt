use Rattle.std.proofs.Common.{◌+◌, ◌-◌, ◌^◌, ◌≤◌, ◌<◌, length}
use Rattle.tape_index.proofs.SizeFixed.{IsGiven}
use Rattle.tape_index.proofs.index.Index.blocks.Given as goal

abbrev pub invariant-loop-given : goal.invariant-loop-given
invariant-loop-given l = record {
  few : l.given ≤ l.count;
  within : l.from + l.given ≤ length l.self.sizes;
  number : l.from + l.given < 2 ^ 64;
  is : IsGiven l.count l.block_length l.from l.self.sizes l.given;
}

abbrev pub decreases-loop-given : goal.decreases-loop-given
decreases-loop-given l = l.count - l.given
