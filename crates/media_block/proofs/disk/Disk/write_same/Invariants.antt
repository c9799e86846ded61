use Rattle.std.proofs.Common.{◌≡◌, ◌≤◌, ◌-◌, ◌==◌, length, replicate, false, IsTrue, if◌then◌else◌}
use Rattle.media_block.specs.Blocks.{replaced}
use Rattle.media_block.proofs.disk.Disk.write_same.Given as goal

abbrev pub invariant-loop-number : goal.invariant-loop-number
invariant-loop-number g l = record {
  below : l.number ≤ l.count;
  honest : l.self.honest ≡ l.initial.self.honest;
  steady : l.self.steady ≡ l.initial.self.steady;
  failures : l.self.failures ≡ l.initial.self.failures;
  as_many : length l.self.blocks ≡ length l.initial.self.blocks;
  synced : l.self.synced ≡ (if l.number == 0 then l.initial.self.synced else false);
  blocks : IsTrue l.initial.self.honest → l.self.blocks ≡ replaced l.first (replicate l.number l.block) l.initial.self.blocks;
}

abbrev pub decreases-loop-number : goal.decreases-loop-number
decreases-loop-number g l = l.count - l.number
