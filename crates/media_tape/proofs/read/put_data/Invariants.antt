use Rattle.std.proofs.Common.{◌≡◌, ◌+◌, ◌*◌, ◌++◌}
use Rattle.media_tape.specs.BlockData.{data_in}
use Rattle.media_tape.proofs.read.put_data.Given as goal

abbrev pub invariant-loop-i : goal.invariant-loop-i
invariant-loop-i l = record {
  data_is : l.buffer.items ≡ l.initial.buffer.items ++ data_in l.i l.block_length l.items;
  room : l.buffer.spare + l.i * l.block_length ≡ l.initial.buffer.spare;
}
