use Rattle.std.proofs.Common.{◌≡◌}
use Rattle.media_tape.specs.Items.{spelling}
use Rattle.media_tape.specs.Fixed.{blocks_of}
use Rattle.media_tape.proofs.write.spelled.Given as goal

abbrev pub invariant-loop-i : goal.invariant-loop-i
invariant-loop-i l = l.items.items ≡ spelling (blocks_of l.i l.block_length l.bytes)
