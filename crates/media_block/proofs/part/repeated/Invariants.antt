use Rattle.std.proofs.Common.{◌≡◌, replicate}
use Rattle.media_block.specs.Blocks.{blocks_of}
use Rattle.media_block.proofs.part.repeated.Given as goal

abbrev pub invariant-loop-number : goal.invariant-loop-number
invariant-loop-number l = blocks_of l.number l.part ≡ replicate l.number l.block
