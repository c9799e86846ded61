use Rattle.std.proofs.Common.{◌*◌, ◌≤◌, length, arith, refl}
use Rattle.media_block.specs.Blocks.{block_length, blocks_of}
use Rattle.media_block.proofs.Same.{repeated-more}
use Rattle.media_block.proofs.part.repeated.Goals as goal

pub loop-number-init : goal.loop-number-init
unfolding blocks_of
loop-number-init c = refl

pub loop-number-preserved : goal.loop-number-preserved
loop-number-preserved c =
    let within : block_length * c.loop-number.number ≤ length c.loop-number.part = omega arith in
    rw c.copy_from_slice.ensures.after
    (repeated-more c.loop-number.number c.args.block.now c.loop-number.part _ c.requires within c.loop-number.invariant)
