use Rattle.std.proofs.Common.{refl, arith}
use Rattle.media_block.proofs.data.write_together.Goals as goal

-- so that the lengths of the buffers are computed once, for all goals
pub slice_bounds-write_joined-end : goal.slice_bounds-write_joined-end
slice_bounds-write_joined-end g c = refl

pub slice_bounds-write_joined-end-2 : goal.slice_bounds-write_joined-end-2
slice_bounds-write_joined-end-2 g c = refl

pub write_joined-requires : goal.write_joined-requires
write_joined-requires g c = record { range = c.requires.range; some = c.requires.some; enough = c.requires.enough; room = omega arith }

pub write_joined-requires-2 : goal.write_joined-requires-2
write_joined-requires-2 g c = record { range = c.requires.range; some = c.requires.some; enough = c.requires.enough; room = omega arith }

pub returns-then-count : goal.returns-then-count
returns-then-count g c = c.write_joined.ensures

pub returns : goal.returns
returns g c = c.write_joined-2.ensures
