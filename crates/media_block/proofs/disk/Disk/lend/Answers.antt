use Rattle.std.proofs.Common.{◌+◌, ◌*◌, ◌≤◌, refl, arith}
use Rattle.media_block.specs.Blocks.{block_length}
use Rattle.media_block.proofs.Blocks.{length-blocks_of}
use Rattle.media_block.proofs.Writes.{read-blocks}
use Rattle.media_block.proofs.disk.Disk.lend.Goals as goal

pub overflow_mul-first : goal.overflow_mul-first
overflow_mul-first g c =
    let count_is = length-blocks_of c.self.inside.block_count (g.S.Store.content c.self.inside.store) in
    let range = rw (← c.self.view_is) at c.requires.range in
    omega (arith, count_is, range, c.self.invariant.0)

pub overflow_mul-count : goal.overflow_mul-count
overflow_mul-count g c =
    let count_is = length-blocks_of c.self.inside.block_count (g.S.Store.content c.self.inside.store) in
    let range = rw (← c.self.view_is) at c.requires.range in
    omega (arith, count_is, range, c.self.invariant.0)

pub returns-clause-lent : goal.returns-clause-lent
returns-clause-lent g c =
    let content = g.S.Store.content c.self.inside.store in
    let count_is = length-blocks_of c.self.inside.block_count content in
    let range = rw (← c.self.view_is) at c.requires.range in
    let within : c.args.first + c.args.count ≤ c.self.inside.block_count = omega (arith, count_is, range) in
    rw (← c.self.view_is, ← read-blocks c.args.first c.args.count c.self.inside.block_count (block_length * c.args.count) content within refl)
    c.lend.ensures.lent
