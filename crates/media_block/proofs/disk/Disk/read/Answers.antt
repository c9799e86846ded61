use Rattle.std.proofs.Common.{◌≡◌, ◌+◌, ◌*◌, ◌≤◌, length, arith, rules, refl, ◌∙◌}
use Rattle.std.proofs.lemmas.Result.{on_ok_weaker}
use Rattle.media_block.specs.Blocks.{block_length}
use Rattle.media_block.proofs.Blocks.{length-blocks_of}
use Rattle.media_block.proofs.Writes.{read-blocks, read-agreed}
use Rattle.media_block.proofs.disk.Disk.read.Goals as goal

pub overflow_mul-first : goal.overflow_mul-first
overflow_mul-first g c =
    let count_is = length-blocks_of c.self.inside.block_count (g.S.Store.content c.self.inside.store) in
    let within = rw (← c.self.view_is) at c.requires.range in
    omega (arith, count_is, within, c.self.invariant.0)

pub returns-clause-read : goal.returns-clause-read
returns-clause-read g c =
    let content = g.S.Store.content c.self.inside.store in
    let count_is = length-blocks_of c.self.inside.block_count content in
    let range = rw (← c.self.view_is) at c.requires.range in
    let within : c.args.first + c.args.count ≤ c.self.inside.block_count = omega (arith, count_is, range) in
    rw (← c.self.view_is) (on_ok_weaker c.read_at.result
    (λ said honest. said honest ∙ read-blocks c.args.first c.args.count c.self.inside.block_count (length c.args.bytes.now) content within c.requires.room)
    c.read_at.ensures.read)

pub returns-clause-agreed : goal.returns-clause-agreed
returns-clause-agreed g c =
    let content = g.S.Store.content c.self.inside.store in
    let count_is = length-blocks_of c.self.inside.block_count content in
    let range = rw (← c.self.view_is) at c.requires.range in
    let within : c.args.first + c.args.count ≤ c.self.inside.block_count = omega (arith, count_is, range) in
    let room : length c.read_at.new.buf ≡ block_length * c.args.count = search (rules, c.requires.room) in
    rw (← c.self.view_is) (read-agreed c.read_at.result c.args.first c.args.count c.self.inside.block_count content
    c.read_at.new.buf _ _ within room c.read_at.ensures.agreed)

pub returns-clause-succeeds : goal.returns-clause-succeeds
returns-clause-succeeds g c steady honest =
    let content = g.S.Store.content c.self.inside.store in
    let count_is = length-blocks_of c.self.inside.block_count content in
    let range = rw (← c.self.view_is) at c.requires.range in
    let is_steady = rw (← c.self.view_is) at steady in
    let long = c.self.invariant.1 (rw (← c.self.view_is) at honest) in
    let told = c.read_at.ensures.succeeds is_steady (omega (arith, count_is, range, long, c.requires.room)) in (
      told.0,
      rw (
        ← c.self.view_is,
        c.read_at.ensures.content,
        c.read_at.ensures.synced,
        c.read_at.ensures.failures,
        c.read_at.ensures.steady,
        told.0,
        told.1,
      ) refl,
    )
