use Rattle.std.proofs.Common.{◌*◌, take, refl, arith, sym, ◌∙◌}
use Rattle.std.proofs.lemmas.List.{length-take-le}
use Rattle.std.proofs.lemmas.Result.{on_ok_weaker, on_err_weaker}
use Rattle.media_block.specs.Blocks.{block_length, blocks_of}
use Rattle.media_block.proofs.Blocks.{length-blocks_of}
use Rattle.media_block.proofs.Writes.{length-kept, written-blocks, torn-blocks, replaced-none}
use Rattle.media_block.proofs.disk.Disk.write_parts.Goals as goal

pub returns-then-count-eq0-clause-written : goal.returns-then-count-eq0-clause-written
unfolding blocks_of
returns-then-count-eq0-clause-written g c honest = rw c.if-count-eq0.true (replaced-none c.args.first c.args.self.now.blocks)

pub overflow_mul-first : goal.overflow_mul-first
overflow_mul-first g c =
    let count_is = length-blocks_of c.self.inside.block_count (g.S.Store.content c.self.inside.store) in
    let range = rw (← c.self.view_is) at c.requires.range in
    omega (arith, count_is, range, c.self.invariant.0)

pub overflow_mul-count : goal.overflow_mul-count
overflow_mul-count g c =
    let count_is = length-blocks_of c.self.inside.block_count (g.S.Store.content c.self.inside.store) in
    let range = rw (← c.self.view_is) at c.requires.range in
    omega (arith, count_is, range, c.self.invariant.0)

pub write_data-requires-clause-range : goal.write_data-requires-clause-range
write_data-requires-clause-range g c =
    let count_is = length-blocks_of c.self.inside.block_count (g.S.Store.content c.self.inside.store) in
    let range = rw (← c.self.view_is) at c.requires.range in
    omega (arith, count_is, range, c.self.invariant.0)

pub invariant_of-self : goal.invariant_of-self
invariant_of-self g c =
    let content = g.S.Store.content c.self.inside.store in
    let count_is = length-blocks_of c.self.inside.block_count content in
    let range = rw (← c.self.view_is) at c.requires.range in
    let n = block_length * c.args.count in (
      c.self.invariant.0,
      λ honest.
          let long = c.self.invariant.1 (rw c.write_data.ensures.honest at honest) in
          length-kept c.write_data.result (block_length * c.args.first) n (take n c.args.«data».now) content (g.S.Store.content c.write_data.new.store)
          (length-take-le n c.args.«data».now c.requires.enough) (omega (arith, count_is, range, long)) c.write_data.ensures.written c.write_data.ensures.torn ∙ long,
      c.self.invariant.2,
    )

pub returns-clause-written : goal.returns-clause-written
returns-clause-written g c =
    let content = g.S.Store.content c.self.inside.store in
    let count_is = length-blocks_of c.self.inside.block_count content in
    let range = rw (← c.self.view_is) at c.requires.range in
    let n = block_length * c.args.count in
    rw (← c.self.view_is) (on_ok_weaker c.write_data.result
    (λ is honest.
    let long = c.self.invariant.1 honest in
    written-blocks c.args.first c.args.count c.self.inside.block_count (take n c.args.«data».now) content
    (g.S.Store.content c.write_data.new.store) (omega (arith, count_is, range)) long (length-take-le n c.args.«data».now c.requires.enough) is)
    c.write_data.ensures.written)

pub returns-clause-torn : goal.returns-clause-torn
returns-clause-torn g c =
    let content = g.S.Store.content c.self.inside.store in
    let count_is = length-blocks_of c.self.inside.block_count content in
    let range = rw (← c.self.view_is) at c.requires.range in
    rw (← c.self.view_is) (on_err_weaker c.write_data.result
    (λ kept honest.
    let long = c.self.invariant.1 honest in
    torn-blocks c.args.first c.args.count c.self.inside.block_count (block_length * c.args.count) content
    (g.S.Store.content c.write_data.new.store) (omega (arith, count_is, range)) long refl kept)
    c.write_data.ensures.torn)

pub returns-clause-length : goal.returns-clause-length
returns-clause-length g c =
    rw (← c.self.view_is) (length-blocks_of c.self.inside.block_count (g.S.Store.content c.write_data.new.store)
    ∙ sym (length-blocks_of c.self.inside.block_count (g.S.Store.content c.self.inside.store)))

pub returns-clause-succeeds : goal.returns-clause-succeeds
returns-clause-succeeds g c steady honest =
    let count_is = length-blocks_of c.self.inside.block_count (g.S.Store.content c.self.inside.store) in
    let range = rw (← c.self.view_is) at c.requires.range in
    let long = c.self.invariant.1 (rw (← c.self.view_is) at honest) in
    c.write_data.ensures.succeeds (rw (← c.self.view_is) at steady) (omega (arith, count_is, range, long))
