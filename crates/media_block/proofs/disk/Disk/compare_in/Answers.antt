use Rattle.std.proofs.Common.{◌+◌, ◌*◌, ◌≤◌, refl, arith, rules}
use Rattle.media_block.specs.Blocks.{block_length}
use Rattle.media_block.proofs.Blocks.{length-blocks_of}
use Rattle.media_block.proofs.Writes.{read-blocks}
use Rattle.media_block.proofs.disk.Disk.compare_in.Goals as goal

pub overflow_mul-first : goal.overflow_mul-first
overflow_mul-first g c =
    let count_is = length-blocks_of c.self.inside.block_count (g.S.Store.content c.self.inside.store) in
    let range = rw (← c.self.view_is) at c.requires.range in
    omega (arith, count_is, range, c.self.invariant.0)

pub overflow_mul-count : goal.overflow_mul-count
overflow_mul-count g c =
    let count_is = length-blocks_of c.self.inside.block_count (g.S.Store.content c.self.inside.store) in
    let range = rw (← c.self.view_is) at c.requires.range in
    omega (arith, count_is, range, c.self.invariant.0)

pub compare_data-requires-clause-range : goal.compare_data-requires-clause-range
compare_data-requires-clause-range g c =
    let count_is = length-blocks_of c.self.inside.block_count (g.S.Store.content c.self.inside.store) in
    let range = rw (← c.self.view_is) at c.requires.range in
    omega (arith, count_is, range, c.self.invariant.0)

pub returns : goal.returns
returns g c =
    let content = g.S.Store.content c.self.inside.store in
    let count_is = length-blocks_of c.self.inside.block_count content in
    let range = rw (← c.self.view_is) at c.requires.range in
    let within : c.args.first + c.args.count ≤ c.self.inside.block_count = omega (arith, count_is, range) in
    record {
      compared = rw (← c.self.view_is, ← read-blocks c.args.first c.args.count c.self.inside.block_count (block_length * c.args.count) content within refl)
          c.compare_data.ensures.compared;
      within = c.compare_data.ensures.within;
      none = λ none. c.compare_data.ensures.none (omega (arith, none));
      back = rw (← c.self.view_is) c.compare_data.ensures.kept.back;
      disk = search rules;
      succeeds = λ steady honest.
          let is_steady = rw (← c.self.view_is) at steady in
          let long = c.self.invariant.1 (rw (← c.self.view_is) at honest) in
          let told = c.compare_data.ensures.succeeds is_steady (omega (arith, count_is, range, long)) in (
            told.0,
            rw (
              ← c.self.view_is,
              c.compare_data.ensures.kept.content,
              c.compare_data.ensures.kept.synced,
              c.compare_data.ensures.failures,
              c.compare_data.ensures.kept.steady,
              told.0,
              told.1,
            ) refl,
          );
    }
