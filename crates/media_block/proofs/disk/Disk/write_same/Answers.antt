use Rattle.std.proofs.Common.{◌≡◌, ◌==◌, ◌+◌, ◌*◌, ◌≤◌, take, replicate, length, false, arith, rules, ◌∙◌}
use Rattle.std.proofs.lemmas.Bool.{false≢true}
use Rattle.media_block.specs.Blocks.{block_length, blocks_of}
use Rattle.media_block.proofs.Blocks.{length-blocks_of}
use Rattle.media_block.proofs.Results.{on_err_always}
use Rattle.media_block.proofs.Same.{repeated-front, same-more, same-torn}
use Rattle.media_block.proofs.disk.Disk.write_same.Goals as goal

pub overflow_add-first : goal.overflow_add-first
overflow_add-first g c =
    let count_is = length-blocks_of c.self.inside.block_count (g.S.Store.content c.self.inside.store) in
    let range = rw (← c.self.view_is) at c.requires.range in
    omega (arith, count_is, range, c.self.invariant.0)

pub returns-in_err-write-clause-torn : goal.returns-in_err-write-clause-torn
returns-in_err-write-clause-torn g c =
    on_err_always c.from_residual.result (λ honest.
    let now = rw (← c.loop-number.invariant.honest) at honest in
    let kept = c.in_err-write.ensures.torn now in
    let below : c.loop-number.number + c.min-part.result ≤ c.args.count = omega arith in
    same-torn c.args.first c.args.count c.loop-number.number c.min-part.result c.args.block.now c.args.self.now.blocks c.write.new.self.blocks
    c.requires.range below (rw (c.loop-number.invariant.blocks honest) at kept))

pub loop-number-preserved : goal.loop-number-preserved
loop-number-preserved g c =
    let number = c.loop-number.number in
    let part = c.min-part.result in
    let below : number + part ≤ c.args.count = omega arith in
    let within : c.args.first + (number + part) ≤ length c.args.self.now.blocks = omega arith in
    let few : part ≤ 16 = omega arith in
    let some : (number + part == 0) ≡ false = search rules in
    let same : blocks_of part (take (block_length * part) c.repeated-copies.result) ≡ replicate part c.args.block.now =
    repeated-front part 16 c.args.block.now c.repeated-copies.result few c.repeated-copies.ensures in
    record {
      below = below;
      honest = c.in_ok-write.ensures.honest ∙ c.loop-number.invariant.honest;
      steady = search rules;
      failures = search rules;
      as_many = search rules;
      synced = rw some (search rules);
      blocks = λ honest.
          let now = rw (← c.loop-number.invariant.honest) at honest in
          rw (c.in_ok-write.ensures.written now, c.loop-number.invariant.blocks honest)
          (same-more c.args.first number part c.args.block.now _ c.args.self.now.blocks within same);
    }

pub returns-in_err-write-clause-succeeds : goal.returns-in_err-write-clause-succeeds
returns-in_err-write-clause-succeeds g c steady honest =
    absurd (false≢true (c.in_err-write.ensures.succeeds (c.loop-number.invariant.steady ∙ steady) (c.loop-number.invariant.honest ∙ honest)))
