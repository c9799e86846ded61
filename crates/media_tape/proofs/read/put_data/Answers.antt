use Rattle.std.proofs.Common.{◌≡◌, ◌+◌, ◌-◌, ◌*◌, ◌≤◌, ◌++◌, length, slice_range, drop, List, ℕ, ap, ◌∙◌, refl, arith, append_assoc}
use Rattle.std.proofs.Math.Nat.{mul-le-mul_right}
use Rattle.std.proofs.lemmas.List.{length-take-le, length-drop}
use Rattle.media_tape.specs.BlockData.{data_in}
use Rattle.media_tape.proofs.BlockData.{data-more}
use Rattle.media_tape.proofs.read.put_data.Goals as goal

pub loop-i-preserved : goal.loop-i-preserved
loop-i-preserved c =
    let i = c.loop-i.i in
    let n = c.args.block_length in
    let items = c.args.items.now in
    let from : ℕ = i * (n + 8) + 4 in
    let block = slice_range items from (from + n) in
    let old = c.args.buffer.now.items in
    let below : (i + 1) * (n + 8) ≤ c.args.count * (n + 8) = mul-le-mul_right (n + 8) (omega (arith, c.loop-i-test.true)) in
    let next : (i + 1) * (n + 8) ≡ i * (n + 8) + (n + 8) = grind arith in
    let more : (i + 1) * n ≡ i * n + n = grind arith in
    let count : from + n - from ≡ n = omega arith in
    let long : length block ≡ from + n - from = length-take-le (from + n - from) (drop from items)
    (omega (arith, below, next, c.requires.long, length-drop from items)) in
    record {
      data_is = c.extend_reserved.ensures.items ∙ ap (λ (xs : List ℕ). xs ++ block) c.loop-i.invariant.data_is
          ∙ append_assoc old (data_in i n items) block ∙ ap (λ (xs : List ℕ). old ++ xs) (data-more i n from items refl);
      room = omega (arith, c.extend_reserved.ensures.spare, long, count, more, c.loop-i.invariant.room);
    }
