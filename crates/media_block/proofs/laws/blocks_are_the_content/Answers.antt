use Rattle.std.proofs.Common.{◌≡◌, ◌+◌, ◌-◌, ◌*◌, ◌/◌, ◌%◌, length, arith, rules, ◌∙◌}
use Rattle.std.proofs.lemmas.List.{take_all}
use Rattle.media_block.specs.Blocks.{block_length}
use Rattle.media_block.proofs.Blocks.{length-blocks_of, concat-blocks_of, data_of-blocks_of}
use Rattle.media_block.proofs.laws.blocks_are_the_content.Goals as goal

pub returns-clause-joined : goal.returns-clause-joined
returns-clause-joined c content is =
    let whole : length content % block_length ≡ 0 = search rules in
    concat-blocks_of (length content / block_length) content ∙ take_all (block_length * (length content / block_length)) content (omega arith)

pub returns-clause-data : goal.returns-clause-data
returns-clause-data c content first count is within =
    let count_is = length-blocks_of (length content / block_length) content in
    let long : block_length * (first + count) - block_length * first ≡ block_length * count = omega arith in
    rw long (data_of-blocks_of first count (length content / block_length) content (omega (arith, count_is, within)))
