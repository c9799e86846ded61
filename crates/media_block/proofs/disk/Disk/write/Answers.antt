use Rattle.std.proofs.Common.{◌≡◌, ◌*◌, take, arith}
use Rattle.std.proofs.lemmas.List.{take_all}
use Rattle.media_block.specs.Blocks.{block_length}
use Rattle.media_block.proofs.disk.Disk.write.Goals as goal

pub returns-clause-written : goal.returns-clause-written
returns-clause-written g c =
    let all : take (block_length * c.args.count) c.args.bytes.now ≡ c.args.bytes.now = take_all (block_length * c.args.count) c.args.bytes.now (omega (arith, c.requires.whole)) in
    rw (c.whole.ensures, all) at c.write_parts.ensures.written
