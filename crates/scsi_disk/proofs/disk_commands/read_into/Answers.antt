use Rattle.std.proofs.Common.{◌≡◌, ◌-◌, ◌*◌, min, ap, ◌∙◌, arith}
use Rattle.media_block.specs.Blocks.{DiskState}
use Rattle.scsi_disk.proofs.Pieces.{still_same, read_more, all_long}
use Rattle.std.proofs.lemmas.Grind.{common_steps}
use Rattle.scsi_disk.proofs.disk_commands.read_into.Goals as goal

pub loop-number-preserved : goal.loop-number-preserved
loop-number-preserved g c =
    let so_far = c.loop-number.invariant in
    let before = c.loop-number.disk in
    let after = c.read_piece.new.disk in
    let count : c.min-count.result ≡ min c.args.piece (c.args.range.count - c.loop-number.number * c.args.piece) = omega arith in
    record {
      begun = read_more c.args.piece c.args.range.count c.loop-number.number c.args.range.first _ c.min-count.result c.args.disk.now.blocks before.blocks
          before.honest after.honest c.loop-number.buffer.items c.read_piece.new.buffer.items c.requires.piece (omega arith)
          count so_far.begun c.in_ok-read_piece.ensures.front c.in_ok-read_piece.ensures.length (ap (λ (disk : DiskState). disk.blocks) so_far.disk)
          c.in_ok-read_piece.ensures.back c.in_ok-read_piece.ensures.read (omega arith);
      spare = omega (arith, c.in_ok-read_piece.ensures.spare, c.in_ok-read_piece.ensures.length, so_far.spare);
      back = λ honest. so_far.back (c.in_ok-read_piece.ensures.back honest);
      disk = still_same c.args.disk.now before after so_far.disk c.in_ok-read_piece.ensures.disk;
      steady = λ steady honest.
          let same = so_far.steady steady honest in
          let still_steady = ap (λ (disk : DiskState). disk.steady) same ∙ steady in
          let still_honest = ap (λ (disk : DiskState). disk.honest) same ∙ honest in
          (c.in_ok-read_piece.ensures.succeeds still_steady still_honest).1 ∙ same;
    }

pub returns-clause-length : goal.returns-clause-length
returns-clause-length g c =
    let last : c.loop-number.number ≡ c.args.pieces = omega arith in
    all_long c.args.piece c.args.range.count c.args.pieces c.args.range.first c.args.disk.now.blocks c.loop-number.disk.honest c.loop-number.buffer.items
    c.requires.some c.requires.piece c.requires.pieces (rw last at c.loop-number.invariant.begun)

pub returns-in_err-read_piece : goal.returns-in_err-read_piece
returns-in_err-read_piece = grind (arith, common_steps)

pub returns-clause-back : goal.returns-clause-back
returns-clause-back = grind (arith, common_steps)

pub returns-clause-disk : goal.returns-clause-disk
returns-clause-disk = grind (arith, common_steps)

pub returns-clause-laid : goal.returns-clause-laid
returns-clause-laid = grind (arith, common_steps)

pub returns-clause-read : goal.returns-clause-read
returns-clause-read = grind (arith, common_steps)

pub returns-clause-succeeds : goal.returns-clause-succeeds
returns-clause-succeeds = grind (arith, common_steps)
