use Rattle.iscsi_target.proofs.Bytes.{takes_part}
use Rattle.iscsi_target.proofs.target.Target.take_piece.Goals as goal

pub returns-then-keep_part : goal.returns-then-keep_part
returns-then-keep_part g c =
    takes_part c.args.c c.args.self.now c.keep_part.new.self c.args.piece.now c.requires.in_range c.requires.reads
    (c.keep_part.ensures.kept c.if-keep_part.true) (c.keep_part.ensures.part c.if-keep_part.true)
