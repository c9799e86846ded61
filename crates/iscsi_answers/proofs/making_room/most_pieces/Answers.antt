use Rattle.std.proofs.Common.{arith}
use Rattle.iscsi_answers.proofs.Room.{most_pieces_fit}
use Rattle.iscsi_answers.proofs.making_room.most_pieces.Goals as goal

pub returns-clause-bound : goal.returns-clause-bound
returns-clause-bound c = rw (c.count_of.ensures, c.most_copied.ensures.value)
    (most_pieces_fit c.args.values.now c.args.frame.now c.requires (omega (arith, c.most_copied.ensures.value, c.most_copied.ensures.bound)))
