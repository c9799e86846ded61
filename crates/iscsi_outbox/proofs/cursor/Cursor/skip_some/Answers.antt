use Rattle.std.proofs.Common.{◌∙◌, arith}
use Rattle.iscsi_outbox.proofs.Moves.{moves, some_stand, stand_there}
use Rattle.iscsi_outbox.proofs.cursor.Cursor.skip_some.Goals as goal

pub start_piece-requires : goal.start_piece-requires
start_piece-requires c =
    (moves c.args.self.now c.min-step.result c.end.result c.requires.placed c.end.ensures.more c.end.ensures.last (omega arith)).0

pub returns-clause-some : goal.returns-clause-some
returns-clause-some c asked some =
    let before = some_stand c.args.self.now c.end.result c.requires c.end.ensures.more c.end.ensures.last some in
    omega arith

pub returns-clause-rest : goal.returns-clause-rest
returns-clause-rest c =
    c.start_piece.ensures.same
    ∙ (moves c.args.self.now c.min-step.result c.end.result c.requires.placed c.end.ensures.more c.end.ensures.last (omega arith)).1

pub returns-clause-there : goal.returns-clause-there
returns-clause-there c =
    let there = stand_there c.args.self.now c.end.result c.requires.placed c.end.ensures.more c.end.ensures.last c.end.ensures.ahead in
    omega arith
