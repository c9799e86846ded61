use Rattle.std.proofs.lemmas.List.{take_min}
use Rattle.std.proofs.Common.{rules}
use Rattle.iscsi_login.proofs.answer.first_piece.Goals as goal

pub returns-clause-piece : goal.returns-clause-piece
returns-clause-piece c = search (rules, take_min)
