use Rattle.std.proofs.Common.{◌+◌, length, sym, ◌∙◌}
use Rattle.std.proofs.lemmas.List.{take_rest}
use Rattle.iscsi_text.proofs.Pieces.{pieces_ended, pieces_passed, pieces_open}
use Rattle.iscsi_text.proofs.reading.first_piece.Goals as goal

pub returns-in-Some-clause-piece : goal.returns-in-Some-clause-piece
returns-in-Some-clause-piece c = λ some. rw (take_rest c.args.text.now (c.in-Some.end + 1))
    (pieces_ended c.args.text.now c.in-Some.end (sym c.first_zero.ensures ∙ c.in-Some.is) some)

pub returns-in-Some-clause-empty : goal.returns-in-Some-clause-empty
returns-in-Some-clause-empty c = λ none. rw (take_rest c.args.text.now (c.in-Some.end + 1))
    (pieces_passed c.args.text.now c.in-Some.end (sym c.first_zero.ensures ∙ c.in-Some.is) none)

pub returns-in-None-clause-piece : goal.returns-in-None-clause-piece
returns-in-None-clause-piece c = λ some. rw (take_rest c.args.text.now (length c.args.text.now))
    (pieces_open c.args.text.now (sym c.first_zero.ensures ∙ c.in-None.is) some)
