use Rattle.std.proofs.Common.{◌-◌, ◌++◌, ℕ, List, length, drop, ap, ◌∙◌, arith, length-drop}
use Rattle.std.proofs.lemmas.List.{take_all}
use Rattle.iscsi_pdu.specs.Segment.{segment}
use Rattle.iscsi_answers.proofs.Room.{pieces_counted, piece_there, one_answer}
use Rattle.iscsi_answers.proofs.data_ins.put_around.Goals as goal

pub piece_of-piece-requires-clause-number : goal.piece_of-piece-requires-clause-number
piece_of-piece-requires-clause-number c =
    let whole = c.as_slice.result.now in
    let same = take_all (length whole - 48) (drop 48 whole) (omega (arith, length-drop 48 whole)) ∙ ap (drop 48) c.as_slice.ensures in
    rw same (omega (arith, pieces_counted c.args.values.now (drop 48 c.args.buffer.now.items) c.requires.values, c.requires.one))

pub data_in-requires-clause-within : goal.data_in-requires-clause-within
data_in-requires-clause-within c = grind (arith, piece_there)

pub data_in-requires-clause-short : goal.data_in-requires-clause-short
data_in-requires-clause-short c = grind (arith, piece_there)

pub returns-clause-written : goal.returns-clause-written
returns-clause-written c =
    let whole = c.as_slice.result.now in
    let same = take_all (length whole - 48) (drop 48 whole) (omega (arith, length-drop 48 whole)) ∙ ap (drop 48) c.as_slice.ensures in
    one_answer c.args.numbers c.args.values.now c.args.frame.now (drop 48 c.args.buffer.now.items) c.piece_of-piece.result c.data_in.result
    c.put_header.new.buffer.items c.requires.values (rw same at c.piece_of-piece.ensures) c.requires.one (rw same at c.data_in.ensures)
    (c.put_header.ensures.items ∙ ap (λ (xs : List ℕ). xs ++ segment (drop 48 c.args.buffer.now.items)) c.header-header.ensures)
