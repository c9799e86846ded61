use Rattle.std.proofs.Common.{◌++◌, ◌-◌, ◌∷◌, [], take, ℕ, List, ap, arith, ◌∙◌, length-drop}
use Rattle.iscsi_pdu.specs.Segment.{padded}
use Rattle.iscsi_answers.proofs.Room.{padded_behind}
use Rattle.iscsi_answers.proofs.data_ins.put_header.Goals as goal

pub returns-clause-items : goal.returns-clause-items
returns-clause-items c =
    let length = c.len-length.result - 48 in
    c.extend_reserved.ensures.items
    ∙ ap (λ (k : ℕ). c.put_over.new.buffer.items ++ take k (0 ∷ 0 ∷ 0 ∷ [])) c.padding-padding.ensures.value
    ∙ ap (λ (xs : List ℕ). xs ++ take (padded length - length) (0 ∷ 0 ∷ 0 ∷ [])) c.put_over.ensures.items
    ∙ padded_behind c.args.header.now c.args.buffer.now.items length
    (omega (arith, length-drop 48 c.args.buffer.now.items, c.len-length.ensures.value))
