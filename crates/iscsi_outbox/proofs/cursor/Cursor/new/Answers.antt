use Rattle.std.proofs.Common.{◌-◌, ◌∙◌, ◌++◌, ℕ, List, [], ◌∷◌, take, ap, arith, length-drop}
use Rattle.iscsi_pdu.specs.Answer.{spelling}
use Rattle.iscsi_outbox.proofs.Starts.{start_placed, start_answered, padding_is}
use Rattle.iscsi_outbox.proofs.cursor.Cursor.new.Goals as goal

pub start_piece-requires : goal.start_piece-requires
start_piece-requires c =
    let size = c.len-length.result - 48 in
    let short = c.requires.short in
    start_placed c.put.new.buffer c.args.shared c.args.limits c.args.buffer.items c.args.last.now size c.requires.limits
    (omega (arith, length-drop 48 c.args.buffer.items))
    (omega arith)
    (c.put.ensures.written
    ∙ ap (λ (xs : List ℕ). xs ++ spelling c.args.last.now)
    (c.extend_reserved.ensures.items
    ∙ ap (λ (n : ℕ). c.args.buffer.items ++ take n (0 ∷ 0 ∷ 0 ∷ [])) c.padding.ensures.value
    ∙ ap (λ (xs : List ℕ). c.args.buffer.items ++ xs) (padding_is size)))

pub returns-clause-value : goal.returns-clause-value
returns-clause-value c =
    let size = c.len-length.result - 48 in
    c.start_piece.ensures.same
    ∙ start_answered c.put.new.buffer c.args.shared c.args.limits c.args.buffer.items (spelling c.args.last.now) size c.requires.limits (omega arith)
    (c.put.ensures.written
    ∙ ap (λ (xs : List ℕ). xs ++ spelling c.args.last.now)
    (c.extend_reserved.ensures.items
    ∙ ap (λ (n : ℕ). c.args.buffer.items ++ take n (0 ∷ 0 ∷ 0 ∷ [])) c.padding.ensures.value
    ∙ ap (λ (xs : List ℕ). c.args.buffer.items ++ xs) (padding_is size)))
