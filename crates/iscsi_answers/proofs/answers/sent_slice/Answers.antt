use Rattle.std.proofs.Common.{ℕ, List, length, ap, arith, length-drop}
use Rattle.iscsi_answers.proofs.answers.sent_slice.Goals as goal

pub overflow_add-result : goal.overflow_add-result
overflow_add-result c =
    let whole = ap (λ (xs : List ℕ). length xs) c.as_slice.ensures in
    let within = c.requires in
    omega (arith, whole, within, c.as_slice.type_inv, length-drop 48 c.args.buffer.now.items)

pub slice_bounds-result-end-2 : goal.slice_bounds-result-end-2
slice_bounds-result-end-2 c =
    let whole = ap (λ (xs : List ℕ). length xs) c.as_slice.ensures in
    let within = c.requires in
    let some = c.if-sent-eq0.false in
    omega (arith, whole, within, some, length-drop 48 c.args.buffer.now.items)
