use Rattle.std.proofs.Common.{◌≡◌, ◌<◌, ◌≤◌, ◌-◌, ◌^◌, ◌∙◌, ℕ, List, length, drop, ap, sym, arith, length-drop}
use Rattle.iscsi_pdu.specs.Answer.{spelling}
use Rattle.iscsi_transfer.specs.DataIn.{pieces_of, piece_count}
use Rattle.iscsi_transfer.proofs.Counts.{pieces_are_counted, count_fits}
use Rattle.iscsi_outbox.specs.declared.limits.Limits.{Limits}
use Rattle.iscsi_outbox.specs.Answer.{AreAligned}
use Rattle.iscsi_outbox.proofs.Starts.{answer_long}
use Rattle.iscsi_outbox.proofs.Wholes.{answer_whole}
use Rattle.iscsi_outbox.proofs.data_ins.DataIns.new.Goals as goal

-- there are no more pieces than bytes, and of these fewer than 2^32
bounds : (items : List ℕ) (limits : Limits) (size : ℕ) → AreAligned limits → size ≡ length items → length (drop 48 items) < 2 ^ 32
    → (piece_count (size - 48) limits.burst limits.segment ≤ size - 48) × (size - 48 < 2 ^ 32)
bounds items limits size aligned is short =
    (count_fits (size - 48) limits.burst limits.segment aligned.burst aligned.segment, omega (arith, is, length-drop 48 items))

pub overflow_mul-rest : goal.overflow_mul-rest
overflow_mul-rest c =
    omega (arith, bounds c.args.buffer.items c.args.limits c.len-length.result c.requires.limits c.len-length.ensures.value c.requires.short)

pub overflow_add-rest : goal.overflow_add-rest
overflow_add-rest c =
    omega (arith, bounds c.args.buffer.items c.args.limits c.len-length.result c.requires.limits c.len-length.ensures.value c.requires.short)

pub overflow_add-rest-2 : goal.overflow_add-rest-2
overflow_add-rest-2 c =
    omega (arith, bounds c.args.buffer.items c.args.limits c.len-length.result c.requires.limits c.len-length.ensures.value c.requires.short)

pub overflow_add-rest-3 : goal.overflow_add-rest-3
overflow_add-rest-3 c =
    omega (arith, bounds c.args.buffer.items c.args.limits c.len-length.result c.requires.limits c.len-length.ensures.value c.requires.short)

pub invariant_of-result : goal.invariant_of-result
invariant_of-result c =
    let bytes = drop 48 c.args.buffer.items in
    let limits = c.args.limits in
    let size : c.len-length.result - 48 ≡ length bytes = omega (arith, length-drop 48 c.args.buffer.items) in
    let counted : length (pieces_of (length bytes) limits.burst limits.segment) ≡ c.piece_count-count.result =
    ap (λ (n : ℕ). length (pieces_of n limits.burst limits.segment)) (sym size)
    ∙ pieces_are_counted (c.len-length.result - 48) limits.burst limits.segment c.requires.limits.burst c.requires.limits.segment
    ∙ sym c.piece_count-count.ensures in
    let long = ap (λ (xs : List ℕ). length xs) c.new.ensures.value ∙ answer_long c.args.shared limits bytes (spelling c.args.last.now) c.requires.limits in (
      c.new.ensures.ready,
      omega (arith, size, counted, long),
      answer_whole _ c.args.shared limits bytes c.args.last.now c.new.ensures.value,
    )
