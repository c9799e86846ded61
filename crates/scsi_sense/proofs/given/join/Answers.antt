use Rattle.std.proofs.Common.{◌≡◌, ◌+◌, ◌-◌, ◌*◌, ◌∙◌, min, length, take, drop, ap, sym, refl, arith}
use Rattle.std.proofs.lemmas.List.{take_at}
use lib.Seq.{paste}
use Rattle.scsi_sense.specs.Given.{headroom}
use Rattle.scsi_sense.proofs.Laid.{joined_first, joined_more, joined_all}
use Rattle.scsi_sense.proofs.given.join.Goals as goal

pub loop-number-init : goal.loop-number-init
loop-number-init c = (joined_first c.args.pieces.length c.args.pieces.count c.args.buffer.now.items c.requires, refl)

pub loop-number-preserved : goal.loop-number-preserved
loop-number-preserved c =
    let now = c.loop-number.buffer.items in
    let moved = c.copy_within.new.self in
    let piece = c.args.pieces.length in
    let from = headroom + c.loop-number.number * (headroom + piece) in
    let to = headroom + c.loop-number.number * piece in
    let long : length moved ≡ length now = c.copy_within.ensures.len ∙ ap (λ xs. length xs) c.as_mut_slice.ensures.value in
    let put : moved ≡ paste now to (drop from now) (min (length now) (from + piece) - from) =
    c.copy_within.ensures.after ∙ ap (λ xs. paste xs to (drop from xs) (c.min-end.result - from)) c.as_mut_slice.ensures.value
    ∙ ap (λ n. paste now to (drop from now) (n - from))
    (c.min-end.ensures ∙ ap (λ n. min n (from + piece)) c.len-len.ensures.value ∙ ap (λ n. min n (from + piece)) (sym c.loop-number.invariant.0.long)) in (
      joined_more c.args.pieces.length c.args.pieces.count c.loop-number.number c.args.buffer.now.items now _ c.requires c.loop-number.invariant.0
          c.loop-number-test.true
          (take_at moved (drop (length moved) now) (length now) long ∙ put),
      c.loop-number.invariant.1,
    )

pub returns-clause-data : goal.returns-clause-data
returns-clause-data c =
    joined_all c.args.pieces.length c.args.pieces.count c.loop-number.number c.args.buffer.now.items c.loop-number.buffer.items _ c.requires
    c.loop-number.invariant.0 (omega (arith, c.loop-number-test.false))
    (c.truncate.ensures.items ∙ ap (λ n. take (n - 48 * (c.args.pieces.count - 1)) c.loop-number.buffer.items) c.len-len.ensures.value)
