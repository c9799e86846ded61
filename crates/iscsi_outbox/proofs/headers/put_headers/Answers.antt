use Rattle.std.proofs.Common.{◌≡◌, ◌+◌, ◌-◌, ◌∙◌, ℕ, List, length, take, drop, ap, sym, refl, arith}
use Rattle.std.specs.List.{flat_map, enumerate_from}
use Rattle.std.proofs.lemmas.List.{length-take}
use Rattle.std.proofs.Math.Nat.{zero-mul}
use Rattle.scsi_sense.specs.Given.{gathered}
use Rattle.iscsi_pdu.specs.DataIn.{data_in_header}
use Rattle.iscsi_transfer.specs.DataIn.{pieces_of, piece_count, part_of}
use Rattle.iscsi_outbox.specs.Answer.{fields_with, shorter, unpadded}
use Rattle.iscsi_outbox.proofs.Written.{found_in, stands, written_more, written_all}
use Rattle.iscsi_outbox.proofs.headers.put_headers.Goals as goal

pub loop-number-init : goal.loop-number-init
loop-number-init c = (record { long = refl; place = omega (arith, zero-mul (shorter c.args.limits)); front = refl; others = refl }, refl)

pub overflow_add-ends : goal.overflow_add-ends
overflow_add-ends c =
    let stand = stands c.args.shared c.args.limits c.args.count c.args.size c.loop-number.number c.loop-number.at c.args.buffer.now.items
    c.loop-number.buffer.items c.piece_at-piece.result c.requires.limits c.requires.even c.requires.laid c.requires.size
    c.loop-number.invariant.0 c.piece_at-piece.ensures in
    omega (arith, stand.next, stand.number_fits, stand.inside, c.requires.size, c.requires.short)

pub slice_bounds-header-end : goal.slice_bounds-header-end
slice_bounds-header-end c =
    let stand = stands c.args.shared c.args.limits c.args.count c.args.size c.loop-number.number c.loop-number.at c.args.buffer.now.items
    c.loop-number.buffer.items c.piece_at-piece.result c.requires.limits c.requires.even c.requires.laid c.requires.size
    c.loop-number.invariant.0 c.piece_at-piece.ensures in
    let whole = ap (λ (xs : List ℕ). length xs) c.as_slice.ensures in
    omega (arith, stand.ends, whole)

pub header-header-requires-clause-number : goal.header-header-requires-clause-number
header-header-requires-clause-number c =
    let stand = stands c.args.shared c.args.limits c.args.count c.args.size c.loop-number.number c.loop-number.at c.args.buffer.now.items
    c.loop-number.buffer.items c.piece_at-piece.result c.requires.limits c.requires.even c.requires.laid c.requires.size
    c.loop-number.invariant.0 c.piece_at-piece.ensures in
    omega (arith, stand.number_fits, stand.inside, c.requires.size, c.requires.short)

pub header-header-requires-clause-offset : goal.header-header-requires-clause-offset
header-header-requires-clause-offset c =
    let stand = stands c.args.shared c.args.limits c.args.count c.args.size c.loop-number.number c.loop-number.at c.args.buffer.now.items
    c.loop-number.buffer.items c.piece_at-piece.result c.requires.limits c.requires.even c.requires.laid c.requires.size
    c.loop-number.invariant.0 c.piece_at-piece.ensures in
    omega (arith, stand.inside, c.requires.size, c.requires.short)

pub header-header-requires-clause-short : goal.header-header-requires-clause-short
header-header-requires-clause-short c =
    let stand = stands c.args.shared c.args.limits c.args.count c.args.size c.loop-number.number c.loop-number.at c.args.buffer.now.items
    c.loop-number.buffer.items c.piece_at-piece.result c.requires.limits c.requires.even c.requires.laid c.requires.size
    c.loop-number.invariant.0 c.piece_at-piece.ensures in
    let at = c.loop-number.at + 48 in
    let long = length-take (at + c.piece_at-piece.result.length - at) (drop at c.as_slice.result.now) in
    omega (arith, stand.short, long)

pub put_over-requires : goal.put_over-requires
put_over-requires c =
    let stand = stands c.args.shared c.args.limits c.args.count c.args.size c.loop-number.number c.loop-number.at c.args.buffer.now.items
    c.loop-number.buffer.items c.piece_at-piece.result c.requires.limits c.requires.even c.requires.laid c.requires.size
    c.loop-number.invariant.0 c.piece_at-piece.ensures in
    omega (arith, stand.ends)

pub loop-number-preserved : goal.loop-number-preserved
loop-number-preserved c =
    let number = c.loop-number.number in
    let at = c.loop-number.at in
    let piece = c.piece_at-piece.result in
    let old = c.args.buffer.now.items in
    let now = c.loop-number.buffer.items in
    let d = gathered (shorter c.args.limits) c.args.count old in
    let is = found_in c.args.limits d c.args.size number piece c.requires.size c.piece_at-piece.ensures in
    let stand = stands c.args.shared c.args.limits c.args.count c.args.size number at old now piece c.requires.limits c.requires.even c.requires.laid
    c.requires.size c.loop-number.invariant.0 c.piece_at-piece.ensures in
    let count : at + 48 + piece.length - (at + 48) ≡ piece.length = omega arith in
    let body : take (at + 48 + piece.length - (at + 48)) (drop (at + 48) c.as_slice.result.now) ≡ part_of d piece =
    ap (λ (n : ℕ). take n (drop (at + 48) c.as_slice.result.now)) count
    ∙ ap (λ (xs : List ℕ). take piece.length (drop (at + 48) xs)) c.as_slice.ensures ∙ stand.body in
    let head : c.header-header.result ≡ data_in_header (fields_with c.args.shared (part_of d piece) (number, piece)) =
    c.header-header.ensures ∙ ap (λ (xs : List ℕ). data_in_header (fields_with c.args.shared xs (number, piece))) body in (
      written_more c.args.shared c.args.limits c.args.count number at old now c.put_over.new.buffer.items c.header-header.result piece
          c.loop-number.invariant.0 stand is head c.put_over.ensures.items,
      c.put_over.ensures.spare ∙ c.loop-number.invariant.1,
    )

pub returns-clause-items : goal.returns-clause-items
returns-clause-items c =
    let d = gathered (shorter c.args.limits) c.args.count c.args.buffer.now.items in
    let end : c.loop-number.number ≡ c.piece_count-number-end.result = omega (arith, c.loop-number-test.false) in
    written_all c.args.shared c.args.limits c.args.count c.loop-number.number c.loop-number.at c.args.buffer.now.items c.loop-number.buffer.items
    c.requires.limits c.requires.even c.requires.laid c.loop-number.invariant.0
    (end ∙ c.piece_count-number-end.ensures ∙ ap (λ (n : ℕ). piece_count n c.args.limits.burst c.args.limits.segment) c.requires.size)
    ∙ ap (λ (n : ℕ). flat_map (unpadded c.args.shared d) (enumerate_from 0 (pieces_of n c.args.limits.burst c.args.limits.segment))) (sym c.requires.size)
