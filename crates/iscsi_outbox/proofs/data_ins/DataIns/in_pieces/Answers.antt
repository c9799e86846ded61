use Rattle.std.proofs.Common.{◌≡◌, ◌-◌, ◌*◌, ◌++◌, ◌∙◌, ℕ, List, length, take, [], ◌∷◌, ap, sym, arith}
use Rattle.std.proofs.lemmas.List.{length-append}
use Rattle.std.specs.List.{flat_map, enumerate_from}
use Rattle.scsi_sense.specs.Given.{gathered, IsLaid}
use Rattle.scsi_sense.proofs.Laid.{gathered_long}
use Rattle.iscsi_pdu.specs.Answer.{spelling}
use Rattle.iscsi_pdu.specs.Segment.{padded as padded_length}
use Rattle.iscsi_pdu.specs.declared.answer.Answer.{Answer}
use Rattle.iscsi_transfer.specs.DataIn.{pieces_of}
use Rattle.iscsi_outbox.specs.declared.shared.SharedFields.{SharedFields}
use Rattle.iscsi_outbox.specs.declared.limits.Limits.{Limits}
use Rattle.iscsi_outbox.specs.Answer.{AreAligned, answered, shorter, unpadded}
use Rattle.iscsi_outbox.proofs.Starts.{padding, padding_is, laid_answered}
use Rattle.iscsi_outbox.proofs.Wholes.{answer_whole}
use Rattle.iscsi_outbox.proofs.data_ins.DataIns.in_pieces.Goals as goal

-- how much data there is
size_is : (p count size : ℕ) (items : List ℕ) → IsLaid p count items → size ≡ length items → size - 48 * count ≡ length (gathered p count items)
size_is p count size items laid is = omega (arith, is, gathered_long p count items laid)

-- what is written in the end
written : (shared : SharedFields) (limits : Limits) (count size : ℕ) (old headed padded put : List ℕ) (last : Answer) → AreAligned limits
    → size ≡ length (gathered (shorter limits) count old)
    → headed ≡ flat_map (unpadded shared (gathered (shorter limits) count old)) (enumerate_from 0 (pieces_of size limits.burst limits.segment))
    → padded ≡ headed ++ take (padded_length size - size) (0 ∷ 0 ∷ 0 ∷ []) → put ≡ padded ++ spelling last
    → put ≡ answered shared limits (gathered (shorter limits) count old) (spelling last)
written shared limits count size old headed padded put last aligned is e f g =
    laid_answered shared limits (gathered (shorter limits) count old) (spelling last) put size aligned is
    (g ∙ ap (λ (xs : List ℕ). xs ++ spelling last)
    (f ∙ ap (λ (xs : List ℕ). headed ++ xs) (padding_is size) ∙ ap (λ (xs : List ℕ). xs ++ padding size) e))

pub put_headers-requires-clause-size : goal.put_headers-requires-clause-size
put_headers-requires-clause-size c =
    size_is (shorter c.args.limits) c.args.count c.len.result c.args.buffer.items c.requires.laid c.len.ensures.value

pub put_headers-requires-clause-short : goal.put_headers-requires-clause-short
put_headers-requires-clause-short c =
    omega (arith, c.requires.short, c.len.ensures.value, gathered_long (shorter c.args.limits) c.args.count c.args.buffer.items c.requires.laid)

pub ready-requires-clause-room : goal.ready-requires-clause-room
ready-requires-clause-room c =
    let put = ap (λ (xs : List ℕ). length xs) c.put.ensures.written in
    let padded = ap (λ (xs : List ℕ). length xs) c.extend_reserved.ensures.items in
    let some = c.requires.laid.some in
    omega (
      arith,
      put,
      padded,
      some,
      c.put_headers.ensures.long,
      gathered_long (shorter c.args.limits) c.args.count c.args.buffer.items c.requires.laid,
      length-append c.extend_reserved.new.self.items (spelling c.args.last.now),
      length-append c.put_headers.new.buffer.items (take c.padding.result (0 ∷ 0 ∷ 0 ∷ [])),
    )

pub invariant_of-result : goal.invariant_of-result
invariant_of-result c =
    let limits = c.args.limits in
    let size = size_is (shorter limits) c.args.count c.len.result c.args.buffer.items c.requires.laid c.len.ensures.value in
    let all = written c.args.shared limits c.args.count _ c.args.buffer.items c.put_headers.new.buffer.items c.extend_reserved.new.self.items
    c.put.new.buffer.items c.args.last.now c.requires.limits size c.put_headers.ensures.items
    (c.extend_reserved.ensures.items ∙ ap (λ (n : ℕ). c.put_headers.new.buffer.items ++ take n (0 ∷ 0 ∷ 0 ∷ [])) c.padding.ensures.value)
    c.put.ensures.written in (
      c.ready.ensures.ready,
      c.len-rest.ensures.value ∙ ap (λ (xs : List ℕ). length xs) (sym c.ready.ensures.value),
      answer_whole _ c.args.shared limits (gathered (shorter limits) c.args.count c.args.buffer.items) c.args.last.now (c.ready.ensures.value ∙ all),
    )

pub returns : goal.returns
returns c =
    let limits = c.args.limits in
    let size = size_is (shorter limits) c.args.count c.len.result c.args.buffer.items c.requires.laid c.len.ensures.value in
    c.ready.ensures.value
    ∙ written c.args.shared limits c.args.count _ c.args.buffer.items c.put_headers.new.buffer.items c.extend_reserved.new.self.items
    c.put.new.buffer.items c.args.last.now c.requires.limits size c.put_headers.ensures.items
    (c.extend_reserved.ensures.items ∙ ap (λ (n : ℕ). c.put_headers.new.buffer.items ++ take n (0 ∷ 0 ∷ 0 ∷ [])) c.padding.ensures.value)
    c.put.ensures.written
