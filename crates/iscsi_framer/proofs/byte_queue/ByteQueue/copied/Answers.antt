use Rattle.std.proofs.Common.{◌≡◌, ℕ, ◌-◌, List, ◌++◌, length, take, drop, replicate, sym, ap, ◌∙◌, arith}
use Rattle.std.proofs.lemmas.List.{take_rest}
use Rattle.iscsi_pdu.proofs.Zeros.{part_with_zeros}
use Rattle.iscsi_framer.proofs.byte_queue.ByteQueue.copied.Goals as goal

pub returns-clause-value : goal.returns-clause-value
returns-clause-value c =
    let kept = c.kept-kept.result.now in
    let start = c.min-start.result in
    let some = c.min-some.result in
    let front : c.in_ok-bytes.bytes.items ≡ take some (drop start kept) =
    c.in_ok-bytes.ensures.items ∙ ap (take some) (take_rest kept start) in
    c.in_ok-put_zeros.ensures.ok ∙ ap (λ (x : List ℕ). x ++ replicate (c.args.count - some) 0) front
    ∙ sym (part_with_zeros kept (length c.args.self.now - length kept) c.args.from c.args.count start some
    (omega (arith, c.requires, c.kept-kept.ensures.within)) (omega arith) (omega arith))
    ∙ ap (λ (x : List ℕ). take c.args.count (drop c.args.from x)) (sym c.kept-kept.ensures.zeros)
