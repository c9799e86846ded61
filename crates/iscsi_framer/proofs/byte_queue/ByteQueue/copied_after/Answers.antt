use Rattle.std.proofs.Common.{◌++◌, ◌-◌, length, replicate, List, ℕ, sym, ap, ◌∙◌, append_assoc}
use Rattle.iscsi_framer.proofs.byte_queue.ByteQueue.copied_after.Goals as goal

pub returns-clause-value : goal.returns-clause-value
returns-clause-value c =
    let kept = c.kept-kept.result.now in
    c.in_ok-put_zeros.ensures.ok
    ∙ ap (λ (x : List ℕ). x ++ replicate (c.len.result - length kept) 0)
    (c.in_ok-extend_from_slice.ensures.items ∙ ap (λ (x : List ℕ). x ++ kept) c.in_ok-bytes.ensures.items)
    ∙ append_assoc c.args.header.now kept (replicate (c.len.result - length kept) 0)
    ∙ ap (λ (x : List ℕ). c.args.header.now ++ x) (ap (λ (n : ℕ). kept ++ replicate (n - length kept) 0) c.len.ensures.value
    ∙ sym c.kept-kept.ensures.zeros)
