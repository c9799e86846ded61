use Rattle.std.proofs.Common.{◌≡◌, ◌+◌, ◌*◌, ◌++◌, length, slice_range, List, ℕ, ap, ◌∙◌, arith}
use Rattle.std.proofs.lemmas.List.{length-append}
use Rattle.std.proofs.lemmas.Result.{on_ok_weaker}
use Rattle.media_tape.specs.BlockData.{data_in}
use Rattle.media_tape.proofs.BlockData.{data-one, data-slice, length-data}
use Rattle.media_tape.proofs.read.read_blocks.Goals as goal

pub returns-then-count-eq1-clause-read : goal.returns-then-count-eq1-clause-read
returns-then-count-eq1-clause-read g c =
    let content = g.S.Store.content c.args.store.now in
    let n = c.args.block_length in
    on_ok_weaker c.read_behind.result (λ read honest within.
    let one : c.args.count * (n + 8) ≡ n + 8 = ap (λ (k : ℕ). k * (n + 8)) c.if-count-eq1.true ∙ omega arith in
    let is = read honest (omega (arith, one, within)) in
    is ∙ ap (λ (xs : List ℕ). xs ++ slice_range content (c.args.place + 4) (c.args.place + 4 + n)) c.in_ok-reserve.ensures.items
    ∙ ap (λ (xs : List ℕ). c.args.buffer.now.items ++ xs) (data-one c.args.count n c.args.place content c.if-count-eq1.true))
    c.read_behind.ensures.read

pub returns-in-Ok-clause-read : goal.returns-in-Ok-clause-read
returns-in-Ok-clause-read g c honest within =
    let content = g.S.Store.content c.args.store.now in
    let n = c.args.block_length in
    let old = c.args.buffer.now.items in
    let items = c.as_slice.ensures ∙ rw c.in_ok-items.ensures.items at (c.in-Ok.ensures.read honest within) in
    c.put_data.ensures.items ∙ ap (λ (xs : List ℕ). xs ++ data_in c.args.count n c.as_slice.result.now) c.in_ok-reserve.ensures.items
    ∙ ap (λ (xs : List ℕ). old ++ data_in c.args.count n xs) items
    ∙ ap (λ (xs : List ℕ). old ++ xs) (data-slice c.args.count n c.args.place content)

pub returns-in-Ok-clause-length : goal.returns-in-Ok-clause-length
returns-in-Ok-clause-length g c =
    let n = c.args.block_length in
    let raw = c.as_slice.result.now in
    let many : length raw ≡ c.args.count * (n + 8) =
    ap length c.as_slice.ensures ∙ omega (arith, c.in-Ok.ensures.length, ap length c.in_ok-items.ensures.items) in
    let given = length-data c.args.count n raw (omega (arith, many)) in
    ap length c.put_data.ensures.items ∙ length-append c.reserve.new.self.items (data_in c.args.count n raw)
    ∙ omega (arith, ap length c.in_ok-reserve.ensures.items, given)
