use Rattle.std.proofs.Common.{◌≡◌, ℕ, ◌+◌, ◌-◌, ◌≤◌, List, length, take, drop, slice_range, ap, sym, ◌∙◌, arith}
use Rattle.std.proofs.Math.Nat.{add-sub_cancel_left}
use Rattle.byteorder.specs.Endian.{big_number}
use Rattle.bytes.proofs.Ranges.{slice_range_within}
use Rattle.media_tape.proofs.window.Window.number.Goals as goal

-- four bytes within those of a content from an offset on
four : (bytes content : List ℕ) (from at : ℕ) → bytes ≡ slice_range content from (from + length bytes) → from ≤ at → at + 4 ≤ from + length bytes
    → slice_range bytes (at - from) (at - from + 4) ≡ slice_range content at (at + 4)
four bytes content from at is low high =
    let held : take (length bytes) (drop from content) ≡ bytes = ap (λ n. take n (drop from content)) (sym (add-sub_cancel_left from (length bytes))) ∙ sym is in
    let end : at + 4 - from ≡ at - from + 4 = omega arith in
    ap (slice_range bytes (at - from)) (sym end) ∙ sym (slice_range_within content bytes from at (at + 4) held low (omega arith) high)

pub returns : goal.returns
returns c content shows =
    let bytes = rw c.as_slice.ensures at c.read_u32.ensures in
    bytes ∙ ap (big_number 4) (four c.args.self.now.bytes.items content c.args.self.now.offset c.args.at shows c.requires.holds.from c.requires.holds.to)
