use Rattle.std.proofs.Common.{List, ℕ, length, ap, arith, length-drop}
use Rattle.scsi_sense.proofs.Laid.{gathered_long}
use Rattle.scsi_sense.proofs.given.Given.len.Goals as goal

pub returns-in-None-clause-value : goal.returns-in-None-clause-value
returns-in-None-clause-value c =
    let whole = ap (λ (xs : List ℕ). length xs) (rw c.in-None.is at c.self.view_is) in
    omega (arith, whole, c.saturating_sub.ensures, c.len.ensures.value, length-drop 48 c.self.inside.buffer.items)

pub returns-in-Some-clause-value : goal.returns-in-Some-clause-value
returns-in-Some-clause-value c =
    let pieces = c.in-Some.pieces in
    let whole = ap (λ (xs : List ℕ). length xs) (rw c.in-Some.is at c.self.view_is) in
    let long = gathered_long pieces.length pieces.count c.self.inside.buffer.items (rw c.in-Some.is at c.self.invariant.1) in
    omega (arith, whole, long, c.len-in-Some.ensures.value)
