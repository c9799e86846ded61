use Rattle.std.proofs.Common.{◌≡◌, ℕ, ◌+◌, ◌-◌, length, drop, ap, ◌∙◌, arith}
use Rattle.iscsi_transfer.specs.Counted.{brought}
use Rattle.iscsi_transfer.specs.WriteData.{WriteDataState, bursts_in, filled}
use Rattle.iscsi_transfer.proofs.Counting.{counts}
use Rattle.iscsi_transfer.proofs.Inside.{filled_is, seen}
use Rattle.iscsi_transfer.proofs.Open.{reached, left_open}
use Rattle.iscsi_transfer.proofs.progress.Progress.accept_by.Goals as goal

pub grow-requires-clause-numbered : goal.grow-requires-clause-numbered
grow-requires-clause-numbered c =
    (counts c.args.self.now c.args.header.now c.args.size (seen c.self.inside c.args.self.now c.self.invariant c.self.view_is) c.requires.lawful).numbered

pub grow-requires-clause-short : goal.grow-requires-clause-short
grow-requires-clause-short c =
    (counts c.args.self.now c.args.header.now c.args.size (seen c.self.inside c.args.self.now c.self.invariant c.self.view_is) c.requires.lawful).short

pub remove-requires : goal.remove-requires
remove-requires c =
    let old = c.args.self.now in
    let new = c.grow.new.self in
    let takes =
    (counts old c.args.header.now c.args.size (seen c.self.inside old c.self.invariant c.self.view_is) c.requires.lawful).takes in
    let kept : c.self-2.inside.open_tags.items ≡ old.open_tags =
    ap (λ (t : WriteDataState). t.open_tags) c.self-2.view_is ∙ ap (λ (t : WriteDataState). t.open_tags) c.grow.ensures.grown in (
      omega arith,
      omega (
        arith,
        ap length kept,
        c.filled-filled.ensures.value,
        c.filled-filled.ensures.counted,
        c.filled.ensures.value,
        c.if-filled.true,
        reached old new (brought c.args.header.now c.args.size) c.grow.ensures.grown,
        takes.opened,
      ),
    )

-- the last byte of an R2T has come, so it is open no more
pub returns-then-filled : goal.returns-then-filled
returns-then-filled c =
    let old = c.args.self.now in
    let new = c.grow.new.self in
    let takes =
    (counts old c.args.header.now c.args.size (seen c.self.inside old c.self.invariant c.self.view_is) c.requires.lawful).takes in
    let inside = c.self-2.inside in
    let tags = c.remove.new.self.items in
    let k = bursts_in inside.is_open inside.length inside.unsolicited inside.burst in
    let is : k ≡ filled new = filled_is inside ∙ ap filled c.self-2.view_is in
    let before : c.filled-filled.result ≡ filled old = c.filled-filled.ensures.value in
    let one : 1 ≡ k - filled old = omega (
      arith,
      is,
      before,
      c.filled.ensures.value,
      c.if-filled.true,
      reached old new (brought c.args.header.now c.args.size) c.grow.ensures.grown,
      takes.step,
    ) in
    let counted : old.sent ≡ filled old + length old.open_tags = omega (arith, before, c.filled-filled.ensures.counted) in
    let kept : inside.open_tags.items ≡ old.open_tags =
    ap (λ (t : WriteDataState). t.open_tags) c.self-2.view_is ∙ ap (λ (t : WriteDataState). t.open_tags) c.grow.ensures.grown in
    ap (λ (t : WriteDataState). let s : WriteDataState = record t { sent = k + length tags; open_tags = tags } in s) c.self-2.view_is
    ∙ left_open old new (brought c.args.header.now c.args.size) k tags c.grow.ensures.grown is counted takes
    (c.remove.ensures.items ∙ ap (drop 1) kept ∙ ap (λ (n : ℕ). drop n old.open_tags) one)

pub returns-else-filled : goal.returns-else-filled
returns-else-filled c =
    let old = c.args.self.now in
    let new = c.grow.new.self in
    let takes =
    (counts old c.args.header.now c.args.size (seen c.self.inside old c.self.invariant c.self.view_is) c.requires.lawful).takes in
    let k = c.filled.result in
    let before : c.filled-filled.result ≡ filled old = c.filled-filled.ensures.value in
    let none : 0 ≡ k - filled old = omega (arith, before, c.if-filled.false) in
    let counted : old.sent ≡ filled old + length old.open_tags = omega (arith, before, c.filled-filled.ensures.counted) in
    let kept : new.open_tags ≡ old.open_tags = ap (λ (t : WriteDataState). t.open_tags) c.grow.ensures.grown in
    ap (λ (n : ℕ). let s : WriteDataState = record new { sent = n } in s) c.filled.ensures.counted
    ∙ left_open old new (brought c.args.header.now c.args.size) k new.open_tags c.grow.ensures.grown c.filled.ensures.value counted takes
    (kept ∙ ap (λ (n : ℕ). drop n old.open_tags) none)
