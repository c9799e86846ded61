use Rattle.std.proofs.Common.{◌≡◌, ◌≤◌, ◌-◌, ◌∙◌, ap, sym, ℕ, List, length, take, drop, slice_range, arith, length-drop}
use Rattle.std.proofs.lemmas.List.{length-take}
use Rattle.iscsi_outbox.specs.Cursor.{left}
use Rattle.iscsi_outbox.proofs.Moves.{fronts, some_stand}
use Rattle.iscsi_outbox.proofs.Wholes.{front_ends}
use Rattle.iscsi_outbox.proofs.cursor.Cursor.front.Goals as goal

long : (xs : List ℕ) (at end : ℕ) → end ≤ length xs → length (take (end - at) (drop at xs)) ≡ end - at
long xs at end within = simp (length-take, length-drop) (omega arith)

pub returns-clause-prefix : goal.returns-clause-prefix
returns-clause-prefix c =
    let old = c.args.self.now in
    let end = c.end.result in
    let is = fronts old end c.requires.placed c.end.ensures.more c.end.ensures.last c.end.ensures.ahead in
    let items = old.buffer.items in
    ap (λ (xs : List ℕ). slice_range xs old.at end) c.as_slice.ensures ∙ is.1
    ∙ ap (λ (n : ℕ). take n (left old)) (sym (long items old.at end is.0) ∙ ap (λ (xs : List ℕ). length (slice_range xs old.at end)) (sym c.as_slice.ensures))

pub returns-clause-some : goal.returns-clause-some
returns-clause-some c some =
    let old = c.args.self.now in
    let end = c.end.result in
    let is = fronts old end c.requires.placed c.end.ensures.more c.end.ensures.last c.end.ensures.ahead in
    let before = some_stand old end c.requires c.end.ensures.more c.end.ensures.last some in
    let room = ap (λ (xs : List ℕ). length xs) c.as_slice.ensures in
    omega (arith, before, room, is.0, long c.as_slice.result.now old.at end (omega (arith, room, is.0)))

pub returns-clause-ends : goal.returns-clause-ends
returns-clause-ends c =
    let items = c.as_slice.ensures in
    front_ends c.args.self.now _ c.end.result (ap (λ (xs : List ℕ). slice_range xs c.args.self.now.at c.end.result) items) c.requires.placed
    c.end.ensures.more c.end.ensures.last
