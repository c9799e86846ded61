use Rattle.std.proofs.Common.{◌≡◌, ◌+◌, ◌-◌, ◌<◌, ◌≤◌, ◌==◌, ◌++◌, [], false, min, length, take}
use Rattle.std.proofs.Common.{drop, sum, slice_range, IsTrue, List, ℕ, refl, sym, ap, ◌∙◌, arith, rules}
use Rattle.std.proofs.Math.Seq.{take-add}
use Rattle.std.proofs.lemmas.List.{append-nil, drop_all, drop-drop, take_all, take-take, take_min, length-take}
use Rattle.media_tape.specs.Items.{items_sized}
use Rattle.media_tape.proofs.Spelled.{slice-is}
use Rattle.media_tape.proofs.Sized.{IsAt, is_at-sized, length-sized}
use Rattle.media_tape.proofs.Indexed.{IsNext, is_next, next-within}
use Rattle.media_tape.proofs.tape.Tape.read.Given as given
use Rattle.media_tape.proofs.tape.Tape.read.Goals as goal

shorter : (content : List ℕ) (from asked n given : ℕ) → given ≡ min asked n
    → slice_range content from (from + given) ≡ take asked (slice_range content from (from + n))
shorter content from asked n given is =
    let rest = take n (drop from content) in
    let many : min given (length rest) ≡ min asked (length rest) = omega (arith, length-take n (drop from content)) in
    slice-is from given content ∙ sym (take-take given n (drop from content) (omega arith))
    ∙ sym (take_min given rest) ∙ ap (λ k. take k rest) many ∙ take_min asked rest ∙ ap (take asked) (sym (slice-is from n content))

pub overflow_add-place : goal.overflow_add-place
overflow_add-place g c =
    let old = c.self.inside in
    let less : old.position < length old.index.sizes = omega (arith, c.self.invariant.within, c.count.ensures, c.if-self-count.false) in
    let next = next-within old.index.sizes old.position less in
    omega (arith, next, c.size_at-length.ensures.size, c.size_at-length.ensures.least, c.place_of-place.ensures, c.self.invariant.fits, c.self.ranges)

next : (g : given.Over) (c : goal.After-passed_item g) → IsTrue (g.S.Store.honest c.self.inside.store)
    → IsNext (g.S.Store.content c.self.inside.store) c.self.inside.index.sizes (items_sized c.self.inside.index.sizes (g.S.Store.content c.self.inside.store)) c.self.inside.position (c.size_at-length.result - 8)
next g c honest =
    let old = c.self.inside in
    is_next (g.S.Store.content old.store) old.index.sizes old.is_torn old.position c.size_at-length.result (c.self.invariant.are_in honest)
    (omega (arith, c.self.invariant.within, c.count.ensures, c.if-self-count.false)) (sym c.size_at-length.ensures.size)

-- nothing is after the position
nothing : (g : given.Over) (c : goal.Then-self-count g)
    → drop c.self.inside.position (items_sized c.self.inside.index.sizes (g.S.Store.content c.self.inside.store)) ≡ []
nothing g c =
    let old = c.self.inside in
    let content = g.S.Store.content old.store in
    drop_all old.position (items_sized old.index.sizes content)
    (omega (arith, length-sized old.index.sizes content, c.count.ensures, c.if-self-count.true))

pub returns-then-self-count-clause-passed : goal.returns-then-self-count-clause-passed
returns-then-self-count-clause-passed g c =
    let some : (c.args.asked == 0) ≡ false = search rules in
    rw (← c.self.view_is, some, nothing g c) refl

pub returns-then-self-count-clause-given : goal.returns-then-self-count-clause-given
returns-then-self-count-clause-given g c honest =
    let none : take {A = ℕ} c.args.asked [] ≡ [] = take_all c.args.asked [] (omega arith) in
    rw (← c.self.view_is, nothing g c, none) (sym (append-nil c.args.buffer.now.items))

pub returns-then-self-count-clause-tape : goal.returns-then-self-count-clause-tape
returns-then-self-count-clause-tape g c =
    let old = c.self.inside in
    let some : (c.args.asked == 0) ≡ false = search rules in
    rw (← c.self.view_is, some, nothing g c, append-nil (take old.position (items_sized old.index.sizes (g.S.Store.content old.store)))) refl

-- and its length, whatever the store holds
lies : (g : given.Over) (c : goal.After-passed_item g) → IsAt (items_sized c.self.inside.index.sizes (g.S.Store.content c.self.inside.store))
    c.self.inside.position (c.size_at-length.result - 8)
lies g c =
    let old = c.self.inside in
    is_at-sized (g.S.Store.content old.store) old.index.sizes old.position c.size_at-length.result c.self.invariant.sized
    (omega (arith, c.self.invariant.within, c.count.ensures, c.if-self-count.false)) (sym c.size_at-length.ensures.size)

pub returns-in-Ok-clause-passed : goal.returns-in-Ok-clause-passed
returns-in-Ok-clause-passed g c =
    let some : (c.args.asked == 0) ≡ false = search rules in
    rw (← c.self.view_is, some) (c.passed_item.ensures ∙ (lies g c).told)

pub returns-in-Ok-clause-given : goal.returns-in-Ok-clause-given
returns-in-Ok-clause-given g c honest =
    let old = c.self.inside in
    let content = g.S.Store.content old.store in
    let n : ℕ = c.size_at-length.result - 8 in
    let that = next g c (c.in-Ok.ensures.kept.back honest) in
    let place = sum (take old.position old.index.sizes) in
    let least : c.min-given.result ≡ min c.args.asked n = c.min-given.ensures in
    let within : place + 4 + c.min-given.result ≤ length content = omega (arith, that.within, least) in
    let read = rw (c.place_of-place.ensures, c.in_ok-reserve.ensures.items) at (c.in-Ok.ensures.read honest (rw c.place_of-place.ensures within)) in
    rw (← c.self.view_is) (read ∙ ap (λ (xs : List ℕ). c.args.buffer.now.items ++ xs)
    (shorter content (place + 4) c.args.asked n c.min-given.result least ∙ ap (take c.args.asked) that.given))

pub returns-in-Ok-clause-tape : goal.returns-in-Ok-clause-tape
returns-in-Ok-clause-tape g c =
    let old = c.self.inside in
    let items = items_sized old.index.sizes (g.S.Store.content old.store) in
    let some : (c.args.asked == 0) ≡ false = search rules in
    let kept = c.in-Ok.ensures.kept in
    rw (← c.self.view_is, some, kept.content, take-add old.position 1 items, ← drop-drop 1 old.position items)
    (rw (kept.synced, c.in-Ok.ensures.failures, kept.steady, kept.reach, kept.atomic) refl)

pub returns-in-Ok-clause-succeeds : goal.returns-in-Ok-clause-succeeds
returns-in-Ok-clause-succeeds g c steady honest =
    let old = c.self.inside in
    let that = next g c (rw (← c.self.view_is) at honest) in
    let least : c.min-given.result ≡ min c.args.asked (c.size_at-length.result - 8) = c.min-given.ensures in
    let within : sum (take old.position old.index.sizes) + 4 + c.min-given.result ≤ length (g.S.Store.content old.store) =
    omega (arith, that.within, least) in
    rw (← c.self.view_is) (refl, (c.in-Ok.ensures.succeeds (rw (← c.self.view_is) at steady) (rw c.place_of-place.ensures within)).1)

pub returns-in-Ok-clause-unread : goal.returns-in-Ok-clause-unread
returns-in-Ok-clause-unread g c none =
    let empty = sym (lies g c).long ∙ ap length (rw (← c.self.view_is) at none) in
    let least : c.min-given.result ≡ min c.args.asked (c.size_at-length.result - 8) = c.min-given.ensures in
    let kept = c.in-Ok.ensures.none (omega (arith, empty, least)) in
    rw (← c.self.view_is) (refl, ap g.S.Store.honest kept.1)

pub returns-in-Err-clause-unread : goal.returns-in-Err-clause-unread
returns-in-Err-clause-unread g c none =
    let old = c.self.inside in
    let that = is_at-sized (g.S.Store.content old.store) old.index.sizes old.position c.size_at-length.result c.self.invariant.sized
    (omega (arith, c.self.invariant.within, c.count.ensures, c.if-self-count.false)) (sym c.size_at-length.ensures.size) in
    let empty = sym that.long ∙ ap length (rw (← c.self.view_is) at none) in
    let least : c.min-given.result ≡ min c.args.asked (c.size_at-length.result - 8) = c.min-given.ensures in
    let kept = c.in-Err.ensures.none (omega (arith, empty, least)) in
    rw (← c.self.view_is) (kept.0, ap g.S.Store.honest kept.1)
