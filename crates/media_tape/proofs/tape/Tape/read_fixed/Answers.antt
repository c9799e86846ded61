use Rattle.std.proofs.Common.{◌≡◌, ◌*◌, ◌≤◌, ◌++◌, take, drop, sum, IsTrue, List, ℕ, refl, ap, ◌∙◌, arith}
use Rattle.std.proofs.Math.Nat.{mul-le-mul_right}
use Rattle.std.proofs.Math.Seq.{take-add}
use Rattle.std.proofs.lemmas.List.{drop-drop, length-drop, take-append-drop}
use Rattle.media_tape.specs.Items.{items_sized}
use Rattle.media_tape.specs.Fixed.{fixed}
use Rattle.tape_index.specs.SizeFixed.{fixed_passed}
use Rattle.media_tape.specs.BlockData.{data_in}
use Rattle.tape_index.specs.declared.outcome.FixedRead.{FixedRead}
use Rattle.tape_index.proofs.Alike.{sum-append}
use Rattle.tape_index.proofs.SizeFixed.{fixed-within}
use Rattle.media_tape.proofs.Fixed.{IsRead, is_read, told_of, read-sized}
use Rattle.media_tape.proofs.tape.Tape.read_fixed.Given as given
use Rattle.media_tape.proofs.tape.Tape.read_fixed.Goals as goal

pub read_blocks-requires-clause-few : goal.read_blocks-requires-clause-few
read_blocks-requires-clause-few g c =
    let old = c.self.inside in
    let within = rw (← c.blocks-read.ensures.read) at (fixed-within c.args.count c.args.block_length (drop old.position old.index.sizes)) in
    let few : c.blocks-read.result.given * c.args.block_length ≤ c.args.count * c.args.block_length =
    mul-le-mul_right c.args.block_length (omega (arith, within.few)) in
    omega (arith, few, c.requires)

pub read_blocks-requires-clause-within : goal.read_blocks-requires-clause-within
read_blocks-requires-clause-within g c =
    let old = c.self.inside in
    let within = rw (← c.blocks-read.ensures.read) at (fixed-within c.args.count c.args.block_length (drop old.position old.index.sizes)) in
    let all = ap sum (take-append-drop old.position old.index.sizes) in
    let parts = sum-append (take old.position old.index.sizes) (drop old.position old.index.sizes) in
    omega (arith, within.bytes, all, parts, c.place_of-place.ensures, c.self.invariant.fits, c.self.ranges)

-- what is read by the index is read of the items, and their bytes stand in the store
of_items : (g : given.Over) (c : goal.After-self-1 g) → IsTrue (g.S.Store.honest c.self.inside.store)
    → IsRead (g.S.Store.content c.self.inside.store) c.place_of-place.result c.args.block_length (fixed c.args.count c.args.block_length
    (drop c.self.inside.position (items_sized c.self.inside.index.sizes (g.S.Store.content c.self.inside.store)))) c.blocks-read.result
of_items g c honest =
    let old = c.self.inside in
    is_read (g.S.Store.content old.store) old.index.sizes old.is_torn c.args.count c.args.block_length old.position c.place_of-place.result
    c.blocks-read.result (c.self.invariant.are_in honest) c.self.invariant.within c.place_of-place.ensures c.blocks-read.ensures.read

-- what is read by the index is read of the items, whatever the store holds
by_items : (g : given.Over) (c : goal.After-self-1 g) → c.blocks-read.result ≡ told_of (fixed c.args.count c.args.block_length
    (drop c.self.inside.position (items_sized c.self.inside.index.sizes (g.S.Store.content c.self.inside.store))))
by_items g c =
    let old = c.self.inside in
    read-sized (g.S.Store.content old.store) old.index.sizes c.args.count c.args.block_length old.position c.blocks-read.result c.self.invariant.sized
    c.blocks-read.ensures.read

pub returns-in-Ok-clause-read : goal.returns-in-Ok-clause-read
returns-in-Ok-clause-read g c = rw (← c.self.view_is) (by_items g c)

pub returns-in-Ok-clause-few : goal.returns-in-Ok-clause-few
returns-in-Ok-clause-few g c =
    let within = rw (← c.blocks-read.ensures.read) at (fixed-within c.args.count c.args.block_length
    (drop c.self.inside.position c.self.inside.index.sizes)) in
    within.few

pub returns-in-Ok-clause-given : goal.returns-in-Ok-clause-given
returns-in-Ok-clause-given g c honest =
    let back = c.in_ok-done.ensures.kept.back honest in
    let is = of_items g c back in
    let content = g.S.Store.content c.self.inside.store in
    let given = ap (λ (r : FixedRead). r.given) is.told in
    let read = rw c.in-Ok.is at c.in_ok-done.ensures.read in
    rw (← c.self.view_is) (read honest is.within
    ∙ ap (λ (xs : List ℕ). c.args.buffer.now.items ++ xs)
    (ap (λ (n : ℕ). data_in n c.args.block_length (drop c.place_of-place.result content)) given ∙ is.bytes))

pub returns-in-Ok-clause-tape : goal.returns-in-Ok-clause-tape
returns-in-Ok-clause-tape g c =
    let old = c.self.inside in
    let items = items_sized old.index.sizes (g.S.Store.content old.store) in
    let passed : ℕ = fixed_passed (told_of (fixed c.args.count c.args.block_length (drop old.position items))) in
    let kept = c.in_ok-done.ensures.kept in
    let failures = rw c.in-Ok.is at c.in_ok-done.ensures.failures in
    rw (← c.self.view_is, kept.content, c.passed_blocks.ensures, by_items g c, take-add old.position passed items, ← drop-drop passed old.position items)
    (rw (kept.synced, failures, kept.steady, kept.reach, kept.atomic) refl)

pub returns-in-Ok-clause-succeeds : goal.returns-in-Ok-clause-succeeds
returns-in-Ok-clause-succeeds g c steady honest =
    let sure = rw c.in-Ok.is at c.in_ok-done.ensures.succeeds in
    let done = sure (rw (← c.self.view_is) at steady) (of_items g c (rw (← c.self.view_is) at honest)).within in
    rw (← c.self.view_is) (refl, done.1)

pub returns-in-Err-clause-succeeds : goal.returns-in-Err-clause-succeeds
returns-in-Err-clause-succeeds g c steady honest =
    let old = c.self.inside in
    let is = is_read (g.S.Store.content old.store) old.index.sizes old.is_torn c.args.count c.args.block_length old.position c.place_of-place.result
    c.blocks-read.result (c.self.invariant.are_in (rw (← c.self.view_is) at honest)) c.self.invariant.within c.place_of-place.ensures
    c.blocks-read.ensures.read in
    let never = rw c.in-Err.is at c.in_ok-done.ensures.succeeds in
    let done = never (rw (← c.self.view_is) at steady) is.within in
    rw (← c.self.view_is) (done.0, done.1)

pub invariant_of-self-in-Ok : goal.invariant_of-self-in-Ok
invariant_of-self-in-Ok g c =
    let old = c.self.inside in
    let within = rw (← c.blocks-read.ensures.read) at (fixed-within c.args.count c.args.block_length (drop old.position old.index.sizes)) in
    record {
      within = omega (arith, within.passed, c.passed_blocks.ensures, length-drop old.position old.index.sizes, c.self.invariant.within);
      fits = c.self.invariant.fits;
      sized = c.self.invariant.sized;
      are_in = λ honest. rw c.in_ok-done.ensures.kept.content (c.self.invariant.are_in (c.in_ok-done.ensures.kept.back honest));
    }

pub returns-in-Ok-clause-unread : goal.returns-in-Ok-clause-unread
returns-in-Ok-clause-unread g c none =
    let given = ap (λ (r : FixedRead). r.given) (by_items g c) ∙ (rw (← c.self.view_is) at none) in
    let kept = (rw c.in-Ok.is at c.in_ok-done.ensures.none) given in
    rw (← c.self.view_is) (refl, ap g.S.Store.honest kept.1)

pub returns-in-Err-clause-unread : goal.returns-in-Err-clause-unread
returns-in-Err-clause-unread g c none =
    let old = c.self.inside in
    let told = read-sized (g.S.Store.content old.store) old.index.sizes c.args.count c.args.block_length old.position c.blocks-read.result
    c.self.invariant.sized c.blocks-read.ensures.read in
    let given = ap (λ (r : FixedRead). r.given) told ∙ (rw (← c.self.view_is) at none) in
    let kept = (rw c.in-Err.is at c.in_ok-done.ensures.none) given in
    rw (← c.self.view_is) (kept.0, ap g.S.Store.honest kept.1)
