use Rattle.std.proofs.Common.{◌≡◌, ◌+◌, ◌-◌, ◌*◌, ◌/◌, ◌≤◌, ◌<◌, min, length, map, List, ℕ, [], ◌∷◌, ◌==◌, false, refl, sym, ap, ◌∙◌, arith}
use Rattle.std.proofs.Math.Nat.{mul-le-mul_left, mul-le-mul_right}
use Rattle.std.proofs.lemmas.List.Sums.{sum_by-take-le}
use Rattle.media_tape.specs.Items.{Item, most_bytes, size, size_of, items_of}
use Rattle.media_tape.specs.Tape.{TapeState, size_told, wrote_if_told}
use Rattle.media_tape.specs.Fixed.{tape_written_fixed}
use Rattle.media_tape.specs.Writing.{part_told}
use Rattle.media_tape.specs.declared.outcome.Written.{Written}
use Rattle.media_tape.proofs.Indexed.{placed}
use Rattle.media_tape.proofs.Spelled.{AreBlocks, are_blocks}
use Rattle.media_tape.proofs.Commands.{are_some, AreFitting, are_fitting, fitting_told_fixed, fitting_tape_fixed, none_told, none_tape}
use Rattle.media_tape.proofs.tape.Tape.write_fixed.Given as given
use Rattle.media_tape.proofs.tape.Tape.write_fixed.Goals as goal

some_bytes : (bytes : List ℕ) → false ≡ (length bytes == 0) → 0 < length bytes
some_bytes [] some = absurd cc
some_bytes (byte ∷ bytes) some = omega arith

pub overflow_add-size : goal.overflow_add-size
overflow_add-size g c =
    let bytes : 0 < length c.args.bytes.now = some_bytes c.args.bytes.now c.if-is_empty.ensures in
    let are = are_some c.args.count c.args.block_length (omega (arith, bytes, c.requires.whole)) in
    omega (arith, are.short, c.requires.few)

pub overflow_sub-room : goal.overflow_sub-room
overflow_sub-room g c =
    let old = c.self.inside in
    omega (arith, c.place_of.ensures, sum_by-take-le (λ n. n) old.index.sizes old.position, c.self.invariant.fits)

-- so many fit as the tape has room for
as_fitting : (tape : TapeState) (place capacity count of block_length size fits : ℕ) → size_of tape.before ≡ place → tape.capacity ≡ capacity
    → size ≡ block_length + 8 → of ≡ count → fits ≡ min ((capacity - place) / size) of
    → fits ≡ min ((tape.capacity - size_of tape.before) / (block_length + 8)) count
as_fitting tape place capacity count of block_length size fits before capacity_is size_is of_is is = cc

none_fits : (g : given.Over) (c : goal.Then-fitting-eq0 g)
    → 0 ≡ min c.args.count ((c.args.self.now.capacity - size_of c.args.self.now.before) / (c.args.block_length + 8))
none_fits g c =
    let old = c.self.inside in
    let here : size_of c.args.self.now.before ≡ c.place_of.result =
    rw (← c.self.view_is) (placed (g.S.Store.content old.store) old.index.sizes old.position c.self.invariant.sized ∙ sym c.place_of.ensures) in
    let fits = as_fitting c.args.self.now c.place_of.result old.capacity c.args.count c.from-2.result c.args.block_length c.from.result
    c.min-fitting.result here (rw (← c.self.view_is) refl) c.from.ensures c.from-2.ensures c.min-fitting.ensures in
    omega (arith, fits, c.if-fitting-eq0.true)

pub returns-then-fitting-eq0-clause-told : goal.returns-then-fitting-eq0-clause-told
returns-then-fitting-eq0-clause-told g c =
    let bytes : 0 < length c.args.bytes.now = some_bytes c.args.bytes.now c.if-is_empty.ensures in
    none_told c.args.count c.args.block_length c.args.self.now (omega (arith, bytes, c.requires.whole)) (none_fits g c)

pub returns-then-fitting-eq0-clause-tape : goal.returns-then-fitting-eq0-clause-tape
returns-then-fitting-eq0-clause-tape g c honest =
    let bytes : 0 < length c.args.bytes.now = some_bytes c.args.bytes.now c.if-is_empty.ensures in
    none_tape c.args.count c.args.block_length c.args.bytes.now c.args.self.now (omega (arith, bytes, c.requires.whole)) (none_fits g c)

pub spelled-requires-clause-few : goal.spelled-requires-clause-few
spelled-requires-clause-few g c =
    let bytes : 0 < length c.args.bytes.now = some_bytes c.args.bytes.now c.if-is_empty.ensures in
    let are = are_some c.args.count c.args.block_length (omega (arith, bytes, c.requires.whole)) in
    omega (arith, mul-le-mul_left c.args.count are.some_length, c.requires.few, c.min-fitting.ensures, c.from-2.ensures)

pub spelled-requires-clause-short : goal.spelled-requires-clause-short
spelled-requires-clause-short g c =
    let bytes : 0 < length c.args.bytes.now = some_bytes c.args.bytes.now c.if-is_empty.ensures in
    let are = are_some c.args.count c.args.block_length (omega (arith, bytes, c.requires.whole)) in
    omega (arith, are.short, c.requires.few)

pub spelled-requires-clause-enough : goal.spelled-requires-clause-enough
spelled-requires-clause-enough g c =
    let few : c.min-fitting.result ≤ c.args.count = omega (arith, c.min-fitting.ensures, c.from-2.ensures) in
    omega (arith, mul-le-mul_right c.args.block_length few, c.requires.whole)

-- ---- some fit

spelled_are : (count block_length fits : ℕ) (bytes : List ℕ) → 0 < length bytes → length bytes ≡ count * block_length
    → count * block_length ≤ most_bytes → fits ≤ count → AreBlocks fits block_length bytes
spelled_are count block_length fits bytes some whole most few =
    let are = are_some count block_length (omega (arith, some, whole)) in
    let less : fits * block_length ≤ count * block_length = mul-le-mul_right block_length few in
    are_blocks fits block_length bytes are.some_length (omega (arith, are.short, most)) (omega (arith, less, whole))

pub put-requires : goal.put-requires
put-requires g c =
    let bytes : 0 < length c.args.bytes.now = some_bytes c.args.bytes.now c.if-is_empty.ensures in
    let are = spelled_are c.args.count c.args.block_length c.min-fitting.result c.args.bytes.now bytes c.requires.whole c.requires.few
    (omega (arith, c.min-fitting.ensures, c.from-2.ensures)) in
    let some = are_some c.args.count c.args.block_length (omega (arith, bytes, c.requires.whole)) in
    record {
      sized = ap (λ (xs : List ℕ). map size (items_of xs)) c.in_ok-spelled.ensures ∙ ap (map size) are.items ∙ are.sizes;
      total = ap length c.in_ok-spelled.ensures ∙ are.long;
      some = omega (arith, c.if-fitting-eq0.false);
      least = omega arith;
      most = omega (arith, some.short, c.requires.few);
    }

are : (g : given.Over) (c : goal.Joined-blocks-2 g) → AreBlocks c.min-fitting.result c.args.block_length c.args.bytes.now
are g c =
    let bytes : 0 < length c.args.bytes.now = some_bytes c.args.bytes.now c.if-is_empty.ensures in
    spelled_are c.args.count c.args.block_length c.min-fitting.result c.args.bytes.now bytes c.requires.whole c.requires.few
    (omega (arith, c.min-fitting.ensures, c.from-2.ensures))

fitting : (g : given.Over) (c : goal.Joined-blocks-2 g)
    → AreFitting c.args.count c.args.block_length c.min-fitting.result c.args.self.now
fitting g c =
    let old = c.self.inside in
    let here : size_of c.args.self.now.before ≡ c.place_of.result =
    rw (← c.self.view_is) (placed (g.S.Store.content old.store) old.index.sizes old.position c.self.invariant.sized ∙ sym c.place_of.ensures) in
    let capacity : c.args.self.now.capacity ≡ old.capacity = rw (← c.self.view_is) refl in
    are_fitting c.args.count c.args.block_length c.min-fitting.result c.args.self.now
    (as_fitting c.args.self.now c.place_of.result old.capacity c.args.count c.from-2.result c.args.block_length c.from.result c.min-fitting.result here
    capacity c.from.ensures c.from-2.ensures c.min-fitting.ensures)
    (omega (arith, here, capacity, c.place_of.ensures, sum_by-take-le (λ n. n) old.index.sizes old.position, c.self.invariant.fits))
    (omega (arith, c.if-fitting-eq0.false))

pub returns-in-Ok-clause-told : goal.returns-in-Ok-clause-told
returns-in-Ok-clause-told g c =
    let tape = c.args.self.now in
    let fits = c.min-fitting.result in
    let bytes : 0 < length c.args.bytes.now = some_bytes c.args.bytes.now c.if-is_empty.ensures in
    let total = ap length c.in_ok-spelled.ensures ∙ (are g c).long in
    let told = rw c.in-Ok.is at c.in_ok-done.ensures.told in
    c.blocks_written.ensures
    ∙ ap (λ (t : Written). part_told t fits c.args.count) (told ∙ ap (λ (n : ℕ). size_told n tape) total)
    ∙ fitting_told_fixed c.args.count c.args.block_length fits tape (omega (arith, bytes, c.requires.whole)) (fitting g c)

as_fixed : (g : given.Over) (c : goal.Joined-blocks-2 g)
    → wrote_if_told (size_told (length c.in_ok-spelled.spelled.items) c.args.self.now) (items_of c.in_ok-spelled.spelled.items) c.args.self.now
    ≡ tape_written_fixed c.args.count c.args.block_length c.args.bytes.now c.args.self.now
as_fixed g c =
    let tape = c.args.self.now in
    let fits = c.min-fitting.result in
    let bytes : 0 < length c.args.bytes.now = some_bytes c.args.bytes.now c.if-is_empty.ensures in
    let total = ap length c.in_ok-spelled.ensures ∙ (are g c).long in
    let items = ap items_of c.in_ok-spelled.ensures ∙ (are g c).items in
    ap (λ (n : ℕ). wrote_if_told (size_told n tape) (items_of c.in_ok-spelled.spelled.items) tape) total
    ∙ ap (λ (xs : List Item). wrote_if_told (size_told (fits * (c.args.block_length + 8)) tape) xs tape) items
    ∙ fitting_tape_fixed c.args.count c.args.block_length fits c.args.bytes.now tape (omega (arith, bytes, c.requires.whole)) (fitting g c)

pub returns-in-Ok-clause-tape : goal.returns-in-Ok-clause-tape
returns-in-Ok-clause-tape g c honest =
    let left = rw c.in-Ok.is at c.in_ok-done.ensures.tape in
    left honest ∙ as_fixed g c

pub returns-in-Ok-clause-sized : goal.returns-in-Ok-clause-sized
returns-in-Ok-clause-sized g c = rw (c.in-Ok.is, as_fixed g c) at c.in_ok-done.ensures.sized

pub returns-then-fitting-eq0-clause-sized : goal.returns-then-fitting-eq0-clause-sized
returns-then-fitting-eq0-clause-sized g c =
    let bytes : 0 < length c.args.bytes.now = some_bytes c.args.bytes.now c.if-is_empty.ensures in
    rw (← none_tape c.args.count c.args.block_length c.args.bytes.now c.args.self.now (omega (arith, bytes, c.requires.whole)) (none_fits g c))
    (record { before = refl; after = refl })

pub returns-clause-fits : goal.returns-clause-fits
returns-clause-fits g c =
    let bytes : 0 < length c.args.bytes.now = some_bytes c.args.bytes.now c.if-is_empty.ensures in
    let blocks = spelled_are c.args.count c.args.block_length c.min-fitting.result c.args.bytes.now bytes c.requires.whole c.requires.few
    (omega (arith, c.min-fitting.ensures, c.from-2.ensures)) in
    let total = ap length c.in_ok-spelled.ensures ∙ blocks.long in
    let fits = rw c.in-Err.is at c.in_ok-done.ensures.fits in
    let one : 1 * (c.args.block_length + 8) ≤ c.min-fitting.result * (c.args.block_length + 8) =
    mul-le-mul_right (c.args.block_length + 8) (omega (arith, c.if-fitting-eq0.false)) in
    omega (arith, fits, total, one)
