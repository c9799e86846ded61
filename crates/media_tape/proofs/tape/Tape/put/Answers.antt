use Rattle.std.proofs.Common.{◌≡◌, ◌+◌, ◌*◌, ◌≤◌, ◌++◌, length, take, sum, map, nat_lt, ℕ, All, IsTrue, true, false, refl, sym, ap, ◌∙◌, arith}
use Rattle.std.proofs.lemmas.Bool.{false≢true}
use Rattle.std.proofs.lemmas.List.{length-map, length-append, length-take-le, append-nil}
use Rattle.std.proofs.lemmas.List.Elements.{All-append, All-take}
use Rattle.std.proofs.lemmas.List.Sums.{sum_by-take-le}
use Rattle.media_tape.specs.Items.{IsSize, size, size_of, items_of}
use Rattle.media_tape.specs.Writing.{AreWhole, bytes_of, count_of, each_size, put_if_told, put_synced}
use Rattle.media_tape.specs.Tape.{size_told}
use Rattle.media_tape.specs.declared.outcome.Written.{Written}
use Rattle.media_tape.specs.declared.outcome.Written.TheVariants as written
use Rattle.media_tape.specs.declared.write.Objects.{Objects}
use Rattle.tape_index.proofs.Alike.{sum-replicate}
use Rattle.media_tape.proofs.Sizes.{sum-sizes}
use Rattle.media_tape.proofs.Sized.{are_sizes}
use Rattle.media_tape.proofs.Indexed.{placed, HasEnd, written_there, left, left_indexed, are_left, are_cut, cut_left, cut_indexed}
use Rattle.media_tape.proofs.Commands.{refused_told, put_refused, fitting_told, put_fitting}
use Rattle.media_tape.proofs.Between.{between}
use Rattle.media_tape.proofs.tape.Tape.put.Given as given
use Rattle.media_tape.proofs.tape.Tape.put.Goals as goal

-- the size of the items that they are
sized : (objects : Objects) → AreWhole objects → length (bytes_of objects) ≡ size_of (items_of (bytes_of objects))
sized objects are =
    are.total ∙ sym (sum-replicate (count_of objects) (each_size objects)) ∙ sym (ap sum are.sized) ∙ sum-sizes (items_of (bytes_of objects))

each_is : (objects : Objects) → AreWhole objects → All IsSize (map size (items_of (bytes_of objects)))
each_is objects are =
    rw are.sized (are_sizes (count_of objects) (each_size objects) (record { least = are.least; most = are.most }))

over : (g : given.Over) (c : goal.Then-self-place g) → size_told (length (bytes_of c.args.objects.now)) c.args.self.now ≡ written.Refused
over g c =
    let old = c.self.inside in
    let here = placed (g.S.Store.content old.store) old.index.sizes old.position c.self.invariant.sized in
    refused_told (length (bytes_of c.args.objects.now)) c.args.self.now (rw (← c.self.view_is) (omega
    (arith, here, c.place_of-place.ensures, c.size-size.ensures, c.self.invariant.fits)))

pub returns-then-self-place-clause-told : goal.returns-then-self-place-clause-told
returns-then-self-place-clause-told g c = sym (over g c)

as_it_was : (g : given.Over) (c : goal.Then-self-place g)
    → put_if_told c.args.objects.now (size_told (length (bytes_of c.args.objects.now)) c.args.self.now) c.args.self.now ≡ c.args.self.now
as_it_was g c =
    ap (λ (t : Written). put_if_told c.args.objects.now t c.args.self.now) (over g c)
    ∙ (put_refused c.args.objects.now c.args.self.now.synced c.args.self.now).0

pub returns-then-self-place-clause-tape : goal.returns-then-self-place-clause-tape
returns-then-self-place-clause-tape g c honest = sym (as_it_was g c)

pub returns-then-self-place-clause-sized : goal.returns-then-self-place-clause-sized
returns-then-self-place-clause-sized g c = rw (as_it_was g c) (record { before = refl; after = refl })

pub returns-then-self-place-clause-synced : goal.returns-then-self-place-clause-synced
returns-then-self-place-clause-synced g c = sym (put_refused c.args.objects.now c.args.self.now.synced c.args.self.now).1

pub push_reserved-requires-clause-fits : goal.push_reserved-requires-clause-fits
push_reserved-requires-clause-fits g c =
    let sizes = rw c.in_ok-reserve_one.ensures.sizes at c.truncate.ensures.sizes in
    let total : c.many.result * c.each_size.result ≡ length (bytes_of c.args.objects.now) =
    ap (λ (n : ℕ). n * c.each_size.result) c.many.ensures ∙ ap (λ (n : ℕ). count_of c.args.objects.now * n) c.each_size.ensures ∙ sym c.requires.total in
    omega (arith, ap sum sizes, total, c.place_of-place.ensures, c.size-size.ensures, c.if-self-place.false, c.self.ranges)

-- ---- after a write

fits : (g : given.Over) (c : goal.After-told g)
    → size_of c.args.self.now.before + length (bytes_of c.args.objects.now) ≤ c.args.self.now.capacity
fits g c =
    let old = c.self.inside in
    let here = placed (g.S.Store.content old.store) old.index.sizes old.position c.self.invariant.sized in
    let below = sum_by-take-le (λ n. n) old.index.sizes old.position in
    rw (← c.self.view_is)
    (omega (arith, here, c.place_of-place.ensures, c.size-size.ensures, c.if-self-place.false, c.self.invariant.fits, below))

ends : (g : given.Over) (c : goal.After-told g) → IsTrue (g.S.Store.honest c.self.inside.store)
    → HasEnd (sum (take c.self.inside.position c.self.inside.index.sizes)) (g.S.Store.content c.write_objects.new.store)
    (items_of (bytes_of c.args.objects.now)) false
ends g c honest =
    let old = c.self.inside in
    let objects = c.args.objects.now in
    let written = rw (c.place_of-place.ensures, c.is_longer-is_longer.ensures, c.count.ensures, c.in_ok-reserve_one.ensures.sizes) at c.in-Ok.ensures.written in
    written_there (g.S.Store.content old.store) old.index.sizes (g.S.Store.content c.write_objects.new.store) (bytes_of objects) old.is_torn old.position
    (items_of (bytes_of objects)) (c.self.invariant.are_in honest) refl (sized objects c.requires) written

sizes_are : (g : given.Over) (c : goal.After-told g) → c.push_reserved.new.self.sizes
    ≡ take c.self.inside.position c.self.inside.index.sizes ++ map size (items_of (bytes_of c.args.objects.now))
sizes_are g c =
    rw (c.truncate.ensures.sizes, c.in_ok-reserve_one.ensures.sizes, c.many.ensures, c.each_size.ensures, ← c.requires.sized) at
    c.push_reserved.ensures.sizes

position_is : (g : given.Over) (c : goal.After-told g) → c.count-self-inside.result
    ≡ c.self.inside.position + length (items_of (bytes_of c.args.objects.now))
position_is g c =
    let old = c.self.inside in
    let front = take old.position old.index.sizes in
    let items = items_of (bytes_of c.args.objects.now) in
    c.count-self-inside.ensures ∙ ap length (sizes_are g c) ∙ omega
    (arith, length-append front (map size items), length-map items size, length-take-le old.position old.index.sizes c.self.invariant.within)

pub invariant_of-self-in-Ok : goal.invariant_of-self-in-Ok
invariant_of-self-in-Ok g c =
    let old = c.self.inside in
    let items = items_of (bytes_of c.args.objects.now) in
    let front = take old.position old.index.sizes in
    let keeps = rw c.place_of-place.ensures at c.in-Ok.ensures.keeps in
    let below = sum_by-take-le (λ n. n) old.index.sizes old.position in
    let long = sized c.args.objects.now c.requires in
    let room : sum front + size_of items ≤ old.capacity =
    omega (arith, long, c.place_of-place.ensures, c.size-size.ensures, c.if-self-place.false, c.self.invariant.fits, below) in
    rw (c.in-Ok.ensures.honest, sizes_are g c)
    (left_indexed (g.S.Store.honest old.store) old.is_torn false (g.S.Store.content old.store) old.index.sizes (g.S.Store.content c.write_objects.new.store)
    (front ++ map size items) old.position c.count-self-inside.result old.capacity items c.self.invariant keeps (ends g c) refl (position_is g c) room
    (each_is c.args.objects.now c.requires))

pub returns-in-Ok-clause-told : goal.returns-in-Ok-clause-told
returns-in-Ok-clause-told g c =
    let old = c.self.inside in
    let here = placed (g.S.Store.content old.store) old.index.sizes old.position c.self.invariant.sized in
    let told = rw (c.place_of-place.ensures, c.size-size.ensures) at c.told.ensures in
    rw (fitting_told (length (bytes_of c.args.objects.now)) c.args.self.now (fits g c)) (rw (← c.self.view_is, here) told)

pub returns-in-Ok-clause-synced : goal.returns-in-Ok-clause-synced
returns-in-Ok-clause-synced g c =
    let before = c.args.self.now.synced in
    c.in-Ok.ensures.synced
    ∙ sym (ap (λ (t : Written). put_synced c.args.objects.now t before) c.told.ensures ∙ (put_fitting c.args.objects.now _ before c.args.self.now).1)

pub returns-in-Ok-clause-tape : goal.returns-in-Ok-clause-tape
returns-in-Ok-clause-tape g c honest =
    let old = c.self.inside in
    let objects = c.args.objects.now in
    let items = items_of (bytes_of objects) in
    let tape = c.args.self.now in
    let was = rw (← c.self.view_is) at honest in
    let keeps = rw c.place_of-place.ensures at c.in-Ok.ensures.keeps in
    let done = left (g.S.Store.content old.store) old.index.sizes (g.S.Store.content c.write_objects.new.store)
    (take old.position old.index.sizes ++ map size items) old.is_torn false old.position c.count-self-inside.result items (c.self.invariant.are_in was)
    c.self.invariant.within keeps (ends g c was) refl (position_is g c) in
    let told = fitting_told (length (bytes_of objects)) tape (fits g c) in
    let kept = c.in-Ok.ensures in
    rw (told, (put_fitting objects (nat_lt tape.early_mark (size_of tape.before + length (bytes_of objects))) tape.synced tape).0)
    (rw (← c.self.view_is, sizes_are g c, done.before, done.after, done.tail refl)
    (rw (kept.synced, kept.failures, kept.honest, kept.steady, kept.reach, kept.atomic) refl))

pub returns-in-Ok-clause-sized : goal.returns-in-Ok-clause-sized
returns-in-Ok-clause-sized g c =
    let old = c.self.inside in
    let objects = c.args.objects.now in
    let items = items_of (bytes_of objects) in
    let tape = c.args.self.now in
    let front = take old.position old.index.sizes in
    let all = All-append IsSize front (map size items) (All-take IsSize old.position old.index.sizes c.self.invariant.sized) (each_is objects c.requires) in
    let done = are_left (g.S.Store.content old.store) old.index.sizes (g.S.Store.content c.write_objects.new.store) (front ++ map size items)
    old.position c.count-self-inside.result items c.self.invariant.sized all refl (c.count-self-inside.ensures ∙ ap length (sizes_are g c)) in
    let told = fitting_told (length (bytes_of objects)) tape (fits g c) in
    rw (told, (put_fitting objects (nat_lt tape.early_mark (size_of tape.before + length (bytes_of objects))) tape.synced tape).0)
    (rw (← c.self.view_is, sizes_are g c) (record { before = done.before; after = done.after }))

pub invariant_of-self-in-Err : goal.invariant_of-self-in-Err
invariant_of-self-in-Err g c =
    let old = c.self.inside in
    let keeps = rw c.place_of-place.ensures at c.in-Err.ensures.keeps in
    rw (c.truncate.ensures.sizes, c.in_ok-reserve_one.ensures.sizes, c.in-Err.ensures.honest)
    (cut_indexed (g.S.Store.honest old.store) old.is_torn true (g.S.Store.content old.store) old.index.sizes
    (g.S.Store.content c.write_objects.new.store) old.position old.capacity c.self.invariant keeps (λ none. absurd (false≢true (sym none))))

pub returns-in-Err-clause-failed : goal.returns-in-Err-clause-failed
returns-in-Err-clause-failed g c honest =
    let old = c.self.inside in
    let keeps = rw c.place_of-place.ensures at c.in-Err.ensures.keeps in
    let are = cut_left (g.S.Store.content old.store) old.index.sizes (g.S.Store.content c.write_objects.new.store) old.is_torn true old.position
    (c.self.invariant.are_in (rw (← c.self.view_is) at honest)) c.self.invariant.within keeps (λ none. absurd (false≢true (sym none))) in
    let kept = c.in-Err.ensures in
    rw (← c.self.view_is, c.truncate.ensures.sizes, c.in_ok-reserve_one.ensures.sizes, are.before, append-nil (take old.position _), are.after)
    (rw (kept.unsynced, kept.failures, kept.honest, kept.steady, kept.reach, kept.atomic) refl)

pub returns-in-Err-clause-fits : goal.returns-in-Err-clause-fits
returns-in-Err-clause-fits g c =
    let old = c.self.inside in
    let here = placed (g.S.Store.content old.store) old.index.sizes old.position c.self.invariant.sized in
    let below = sum_by-take-le (λ n. n) old.index.sizes old.position in
    rw (← c.self.view_is)
    (omega (arith, here, c.place_of-place.ensures, c.size-size.ensures, c.if-self-place.false, c.self.invariant.fits, below))

pub returns-in-Err-clause-between : goal.returns-in-Err-clause-between
returns-in-Err-clause-between g c honest atomic whole =
    let old = c.self.inside in
    let stands = rw (c.place_of-place.ensures, c.is_longer-is_longer.ensures, c.count.ensures, c.in_ok-reserve_one.ensures.sizes) at
    c.in-Err.ensures.between in
    let is = between (g.S.Store.content old.store) old.index.sizes (g.S.Store.content c.write_objects.new.store) old.is_torn old.position
    (c.self.invariant.are_in (rw (← c.self.view_is) at honest)) c.self.invariant.within (rw (← c.self.view_is) at whole)
    (stands (rw (← c.self.view_is) at atomic)) in
    rw (c.truncate.ensures.sizes, c.in_ok-reserve_one.ensures.sizes) is

pub returns-in-Err-clause-kept : goal.returns-in-Err-clause-kept
returns-in-Err-clause-kept g c =
    let old = c.self.inside in
    let are = are_cut (g.S.Store.content old.store) old.index.sizes (g.S.Store.content c.write_objects.new.store) old.position c.self.invariant.sized
    c.self.invariant.within in
    rw (← c.self.view_is, c.truncate.ensures.sizes, c.in_ok-reserve_one.ensures.sizes) (record { before = are.before; after = are.after })
