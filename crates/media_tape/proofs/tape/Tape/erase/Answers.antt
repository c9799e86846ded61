use Rattle.std.proofs.Common.{◌≡◌, ◌≤◌, length, take, sum, ap, refl, sym, arith, ◌∙◌, true, false, IsTrue, inl}
use Rattle.std.proofs.lemmas.Bool.{false≢true}
use Rattle.std.proofs.lemmas.List.{append-nil, length-take-le}
use Rattle.std.proofs.lemmas.List.Sums.{sum_by-take-le}
use Rattle.media_tape.proofs.Indexed.{are_cut, cut_left, cut_indexed}
use Rattle.media_store.proofs.Outcomes.{OnErr-always}
use Rattle.media_tape.proofs.Between.{between}
use Rattle.media_tape.proofs.tape.Tape.erase.Given as given
use Rattle.media_tape.proofs.tape.Tape.erase.Goals as goal

pub invariant_of-self : goal.invariant_of-self
invariant_of-self g c =
    let old = c.self.inside in
    let keeps = rw c.place_of-place.ensures at c.cut_at.ensures.keeps in
    rw (c.truncate.ensures.sizes, c.cut_at.ensures.honest)
    (cut_indexed (g.S.Store.honest old.store) old.is_torn true (g.S.Store.content old.store) old.index.sizes (g.S.Store.content c.cut_at.new.store)
    old.position old.capacity c.self.invariant keeps (λ none. absurd (false≢true (sym none))))

pub returns-in_err-cut_at-clause-failed : goal.returns-in_err-cut_at-clause-failed
returns-in_err-cut_at-clause-failed g c =
    let old = c.self.inside in
    let keeps = rw c.place_of-place.ensures at c.cut_at.ensures.keeps in
    rw (← c.self.view_is) (OnErr-always c.from_residual.result (λ honest.
    let are = cut_left (g.S.Store.content old.store) old.index.sizes (g.S.Store.content c.cut_at.new.store) old.is_torn true old.position
    (c.self.invariant.are_in honest) c.self.invariant.within keeps (λ none. absurd (false≢true (sym none))) in
    let kept = c.cut_at.ensures in
    rw (c.truncate.ensures.sizes, are.before, append-nil (take old.position _), are.after, c.in_err-cut_at.ensures.unsynced)
    (rw (c.in_err-cut_at.ensures.failures, kept.honest, kept.steady, kept.reach, kept.atomic) refl)))

pub returns-in_err-cut_at-clause-between : goal.returns-in_err-cut_at-clause-between
returns-in_err-cut_at-clause-between g c =
    let old = c.self.inside in
    rw (← c.self.view_is) (OnErr-always c.from_residual.result (λ honest atomic clean.
    rw c.truncate.ensures.sizes (between (g.S.Store.content old.store) old.index.sizes (g.S.Store.content c.cut_at.new.store) old.is_torn old.position
    (c.self.invariant.are_in honest) c.self.invariant.within clean (λ below ends. inl (c.in_err-cut_at.ensures.undone atomic)))))

whole : (g : given.Over) (c : goal.After-self-2-1 g) → IsTrue (g.S.Store.honest c.self.inside.store)
    → length (g.S.Store.content c.cut_at.new.store) ≡ sum (take c.self.inside.position c.self.inside.index.sizes)
whole g c honest =
    let old = c.self.inside in
    let content = g.S.Store.content old.store in
    let place = sum (take old.position old.index.sizes) in
    let cut = rw c.place_of-place.ensures at c.in_ok-cut_at.ensures.cut in
    let within : place ≤ length content = omega (arith, sum_by-take-le (λ n. n) old.index.sizes old.position, (c.self.invariant.are_in honest).long) in
    ap length (cut within (λ longer. absurd (false≢true (sym longer)))) ∙ length-take-le place content within

pub invariant_of-self-2 : goal.invariant_of-self-2
invariant_of-self-2 g c =
    let old = c.self.inside in
    let keeps = rw c.place_of-place.ensures at c.cut_at.ensures.keeps in
    rw (c.truncate.ensures.sizes, c.cut_at.ensures.honest)
    (cut_indexed (g.S.Store.honest old.store) old.is_torn false (g.S.Store.content old.store) old.index.sizes (g.S.Store.content c.cut_at.new.store)
    old.position old.capacity c.self.invariant keeps (λ none. whole g c))

pub returns-clause-tape : goal.returns-clause-tape
returns-clause-tape g c honest =
    let old = c.self.inside in
    let was = rw (← c.self.view_is) at honest in
    let keeps = rw c.place_of-place.ensures at c.cut_at.ensures.keeps in
    let are = cut_left (g.S.Store.content old.store) old.index.sizes (g.S.Store.content c.cut_at.new.store) old.is_torn false old.position
    (c.self.invariant.are_in was) c.self.invariant.within keeps (λ none. whole g c was) in
    let kept = c.cut_at.ensures in
    rw (← c.self.view_is, c.truncate.ensures.sizes, are.before, are.after, are.tail refl, c.in_ok-cut_at.ensures.synced refl)
    (rw (c.in_ok-cut_at.ensures.failures, kept.honest, kept.steady, kept.reach, kept.atomic) refl)

pub returns-in_err-cut_at-clause-sized : goal.returns-in_err-cut_at-clause-sized
returns-in_err-cut_at-clause-sized g c =
    let old = c.self.inside in
    let are = are_cut (g.S.Store.content old.store) old.index.sizes (g.S.Store.content c.cut_at.new.store) old.position c.self.invariant.sized
    c.self.invariant.within in
    rw (← c.self.view_is, c.truncate.ensures.sizes) (record { before = are.before; after = are.after })

pub returns-clause-sized : goal.returns-clause-sized
returns-clause-sized g c =
    let old = c.self.inside in
    let are = are_cut (g.S.Store.content old.store) old.index.sizes (g.S.Store.content c.cut_at.new.store) old.position c.self.invariant.sized
    c.self.invariant.within in
    rw (← c.self.view_is, c.truncate.ensures.sizes) (record { before = are.before; after = are.after })
