use Rattle.std.proofs.Common.{◌≡◌, ◌≤◌, ℕ, List, length, take, map, sum, refl, sym, ap, ◌∙◌, arith}
use Rattle.std.proofs.lemmas.List.{take_all}
use Rattle.media_tape.specs.Items.{items_sized, items_of, size}
use Rattle.media_tape.proofs.Sized.{items_sized-is, sizes-sized}
use Rattle.media_tape.proofs.Sizes.{sum-sizes}
use Rattle.media_tape.proofs.Opened.{walked_place, whole_tape, torn_no_tape, no_tail}
use Rattle.media_tape.proofs.tape.Tape.open.Goals as goal

pub returns-in-Err-clause-explained : goal.returns-in-Err-clause-explained
returns-in-Err-clause-explained g c honest = rw c.len.ensures.content at (c.in-Err.ensures.why c.args.capacity)

pub returns-then-place-end-clause-succeeds : goal.returns-then-place-end-clause-succeeds
returns-then-place-end-clause-succeeds g c steady honest is_tape fits =
    let walked = c.in-Ok-walk.ensures in
    let content = g.S.Store.content c.args.store in
    let known = (c.in-Ok.ensures.succeeds steady).1 ∙ honest in
    let end : c.in-Ok.end ≡ length content = c.in-Ok.ensures.len known in
    let long : c.in-Ok.end ≤ length (g.S.Store.content c.len.new.self) = omega (arith, end, ap length c.in-Ok.ensures.content) in
    let stayed = walked.stays (c.in-Ok.ensures.steady ∙ steady) long ∙ known in
    let place = walked_place content (g.S.Store.content c.len.new.self) c.in-Ok-walk.index.sizes c.in-Ok.end c.end-place.result
    c.in-Ok.ensures.content end (walked.place stayed) c.end-place.ensures.end in
    absurd (torn_no_tape content c.end-place.result c.in-Ok.end place end c.if-place-end.true is_tape)

pub returns-then-place-end-clause-explained : goal.returns-then-place-end-clause-explained
returns-then-place-end-clause-explained g c honest =
    let walked = c.in-Ok-walk.ensures in
    let content = g.S.Store.content c.args.store in
    let end : c.in-Ok.end ≡ length content = c.in-Ok.ensures.len (walked.kept.back honest) in
    let place = walked_place content (g.S.Store.content c.len.new.self) c.in-Ok-walk.index.sizes c.in-Ok.end c.end-place.result
    c.in-Ok.ensures.content end (walked.place honest) c.end-place.ensures.end in
    (place, rw end at c.if-place-end.true)

pub returns-then-capacity-end-clause-explained : goal.returns-then-capacity-end-clause-explained
returns-then-capacity-end-clause-explained g c honest =
    let walked = c.in-Ok-walk.ensures in
    let content = g.S.Store.content c.args.store in
    let end : c.in-Ok.end ≡ length content = c.in-Ok.ensures.len (walked.kept.back honest) in
    let place = walked_place content (g.S.Store.content c.len.new.self) c.in-Ok-walk.index.sizes c.in-Ok.end c.end-place.result
    c.in-Ok.ensures.content end (walked.place honest) c.end-place.ensures.end in (
      whole_tape content c.end-place.result c.in-Ok.end place end (rw c.end-place.ensures.end walked.within) c.if-place-end.false,
      rw end at c.if-capacity-end.true,
    )

pub returns-clause-tail : goal.returns-clause-tail
returns-clause-tail g c honest =
    let walked = c.in-Ok-walk.ensures in
    let content = g.S.Store.content c.args.store in
    let end : c.in-Ok.end ≡ length content = c.in-Ok.ensures.len (walked.kept.back honest) in
    no_tail content (g.S.Store.content c.walk.new.store) _ c.in-Ok.end (walked.kept.content ∙ c.in-Ok.ensures.content) end
    (rw c.end-place.ensures.end at c.if-place-end.false)

pub returns-clause-tape : goal.returns-clause-tape
returns-clause-tape g c honest =
    let walked = c.in-Ok-walk.ensures in
    let content = g.S.Store.content c.args.store in
    let end : c.in-Ok.end ≡ length content = c.in-Ok.ensures.len (walked.kept.back honest) in
    let place = walked_place content (g.S.Store.content c.len.new.self) c.in-Ok-walk.index.sizes c.in-Ok.end c.end-place.result
    c.in-Ok.ensures.content end (walked.place honest) c.end-place.ensures.end in
    whole_tape content c.end-place.result c.in-Ok.end place end (rw c.end-place.ensures.end walked.within) c.if-place-end.false

pub returns-clause-sized : goal.returns-clause-sized
returns-clause-sized g c =
    let sizes = c.in-Ok-walk.index.sizes in
    let content = g.S.Store.content c.walk.new.store in
    let total = sym (sum-sizes (items_sized sizes content)) ∙ ap sum (sizes-sized sizes content c.in-Ok-walk.ensures.each) in
    omega (arith, total, c.in-Ok-walk.ensures.within, c.if-capacity-end.false)

pub returns-clause-after : goal.returns-clause-after
returns-clause-after g c honest =
    let sizes = c.in-Ok-walk.index.sizes in
    let walked = c.in-Ok-walk.ensures in
    let content = g.S.Store.content c.walk.new.store in
    let same : content ≡ g.S.Store.content c.args.store = walked.kept.content ∙ c.in-Ok.ensures.content in
    let end : c.in-Ok.end ≡ length (g.S.Store.content c.args.store) = c.in-Ok.ensures.len (walked.kept.back honest) in
    let long : length (g.S.Store.content c.len.new.self) ≡ c.in-Ok.end = ap length c.in-Ok.ensures.content ∙ sym end in
    let total : sum sizes ≡ c.in-Ok.end = omega (arith, c.end-place.ensures.end, c.if-place-end.false, walked.within) in
    let parsed = walked.sizes honest (omega (arith, long)) in
    let parse : map size (items_of (take (sum sizes) content)) ≡ sizes =
    ap (λ (n : ℕ). map size (items_of (take n content))) total
    ∙ ap (λ (xs : List ℕ). map size (items_of (take c.in-Ok.end xs))) walked.kept.content ∙ sym parsed in
    items_sized-is sizes content (omega (arith, total, ap length walked.kept.content, long)) parse
    ∙ ap items_of (take_all (sum sizes) content (omega (arith, total, ap length walked.kept.content, long)) ∙ same)

pub returns-clause-before : goal.returns-clause-before
returns-clause-before g c = refl
