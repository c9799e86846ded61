use Rattle.std.proofs.Common.{◌≡◌, ◌+◌, ◌≤◌, length, take, drop, slice_range, refl, arith, sym, ◌∙◌}
use Rattle.std.proofs.lemmas.List.{length-take-le, length-drop}
use Rattle.media_store.proofs.BySlice.{front-slice, behind-slice}
use Rattle.media_block.proofs.Differences.{found-difference, same-more, slice-whole}
use Rattle.media_block.proofs.difference.difference_from.Goals as goal

pub loop-done-init : goal.loop-done-init
loop-done-init c = record {
  below = omega arith;
  lies = λ again. (sym c.split_front-behind.ensures.joined, c.split_front-behind.ensures.some (omega (arith, again, c.requires.enough)));
  same = record { long = refl; same = refl };
}

pub returns-in-Some-clause-least : goal.returns-in-Some-clause-least
returns-in-Some-clause-least c =
    let done = c.loop-done.done in
    let part = c.min-part.result in
    let held = c.args.held.now in
    let lies = c.loop-done.invariant.lies c.loop-done-test.true in
    let from : 0 + done ≡ done = omega arith in
    let is : slice_range held done (done + part) ≡ slice_range held (0 + done) (0 + done + part) = rw from refl in
    let bytes = take part c.loop-done.front.now in
    let bytes_is = front-slice done part c.loop-done.front.now c.loop-done.behind c.args.«data».now lies.0 (omega arith) in
    let found = found-difference 0 (length held) done part c.in-Some.found (slice_range held done (done + part)) bytes held c.args.«data».now
    (omega arith) (omega (arith, c.requires.enough)) c.loop-done.invariant.same is bytes_is c.in-Some.ensures.least in
    rw (slice-whole held) at found

pub loop-done-smaller : goal.loop-done-smaller
loop-done-smaller c =
    let lies = c.loop-done.invariant.lies c.loop-done-test.true in
    omega (arith, lies.1)

pub loop-done-preserved : goal.loop-done-preserved
loop-done-preserved c =
    let done = c.loop-done.done in
    let part = c.min-part.result in
    let held = c.args.held.now in
    let lies = c.loop-done.invariant.lies c.loop-done-test.true in
    let here : done + part ≤ length held = omega arith in
    let long : length (slice_range held done (done + part)) ≡ part =
    length-take-le _ (drop done held) (omega (arith, length-drop done held, here)) ∙ omega arith in
    let from : 0 + done ≡ done = omega arith in
    let is : slice_range held done (done + part) ≡ slice_range held (0 + done) (0 + done + part) = rw from refl in
    record {
      below = here;
      lies = λ again.
          let rest = behind-slice done part c.loop-done.front.now c.loop-done.behind c.args.«data».now lies.0 (omega (arith, again)) in (
            sym c.split_front.ensures.joined ∙ rest,
            c.split_front.ensures.some (rw rest (omega (arith, length-drop (done + part) c.args.«data».now, again, c.requires.enough))),
          );
      same = same-more 0 done part (slice_range held done (done + part)) (take part c.loop-done.front.now) held c.args.«data».now
          (omega (arith, c.requires.enough)) c.loop-done.invariant.same long is
          (front-slice done part c.loop-done.front.now c.loop-done.behind c.args.«data».now lies.0 (omega arith)) c.in_default.ensures.least;
    }

pub returns-clause-least : goal.returns-clause-least
returns-clause-least c =
    let held = c.args.held.now in
    let all : c.loop-done.done ≡ length held = omega (arith, c.loop-done.invariant.below) in
    sym (rw (slice-whole held) at (rw all at c.loop-done.invariant.same.same))
