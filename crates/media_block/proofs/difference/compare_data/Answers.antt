use Rattle.std.proofs.Common.{◌≡◌, ℕ, ◌+◌, List, ◌++◌, length, take, drop, arith, rules, ap, sym, ◌∙◌}
use Rattle.std.proofs.lemmas.List.{length-append, length-drop, length-take-le, drop-append-le, drop-drop}
use Rattle.media_store.proofs.Reading.{only_read_then}
use Rattle.media_store.proofs.BySlice.{front-slice}
use Rattle.media_block.proofs.Differences.{found-difference, same-more}
use Rattle.media_block.proofs.difference.compare_data.Goals as goal

pub returns-in-Some-clause-compared : goal.returns-in-Some-clause-compared
returns-in-Some-clause-compared g c honest =
    let part = c.min-part.result in
    let lies = c.loop-done.invariant.lies c.loop-done-test.true in
    let room = length-take-le part c.loop-done.held (omega arith) in
    let bytes = c.split_at.ensures.front
    ∙ front-slice c.loop-done.done part c.loop-done.front.now c.loop-done.behind c.args.«data».now lies.0 (omega arith) in
    found-difference c.args.at c.args.count c.loop-done.done part c.in-Some.found c.read_at.new.buf c.split_at.result.0.now
    (g.S.Store.content c.args.store.now) c.args.«data».now (omega arith) (omega arith)
    (c.loop-done.invariant.same (c.in_ok-read_at.ensures.back honest))
    (rw (c.loop-done.invariant.read.content, room) at (c.in_ok-read_at.ensures.read honest)) bytes c.in-Some.ensures.least

pub loop-done-preserved : goal.loop-done-preserved
loop-done-preserved g c =
    let done = c.loop-done.done in
    let part = c.min-part.result in
    let lies = c.loop-done.invariant.lies c.loop-done-test.true in
    let room : length (take part c.loop-done.held) ≡ part = length-take-le part c.loop-done.held (omega arith) in
    let bytes = c.split_at.ensures.front ∙ front-slice done part c.loop-done.front.now c.loop-done.behind c.args.«data».now lies.0 (omega arith) in
    let rest : c.split_at.result.1.now ++ c.loop-done.behind ≡ drop (done + part) c.args.«data».now =
    ap (λ (x : List ℕ). x ++ c.loop-done.behind) c.split_at.ensures.back
    ∙ sym (drop-append-le part c.loop-done.front.now c.loop-done.behind (omega arith))
    ∙ ap (drop part) lies.0 ∙ drop-drop part done c.args.«data».now in
    record {
      below = omega arith;
      lies = λ again. (
        sym c.next_slice.ensures.joined ∙ rest,
        c.next_slice.ensures.some (rw rest (omega (arith, length-drop (done + part) c.args.«data».now, again))),
      );
      room = simp (length-append, length-drop) (omega (arith, c.read_at.auto.buf, room, c.loop-done.invariant.room));
      read = only_read_then g.S.Store _ _ _ c.loop-done.invariant.read (record {
        content = c.in_ok-read_at.ensures.content;
        synced = c.in_ok-read_at.ensures.synced;
        steady = c.in_ok-read_at.ensures.steady;
        reach = c.in_ok-read_at.ensures.reach;
        atomic = c.in_ok-read_at.ensures.atomic;
        back = c.in_ok-read_at.ensures.back;
      });
      failures = search rules;
      agrees = λ steady within.
          (c.in_ok-read_at.ensures.succeeds (rw c.loop-done.invariant.read.steady steady) (rw (c.loop-done.invariant.read.content, room) (omega (arith, within)))).1
          ∙ c.loop-done.invariant.agrees steady within;
      same = λ honest. same-more c.args.at done part c.read_at.new.buf c.split_at.result.0.now (g.S.Store.content c.args.store.now) c.args.«data».now
          (omega arith) (c.loop-done.invariant.same (c.in_ok-read_at.ensures.back honest)) (c.read_at.auto.buf ∙ room)
          (rw (c.loop-done.invariant.read.content, room) at (c.in_ok-read_at.ensures.read honest)) bytes c.in_default.ensures.least;
    }
