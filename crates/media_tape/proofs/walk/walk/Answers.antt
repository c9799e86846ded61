use Rattle.std.proofs.Common.{◌+◌, take, sum, ap, ◌∙◌, arith}
use Rattle.std.specs.Prelude.{replicate}
use Rattle.std.proofs.lemmas.List.Elements.{All-append}
use Rattle.media_tape.specs.Items.{IsSize, items_of}
use Rattle.media_store.proofs.Reading.{only_read_then}
use Rattle.tape_index.proofs.Alike.{sum-append, sum-replicate}
use Rattle.media_tape.proofs.Sizes.{sum-sizes}
use Rattle.media_tape.proofs.Sized.{are_sizes}
use Rattle.media_tape.proofs.Walks.{walked-next, walked-last}
use Rattle.media_tape.proofs.walk.walk.Goals as goal

pub loop-window-smaller : goal.loop-window-smaller
loop-window-smaller g c =
    let n = c.in-Some.length in
    let sizes = c.loop-window.index.sizes in
    let within = rw c.in-Some.is at c.in_ok-length.ensures.within in
    omega (arith, ap sum c.in_ok-push.ensures.ok, sum-append sizes (replicate 1 (n + 8)), sum-replicate 1 (n + 8), within.0, c.end.ensures.end)

pub loop-window-preserved : goal.loop-window-preserved
loop-window-preserved g c =
    let n = c.in-Some.length in
    let content = g.S.Store.content c.args.store.now in
    let sizes = c.loop-window.index.sizes in
    let kept = c.loop-window.invariant in
    let told = c.in_ok-length.ensures in
    let within = rw c.in-Some.is at told.within in
    let grown = c.in_ok-push.ensures.ok in
    let shown = rw kept.read.content at told.shows in
    record {
      within = rw grown (omega (arith, sum-append sizes (replicate 1 (n + 8)), sum-replicate 1 (n + 8), within.0, c.end.ensures.end));
      each = rw grown (All-append IsSize sizes (replicate 1 (n + 8)) kept.each
          (are_sizes 1 (n + 8) (record { least = omega arith; most = omega (arith, within.1) })));
      read = only_read_then g.S.Store _ _ _ kept.read told.kept;
      failures = told.failures ∙ kept.failures;
      stays = λ steady long. (told.succeeds (kept.read.steady ∙ steady) (rw kept.read.content long)).1 ∙ kept.stays steady long;
      window = told.window;
      shows = λ honest long. shown honest (kept.shows (told.kept.back honest) long) long;
      is = λ honest long.
          let found = rw (c.in-Some.is, kept.read.content, c.end.ensures.end) at told.found in
          let some = found honest (kept.shows (told.kept.back honest) long) long in
          rw grown (walked-next (take c.args.end content) sizes n (kept.is (told.kept.back honest) long) some);
    }

pub returns-clause-sizes : goal.returns-clause-sizes
returns-clause-sizes g c honest long =
    let kept = c.loop-window.invariant in
    let told = c.in_ok-length.ensures in
    let none = rw (c.in_default.is, kept.read.content, c.end.ensures.end) at told.found in
    walked-last (take c.args.end (g.S.Store.content c.args.store.now)) c.loop-window.index.sizes (kept.is (told.kept.back honest) long)
    (none honest (kept.shows (told.kept.back honest) long) long)

pub returns-clause-place : goal.returns-clause-place
returns-clause-place g c honest long =
    ap sum (returns-clause-sizes g c honest long) ∙ sum-sizes (items_of (take c.args.end (g.S.Store.content c.args.store.now)))
