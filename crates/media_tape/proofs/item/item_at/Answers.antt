use Rattle.std.proofs.Common.{arith}
use Rattle.media_tape.proofs.Found.{none-short, none-long, none-other, some-item}
use Rattle.media_tape.proofs.item.item_at.Goals as goal
use Rattle.media_tape.proofs.item.item_at.Goals.{then-length-gt-MOST_BYTES-via-then-length-gt-MOST_BYTES}
use Rattle.media_tape.proofs.item.item_at.Goals.{then-length-gt-MOST_BYTES-via-else-length-gt-MOST_BYTES+then-end-place}

pub returns-then-end-place-lt-LENGTHS-clause-found : goal.returns-then-end-place-lt-LENGTHS-clause-found
returns-then-end-place-lt-LENGTHS-clause-found g c honest shows long =
    none-short (g.S.Store.content c.args.store.now) c.args.place c.args.end long (omega arith)

pub returns-then-length-gt-MOST_BYTES-clause-found : goal.returns-then-length-gt-MOST_BYTES-clause-found
returns-then-length-gt-MOST_BYTES-clause-found g c honest shows long =
    let content = g.S.Store.content c.args.store.now in
    let number = c.number-length.ensures content (c.in_ok-hold.ensures.shows honest shows long) in
    none-long content c.args.place c.args.end c.number-length.result long (omega arith) number
    (λ most near. elim c.then-length-gt-MOST_BYTES.branch [
      | then-length-gt-MOST_BYTES-via-then-length-gt-MOST_BYTES w ↦ omega arith
      | then-length-gt-MOST_BYTES-via-else-length-gt-MOST_BYTES+then-end-place w ↦ omega arith
    ])

pub returns-then-again-length-clause-found : goal.returns-then-again-length-clause-found
returns-then-again-length-clause-found g c honest shows long =
    let content = g.S.Store.content c.args.store.now in
    let first = c.in_ok-hold.ensures.shows (c.in_ok-hold-2.ensures.kept.back honest) shows long in
    let second = rw c.in_ok-hold.ensures.kept.content at c.in_ok-hold-2.ensures.shows in
    let again = rw c.from-2.ensures at (c.number-again.ensures content (second honest first long)) in
    some-item content c.args.place c.args.end c.number-length.result c.number-again.result long (omega arith) (omega arith) (omega arith)
    (c.number-length.ensures content first) again c.if-again-length.true

pub returns-else-again-length-clause-found : goal.returns-else-again-length-clause-found
returns-else-again-length-clause-found g c honest shows long =
    let content = g.S.Store.content c.args.store.now in
    let first = c.in_ok-hold.ensures.shows (c.in_ok-hold-2.ensures.kept.back honest) shows long in
    let second = rw c.in_ok-hold.ensures.kept.content at c.in_ok-hold-2.ensures.shows in
    let again = rw c.from-2.ensures at (c.number-again.ensures content (second honest first long)) in
    none-other content c.args.place c.args.end c.number-length.result c.number-again.result long (omega arith) (omega arith)
    (c.number-length.ensures content first) again c.if-again-length.false
