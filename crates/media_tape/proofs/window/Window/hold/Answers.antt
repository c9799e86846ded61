use Rattle.std.proofs.Common.{◌≡◌, ◌+◌, ◌≤◌, length, ap, arith}
use Rattle.std.proofs.lemmas.Result.{on_ok_weaker}
use Rattle.media_tape.proofs.window.Window.hold.Goals as goal

pub returns-clause-shows : goal.returns-clause-shows
returns-clause-shows g c =
    let filled : length c.read_behind.new.buffer.items ≡ c.min-count.result = omega (arith, c.read_behind.ensures.length, ap length c.clear.ensures.items) in
    on_ok_weaker c.read_behind.result (λ read honest shows long.
    let within : c.args.at + c.min-count.result ≤ length (g.S.Store.content c.args.store.now) = omega (arith, c.min-count.ensures, c.min.ensures, long) in
    let is = rw c.clear.ensures.items at (read honest within) in
    rw filled is) c.read_behind.ensures.read
