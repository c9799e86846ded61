use Rattle.std.proofs.Common.{◌≡◌, ◌∙◌, nat_lt, true, false, length, drop, rules}
use Rattle.std.proofs.lemmas.List.{length-take-le}
use Rattle.iscsi_ports.specs.ReadBuffer.{ahead_on}
use Rattle.iscsi_ports.proofs.Buffers.{moved_in_front}
use Rattle.iscsi_ports.proofs.mio_sockets.MioSockets.read_front.Goals as goal

pub returns-in-Some-clause-readiness : goal.returns-in-Some-clause-readiness
returns-in-Some-clause-readiness c =
    let room : nat_lt 0 c.args.room ≡ true = search rules in
    let none : nat_lt 0 (length (ahead_on c.args.c c.args.self.now.ahead.items)) ≡ false = search rules in
    (length c.args.buffer.now, c.requires.room, rw (room, none) c.read_beyond.ensures.readiness)

pub returns-then-beyond-eq0-clause-told : goal.returns-then-beyond-eq0-clause-told
returns-then-beyond-eq0-clause-told c =
    let long : length c.read_some.new.buffer ≡ c.args.room =
    c.read_some.auto.buffer ∙ length-take-le c.args.room c.args.buffer.now c.requires.room in
    rw (moved_in_front c.read_some.result c.read_some.new.buffer (drop c.args.room c.args.buffer.now) c.read_some.ensures.count)
    (rw long at c.read_some.ensures.told)

pub returns-then-beyond-eq0-clause-readiness : goal.returns-then-beyond-eq0-clause-readiness
returns-then-beyond-eq0-clause-readiness c =
    let long : length c.read_some.new.buffer ≡ c.args.room =
    c.read_some.auto.buffer ∙ length-take-le c.args.room c.args.buffer.now c.requires.room in
    rw long at c.read_some.ensures.readiness

pub returns-in-None-clause-told : goal.returns-in-None-clause-told
returns-in-None-clause-told c =
    let long : length c.read_some-in-None.new.buffer ≡ c.args.room =
    c.read_some-in-None.auto.buffer ∙ length-take-le c.args.room c.args.buffer.now c.requires.room in
    rw (moved_in_front c.read_some-in-None.result c.read_some-in-None.new.buffer (drop c.args.room c.args.buffer.now) c.read_some-in-None.ensures.count)
    (rw long at c.read_some-in-None.ensures.told)

pub returns-in-None-clause-readiness : goal.returns-in-None-clause-readiness
returns-in-None-clause-readiness c =
    let long : length c.read_some-in-None.new.buffer ≡ c.args.room =
    c.read_some-in-None.auto.buffer ∙ length-take-le c.args.room c.args.buffer.now c.requires.room in
    rw long at c.read_some-in-None.ensures.readiness
