use Rattle.std.proofs.Common.{◌≡◌, ℕ, nat_lt, true, false, length, Result, Ok, Err, refl, ap, arith, rules}
use Rattle.iscsi_ports.specs.ReadBuffer.{ahead_on}
use Rattle.iscsi_ports.specs.Readiness.{asks_for, given_in_all}
use Rattle.iscsi_ports.specs.declared.socket_failure.SocketFailure.{SocketFailure}
use Rattle.iscsi_ports.proofs.mio_sockets.MioSockets.read_some.Goals as goal
use Rattle.iscsi_ports.proofs.mio_sockets.MioSockets.read_some.Goals.{then-is_empty-via-then-is_empty, then-is_empty-via-else-is_empty+then-count_ahead-gt0}

-- nothing is ahead after the read
given-none : (answer : Result ℕ SocketFailure) → given_in_all answer 0 ≡ answer
given-none (Ok count) = ap Ok (omega arith)
given-none (Err failure) = refl

pub returns-in-Some-clause-readiness : goal.returns-in-Some-clause-readiness
returns-in-Some-clause-readiness c =
    let room : nat_lt 0 (length c.read_ahead.new.buffer) ≡ true = search rules in
    let none : nat_lt 0 (length (ahead_on c.args.c c.args.self.now.ahead.items)) ≡ false = search rules in
    (65584, omega (arith, c.fills_reader.ensures c.if-fills_reader.false), rw (room, none) c.read_ahead.ensures.readiness)

pub returns-in-None-clause-readiness : goal.returns-in-None-clause-readiness
returns-in-None-clause-readiness c =
    let room : nat_lt 0 (length c.read_at_once-in-None.new.buffer) ≡ true = search rules in
    let none : nat_lt 0 (length (ahead_on c.args.c c.args.self.now.ahead.items)) ≡ false = search rules in
    let left : length (ahead_on c.args.c c.read_at_once-in-None.new.self.ahead.items) ≡ 0 = search rules in (
      length c.read_at_once-in-None.new.buffer,
      omega arith,
      rw (room, none, left, given-none c.read_at_once-in-None.result) c.read_at_once-in-None.ensures.readiness,
    )

pub returns-then-fills_reader-clause-readiness : goal.returns-then-fills_reader-clause-readiness
returns-then-fills_reader-clause-readiness c =
    let room : nat_lt 0 (length c.read_at_once.new.buffer) ≡ true = search rules in
    let none : nat_lt 0 (length (ahead_on c.args.c c.args.self.now.ahead.items)) ≡ false = search rules in
    let left : length (ahead_on c.args.c c.read_at_once.new.self.ahead.items) ≡ 0 = search rules in (
      length c.read_at_once.new.buffer,
      omega arith,
      rw (room, none, left, given-none c.read_at_once.result) c.read_at_once.ensures.readiness,
    )

pub returns-then-is_empty-clause-readiness : goal.returns-then-is_empty-clause-readiness
returns-then-is_empty-clause-readiness c =
    let none : asks_for (length c.args.buffer.now) (length (ahead_on c.args.c c.args.self.now.ahead.items)) ≡ false =
    elim c.then-is_empty.branch [
      | then-is_empty-via-then-is_empty w ↦ grind (arith, w.if-is_empty.true, c.is_empty.ensures)
      | then-is_empty-via-else-is_empty+then-count_ahead-gt0 w ↦ grind (arith, w.if-count_ahead-gt0.true, w.count_ahead.ensures)
    ] in
    (length c.hand_on.new.buffer, omega arith, rw (c.hand_on.auto.buffer, none) refl)
