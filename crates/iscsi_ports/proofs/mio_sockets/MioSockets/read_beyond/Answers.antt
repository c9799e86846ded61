use Rattle.std.proofs.Common.{◌≡◌, ℕ, ◌+◌, ◌-◌, ◌<◌, ◌≤◌, ◌∙◌, ap, sym, subst, List, length, take, drop, min, arith, rules, ◌++◌, ◌∷◌, [], None, Result, Ok, set}
use Rattle.std.proofs.lemmas.List.{length-set, length-take-le, drop-take, length-drop, get_or-set_same}
use Rattle.iscsi_ports.specs.ReadBuffer.{bytes_in, ahead_on}
use Rattle.iscsi_ports.specs.Log.{Read}
use Rattle.iscsi_ports.specs.Calls.{log_by, read_carried}
use Rattle.iscsi_ports.specs.Readiness.{after_taking}
use Rattle.iscsi_ports.proofs.Buffers.{take_in_room}
use Rattle.iscsi_ports.proofs.Accounts.{accounted_reading}
use Rattle.iscsi_ports.proofs.mio_sockets.MioSockets.read_beyond.Goals as goal
use Rattle.std.specs.Io.{WritesAtMost}
use Rattle.iscsi_ports.specs.declared.socket_failure.SocketFailure.{SocketFailure}

-- what a read gave is no more than its buffer
given_within : (count : ℕ) (buffer : List ℕ) (answer : Result ℕ SocketFailure) → Ok count ≡ answer → WritesAtMost answer buffer
    → count ≤ length buffer
given_within count buffer answer is within = subst (λ answer. WritesAtMost answer buffer) (sym is) within

pub invariant_of-self-2-clause-accounted : goal.invariant_of-self-2-clause-accounted
invariant_of-self-2-clause-accounted c =
    let sockets = c.args.self.now in
    let buffer = c.read_from-read.new.buffer in
    let n = c.in-Ok.count in
    let handed = c.min-handed.result in
    let bytes = take n buffer in
    let within : n ≤ length buffer = search rules in
    let long : length bytes ≡ n = length-take-le n buffer within in
    let lt : c.args.c < length sockets.ahead.items = omega (arith, sockets.ahead_places) in
    let count : handed ≡ min c.args.room (length bytes) = omega (arith, c.min-handed.ensures, long) in
    let parts : n ≡ handed + (n - handed) = omega (arith, c.min-handed.ensures) in
    let rest : bytes_in c.filled-left.result ≡ drop handed bytes =
    c.filled-left.ensures ∙ sym (ap (λ m. drop handed (take m buffer)) parts ∙ drop-take handed (n - handed) buffer) in
    rw c.read.ensures
    (accounted_reading sockets.notes sockets.ahead.items c.filled-left.result c.args.c _ handed bytes sockets.accounted
    lt c.requires.nothing_ahead count rest)

pub invariant_of-self-2-clause-ahead_places : goal.invariant_of-self-2-clause-ahead_places
invariant_of-self-2-clause-ahead_places c =
    length-set c.args.self.now.ahead.items c.args.c c.filled-left.result ∙ c.args.self.now.ahead_places

pub invariant_of-self-clause-places : goal.invariant_of-self-clause-places
invariant_of-self-clause-places c = length-set c.args.self.now.streams.items c.args.c c.read_from-read.new.place ∙ c.args.self.now.places

pub invariant_of-self-clause-accounted : goal.invariant_of-self-clause-accounted
invariant_of-self-clause-accounted c = rw c.read_failed.ensures c.args.self.now.accounted

pub invariant_of-self-clause-dropped : goal.invariant_of-self-clause-dropped
invariant_of-self-clause-dropped c = rw c.read_failed.ensures c.args.self.now.dropped

pub invariant_of-self-2-clause-places : goal.invariant_of-self-2-clause-places
invariant_of-self-2-clause-places c = length-set c.args.self.now.streams.items c.args.c c.read_from-read.new.place ∙ c.args.self.now.places

pub invariant_of-self-2-clause-dropped : goal.invariant_of-self-2-clause-dropped
invariant_of-self-2-clause-dropped c = rw c.read.ensures c.args.self.now.dropped

pub returns-clause-told : goal.returns-clause-told
returns-clause-told c =
    ap log_by c.read.ensures
    ∙ ap (λ piece. log_by c.args.self.now.notes ++ Read c.args.c c.args.room (read_carried (Ok piece)) ∷ [])
    (take_in_room c.args.room c.in-Ok.count c.min-handed.result c.read_from-read.new.buffer
    (given_within c.in-Ok.count c.read_from-read.new.buffer c.read_from-read.result.answer c.in-Ok.ensures c.read_from-read.ensures.answer)
    (omega (arith, c.min-handed.ensures)))

pub returns-clause-readiness : goal.returns-clause-readiness
returns-clause-readiness c =
    let places = c.args.self.now.ahead.items in
    let buffer = c.read_from-read.new.buffer in
    let handed = c.min-handed.result in
    let lt : c.args.c < length places = omega (arith, c.args.self.now.ahead_places) in
    let within : c.in-Ok.count ≤ length buffer =
    given_within c.in-Ok.count buffer c.read_from-read.result.answer c.in-Ok.ensures c.read_from-read.ensures.answer in
    let place_is : ahead_on c.args.c (set places c.args.c c.filled-left.result) ≡ bytes_in c.filled-left.result =
    ap bytes_in (get_or-set_same places c.args.c c.filled-left.result None lt) in
    let beyond : length (bytes_in c.filled-left.result) ≡ c.in-Ok.count - handed =
    ap length c.filled-left.ensures
    ∙ length-take-le (c.in-Ok.count - handed) (drop handed buffer) (omega (arith, length-drop handed buffer, within)) in
    let all : c.in-Ok.count ≡ handed + length (ahead_on c.args.c (set places c.args.c c.filled-left.result)) =
    omega (arith, c.min-handed.ensures, beyond, ap length place_is) in
    (rw (sym c.in-Ok.ensures, c.read_from-read.ensures.offered, c.read_from-read.auto.buffer) at c.took.ensures)
    ∙ ap (λ count. after_taking c.args.c (Ok count) (length c.args.buffer.now) c.args.readiness.now) all
