use Rattle.std.proofs.Common.{◌≡◌, ◌<◌, ◌∙◌, ap, sym, length, drop, min, arith, ◌+◌, ◌++◌, ◌∷◌, [], None, Ok, take, set}
use Rattle.std.proofs.lemmas.List.{length-set, length-drop, get_or-set_same, take_min}
use Rattle.iscsi_ports.specs.ReadBuffer.{bytes_in, ahead_on}
use Rattle.iscsi_ports.specs.Log.{Read}
use Rattle.iscsi_ports.specs.Calls.{log_by, read_carried}
use Rattle.iscsi_ports.specs.Readiness.{after_taking}
use Rattle.iscsi_ports.proofs.Accounts.{accounted_reading}
use Rattle.std.proofs.lemmas.Grind.{common_steps}
use Rattle.iscsi_ports.proofs.mio_sockets.MioSockets.read_ahead.Goals as goal

pub invariant_of-self-2-clause-accounted : goal.invariant_of-self-2-clause-accounted
invariant_of-self-2-clause-accounted c =
    let sockets = c.args.self.now in
    let lt : c.args.c < length sockets.ahead.items = omega (arith, sockets.ahead_places) in
    let bytes = c.as_slice.result.now in
    let count : c.hand-handed.result ≡ min (length c.args.buffer.now) (length bytes) = omega (arith, ap length c.as_slice.ensures) in
    let rest : bytes_in c.fit-left.result ≡ drop c.hand-handed.result bytes =
    c.fit-left.ensures ∙ c.hand-handed.ensures.rest ∙ ap (drop c.hand-handed.result) (sym c.as_slice.ensures) in
    rw c.read.ensures
    (accounted_reading sockets.notes sockets.ahead.items c.fit-left.result c.args.c _ c.hand-handed.result bytes sockets.accounted
    lt c.requires.nothing_ahead count rest)

pub invariant_of-self-2-clause-ahead_places : goal.invariant_of-self-2-clause-ahead_places
invariant_of-self-2-clause-ahead_places c = length-set c.args.self.now.ahead.items c.args.c c.fit-left.result ∙ c.args.self.now.ahead_places

pub invariant_of-self-clause-places : goal.invariant_of-self-clause-places
invariant_of-self-clause-places c = length-set c.args.self.now.streams.items c.args.c c.fill_from-read.new.place ∙ c.args.self.now.places

pub invariant_of-self-clause-accounted : goal.invariant_of-self-clause-accounted
invariant_of-self-clause-accounted c = rw c.read_failed.ensures c.args.self.now.accounted

pub invariant_of-self-clause-dropped : goal.invariant_of-self-clause-dropped
invariant_of-self-clause-dropped c = rw c.read_failed.ensures c.args.self.now.dropped

pub invariant_of-self-2-clause-places : goal.invariant_of-self-2-clause-places
invariant_of-self-2-clause-places c = length-set c.args.self.now.streams.items c.args.c c.fill_from-read.new.place ∙ c.args.self.now.places

pub invariant_of-self-2-clause-dropped : goal.invariant_of-self-2-clause-dropped
invariant_of-self-2-clause-dropped c = rw c.read.ensures c.args.self.now.dropped

pub returns-clause-told : goal.returns-clause-told
returns-clause-told c =
    let room = length c.args.buffer.now in
    let bytes = c.as_slice.result.now in
    let handed = c.hand-handed.result in
    let least : min room (length bytes) ≡ handed = omega (arith, c.hand-handed.ensures.count, ap length c.as_slice.ensures) in
    let piece : take room bytes ≡ take handed c.hand-handed.new.buffer =
    sym (take_min room bytes) ∙ ap (λ n. take n bytes) least ∙ ap (take handed) c.as_slice.ensures ∙ sym c.hand-handed.ensures.piece in
    rw c.hand-handed.auto.buffer
    (ap log_by c.read.ensures ∙ ap (λ piece. log_by c.args.self.now.notes ++ Read c.args.c room (read_carried (Ok piece)) ∷ []) piece)

pub returns-clause-readiness : goal.returns-clause-readiness
returns-clause-readiness c =
    let places = c.args.self.now.ahead.items in
    let handed = c.hand-handed.result in
    let lt : c.args.c < length places = omega (arith, c.args.self.now.ahead_places) in
    let place_is : ahead_on c.args.c (set places c.args.c c.fit-left.result) ≡ drop handed c.of-ahead.result =
    ap bytes_in (get_or-set_same places c.args.c c.fit-left.result None lt) ∙ c.fit-left.ensures ∙ c.hand-handed.ensures.rest in
    let all : c.in-Ok.count ≡ handed + length (ahead_on c.args.c (set places c.args.c c.fit-left.result)) =
    omega (arith, c.hand-handed.ensures.count, c.of-ahead.ensures.count, ap length place_is, length-drop handed c.of-ahead.result) in
    (rw (sym c.in-Ok.ensures, c.fill_from-read.ensures.offered) at c.took.ensures)
    ∙ ap (λ count. after_taking c.args.c (Ok count) 65584 c.args.readiness.now) all

pub returns-in-Err : goal.returns-in-Err
returns-in-Err = grind (arith, common_steps)

pub invariant_of-self-clause-ahead_places : goal.invariant_of-self-clause-ahead_places
invariant_of-self-clause-ahead_places = grind (arith, common_steps)

pub returns-clause-count : goal.returns-clause-count
returns-clause-count = grind (arith, common_steps)

pub returns-clause-unasked : goal.returns-clause-unasked
returns-clause-unasked = grind (arith, common_steps)
