use Rattle.std.proofs.Common.{◌≡◌, ◌<◌, ◌∙◌, ap, length, get_or, take, drop, None, arith}
use Rattle.std.proofs.lemmas.List.{get_or_read, length-set}
use Rattle.iscsi_ports.specs.ReadBuffer.{bytes_in, ahead_on}
use Rattle.iscsi_ports.proofs.Accounts.{accounted_handing}
use Rattle.iscsi_ports.proofs.mio_sockets.MioSockets.hand_on.Goals as goal

pub invariant_of-self-clause-accounted : goal.invariant_of-self-clause-accounted
invariant_of-self-clause-accounted c =
    let sockets = c.args.self.now in
    let lt : c.args.c < length sockets.ahead.items = omega (arith, sockets.ahead_places) in
    let place_is : c.index_mut-place.result.now ≡ get_or sockets.ahead.items c.args.c None =
    get_or_read sockets.ahead.items c.args.c c.index_mut-place.result.now lt c.index_mut-place.ensures.value None in
    let count = c.hand_from-count.result in
    let piece : take count c.hand_from-count.new.buffer ≡ take count (ahead_on c.args.c sockets.ahead.items) =
    c.hand_from-count.ensures.piece ∙ ap (λ place. take count (bytes_in place)) place_is in
    let rest : bytes_in c.give_back.new.place ≡ drop count (ahead_on c.args.c sockets.ahead.items) =
    c.give_back.ensures ∙ c.hand_from-count.ensures.rest ∙ ap (λ place. drop count (bytes_in place)) place_is in
    rw c.handed.ensures
    (accounted_handing sockets.notes sockets.ahead.items c.give_back.new.place c.args.c (length c.args.buffer.now) count _
    sockets.accounted lt piece rest)

pub invariant_of-self-clause-ahead_places : goal.invariant_of-self-clause-ahead_places
invariant_of-self-clause-ahead_places c = length-set c.args.self.now.ahead.items c.args.c c.give_back.new.place ∙ c.args.self.now.ahead_places
