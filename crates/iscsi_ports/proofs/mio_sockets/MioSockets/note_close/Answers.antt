use Rattle.std.proofs.Common.{◌≡◌, ◌<◌, ◌∙◌, ap, length, get_or, None, arith}
use Rattle.std.proofs.lemmas.List.{get_or_read, length-set}
use Rattle.iscsi_ports.specs.ReadBuffer.{bytes_in}
use Rattle.iscsi_ports.proofs.Accounts.{accounted_closing, dropped_closing}
use Rattle.iscsi_ports.proofs.mio_sockets.MioSockets.note_close.Goals as goal

pub invariant_of-self-clause-accounted : goal.invariant_of-self-clause-accounted
invariant_of-self-clause-accounted c =
    let sockets = c.args.self.now in
    let lt : c.args.c < length sockets.ahead.items = (let le = c.requires in omega (arith, sockets.ahead_places)) in
    rw c.closed.ensures (accounted_closing sockets.notes sockets.ahead.items c.args.c c.slice_ahead-dropped.result.now sockets.accounted lt)

pub invariant_of-self-clause-dropped : goal.invariant_of-self-clause-dropped
invariant_of-self-clause-dropped c =
    let sockets = c.args.self.now in
    let lt : c.args.c < length sockets.ahead.items = (let le = c.requires in omega (arith, sockets.ahead_places)) in
    let place_is : c.index.result.now ≡ get_or sockets.ahead.items c.args.c None =
    get_or_read sockets.ahead.items c.args.c c.index.result.now lt c.index.ensures None in
    rw c.closed.ensures
    (dropped_closing sockets.notes sockets.ahead.items c.args.c c.slice_ahead-dropped.result.now sockets.accounted sockets.dropped
    c.requires (c.slice_ahead-dropped.ensures ∙ ap bytes_in place_is))

pub invariant_of-self-clause-ahead_places : goal.invariant_of-self-clause-ahead_places
invariant_of-self-clause-ahead_places c = length-set c.args.self.now.ahead.items c.args.c None ∙ c.args.self.now.ahead_places
