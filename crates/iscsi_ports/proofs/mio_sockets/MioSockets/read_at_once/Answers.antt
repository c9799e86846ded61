use Rattle.std.proofs.Common.{◌≤◌, ◌++◌, ◌∙◌, sym, ap, subst, length, take, arith}
use Rattle.std.specs.Io.{WritesAtMost}
use Rattle.std.proofs.lemmas.List.{length-set, length-take-le}
use Rattle.iscsi_ports.specs.Calls.{log_by}
use Rattle.iscsi_ports.proofs.Accounts.{accounted_at_once, told_at_once}
use Rattle.iscsi_ports.proofs.mio_sockets.MioSockets.read_at_once.Goals as goal
use Rattle.iscsi_ports.proofs.mio_sockets.MioSockets.read_at_once.Goals.{In-Ok}

-- what came has room
few : (c : In-Ok) → length (take c.in-Ok.count c.read_from-read.new.buffer) ≤ length c.args.buffer.now
few c =
    let buffer = c.read_from-read.new.buffer in
    let within : c.in-Ok.count ≤ length buffer =
    subst (λ answer. WritesAtMost answer buffer) (sym c.in-Ok.ensures) c.read_from-read.ensures.answer in
    omega (arith, length-take-le c.in-Ok.count buffer within, within, c.read_from-read.auto.buffer)

pub invariant_of-self-clause-places : goal.invariant_of-self-clause-places
invariant_of-self-clause-places c = length-set c.args.self.now.streams.items c.args.c c.read_from-read.new.place ∙ c.args.self.now.places

pub invariant_of-self-clause-accounted : goal.invariant_of-self-clause-accounted
invariant_of-self-clause-accounted c =
    let sockets = c.args.self.now in
    rw c.read.ensures
    (accounted_at_once sockets.notes sockets.ahead.items c.args.c _ _ sockets.accounted c.requires.nothing_ahead
    (few (goal.at.invariant_of-self-clause-accounted c).In-Ok))

pub invariant_of-self-clause-dropped : goal.invariant_of-self-clause-dropped
invariant_of-self-clause-dropped c = rw c.read.ensures c.args.self.now.dropped

pub invariant_of-self-in-Err-clause-places : goal.invariant_of-self-in-Err-clause-places
invariant_of-self-in-Err-clause-places c = length-set c.args.self.now.streams.items c.args.c c.read_from-read.new.place ∙ c.args.self.now.places

pub invariant_of-self-in-Err-clause-accounted : goal.invariant_of-self-in-Err-clause-accounted
invariant_of-self-in-Err-clause-accounted c = rw c.read_failed.ensures c.args.self.now.accounted

pub invariant_of-self-in-Err-clause-dropped : goal.invariant_of-self-in-Err-clause-dropped
invariant_of-self-in-Err-clause-dropped c = rw c.read_failed.ensures c.args.self.now.dropped

pub returns-in-Ok-clause-told : goal.returns-in-Ok-clause-told
returns-in-Ok-clause-told c =
    ap log_by c.read.ensures
    ∙ ap (λ told. log_by c.args.self.now.notes ++ told)
    (rw c.read_from-read.auto.buffer (told_at_once c.args.c _ _ (few (goal.at.returns-in-Ok-clause-told c).In-Ok)))

pub returns-in-Ok-clause-readiness : goal.returns-in-Ok-clause-readiness
returns-in-Ok-clause-readiness c = rw (sym c.in-Ok.ensures, c.read_from-read.ensures.offered) at c.took.ensures
