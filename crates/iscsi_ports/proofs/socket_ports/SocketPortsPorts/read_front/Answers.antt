use Rattle.std.proofs.Common.{◌∙◌, sym, ap, refl, length, Ok}
use Rattle.iscsi_ports.specs.Calls.{moved, read_carried}
use Rattle.iscsi_ports.proofs.Buffers.{told_lent}
use Rattle.iscsi_ports.proofs.socket_ports.SocketPortsPorts.read_front.Goals as goal

pub returns-in-Some-clause-after : goal.returns-in-Some-clause-after
returns-in-Some-clause-after g c =
    rw (c.after_read.ensures, c.len.ensures) (Ok (length c.in-Some.lent), told_lent c.in-Some.lent c.in-Some.ensures.some, c.in-Some.ensures.readiness, refl)

pub returns-in-None-clause-after : goal.returns-in-None-clause-after
returns-in-None-clause-after g c =
    let after = rw (c.in-None.ensures.same refl, c.in-None.ensures.unread refl) at c.read_into.ensures.after in (
      after.0,
      c.of.ensures.told _ ∙ after.1 ∙ ap (λ buffer. read_carried (moved after.0 buffer)) (sym (c.of.ensures.place _)),
      after.2,
      after.3,
    )
