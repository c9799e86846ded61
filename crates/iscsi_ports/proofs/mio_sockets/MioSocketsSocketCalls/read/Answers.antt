use Rattle.std.proofs.Common.{◌≡◌, ap}
use Rattle.iscsi_ports.specs.declared.mio_sockets.MioSockets.{MioSockets}
use Rattle.iscsi_ports.proofs.mio_sockets.MioSocketsSocketCalls.read.Goals as goal
use Rattle.iscsi_ports.proofs.mio_sockets.MioSocketsSocketCalls.read.Goals.{After-ready_again, then-is_ok, else-is_ok}

-- whether it is within a large PDU is no matter of the calls
same_notes : (c : After-ready_again) → c.if-is_ok.self.notes ≡ c.read_front-answer.new.self.notes
same_notes c = elim c.if-is_ok.branch [
  | then-is_ok w ↦ ap (λ (sockets : MioSockets). sockets.notes) w.self-is
  | else-is_ok w ↦ ap (λ (sockets : MioSockets). sockets.notes) w.self-is
]

same_ahead : (c : After-ready_again) → c.if-is_ok.self.ahead ≡ c.read_front-answer.new.self.ahead
same_ahead c = elim c.if-is_ok.branch [
  | then-is_ok w ↦ ap (λ (sockets : MioSockets). sockets.ahead) w.self-is
  | else-is_ok w ↦ ap (λ (sockets : MioSockets). sockets.ahead) w.self-is
]

pub returns-clause-told : goal.returns-clause-told
returns-clause-told c = rw (same_notes c) c.read_front-answer.ensures.told

pub returns-clause-unasked : goal.returns-clause-unasked
returns-clause-unasked c = rw (same_notes c) c.read_front-answer.ensures.unasked

pub returns-clause-readiness : goal.returns-clause-readiness
returns-clause-readiness c =
    let by = c.read_front-answer.ensures.readiness in
    let count = rw (same_ahead c) at c.count_ahead.ensures in
    rw (same_ahead c) (by.0, by.1, (rw (count, by.2) at c.ready_again.ensures))

pub invariant_of-self-clause-places : goal.invariant_of-self-clause-places
invariant_of-self-clause-places c = c.read_front-answer.new.self.places

pub invariant_of-self-clause-accounted : goal.invariant_of-self-clause-accounted
invariant_of-self-clause-accounted c = c.read_front-answer.new.self.accounted

pub invariant_of-self-clause-dropped : goal.invariant_of-self-clause-dropped
invariant_of-self-clause-dropped c = c.read_front-answer.new.self.dropped
