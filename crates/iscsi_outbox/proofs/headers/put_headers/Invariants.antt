use Rattle.std.proofs.Common.{◌≡◌}
use Rattle.iscsi_outbox.proofs.Written.{AreWritten}
use Rattle.iscsi_outbox.proofs.headers.put_headers.Given as goal

abbrev pub invariant-loop-number : goal.invariant-loop-number
invariant-loop-number l =
    AreWritten l.shared l.limits l.count l.number l.at l.initial.buffer.items l.buffer.items × (l.buffer.spare ≡ l.initial.buffer.spare)
