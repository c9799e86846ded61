use Rattle.scsi_sense.proofs.Laid.{IsJoined}
use Rattle.std.proofs.Common.{◌≡◌}
use Rattle.scsi_sense.proofs.given.join.Given as goal

abbrev pub invariant-loop-number : goal.invariant-loop-number
invariant-loop-number l =
    IsJoined l.pieces.length l.pieces.count l.number l.initial.buffer.items l.buffer.items × (l.buffer.spare ≡ l.initial.buffer.spare)
