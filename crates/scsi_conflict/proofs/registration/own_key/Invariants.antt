use Rattle.std.proofs.Common.{◌≡◌, drop}
use Rattle.scsi_conflict.specs.Registration.{own_key}
use Rattle.scsi_conflict.proofs.registration.own_key.Given as goal

-- it is not among those that were looked at
abbrev pub invariant-loop-row : goal.invariant-loop-row
invariant-loop-row l = own_key l.nexus l.rows ≡ own_key l.nexus (drop l.row-index l.rows)
