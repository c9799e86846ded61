use Rattle.std.proofs.Common.{◌≡◌, ◌++◌, map, take, drop}
use Rattle.scsi_conflict.specs.Registration.{with_key}
use Rattle.scsi_conflict.proofs.registration.set_key.Given as goal

-- those so far are set, and the others as they were
abbrev pub invariant-loop-at : goal.invariant-loop-at
invariant-loop-at l = l.rows ≡ map (with_key l.nexus l.key) (take l.at l.fn.rows) ++ drop l.at l.fn.rows
