use Rattle.std.proofs.Common.{◌≡◌, ◌++◌, map, take, drop}
use Rattle.scsi_unit.specs.Joined.{raised_in}
use Rattle.scsi_unit.proofs.joined.raise_for_all.Given as goal

-- those so far have it to be told, and the others are as they were
abbrev pub invariant-loop-at : goal.invariant-loop-at
invariant-loop-at l = l.joined ≡ map (raised_in l.attention) (take l.at l.fn.joined) ++ drop l.at l.fn.joined
