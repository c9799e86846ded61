use Rattle.std.proofs.Common.{◌≡◌, ◌++◌, map, take, drop}
use Rattle.scsi_unit.specs.Unit.{left_unit}
use Rattle.scsi_unit.proofs.units.Units.leave.Given as goal

-- the nexus has left the units so far, and the others are as they were
abbrev pub invariant-loop-unit : goal.invariant-loop-unit
invariant-loop-unit g l = l.unit-items ≡ map (left_unit l.nexus) (take l.unit-index l.initial.unit-items) ++ drop l.unit-index l.initial.unit-items
