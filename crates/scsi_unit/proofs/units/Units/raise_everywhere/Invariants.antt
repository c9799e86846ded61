use Rattle.std.proofs.Common.{◌≡◌, ◌++◌, map, take, drop}
use Rattle.scsi_unit.specs.Unit.{raised_unit_for_all}
use Rattle.scsi_unit.proofs.units.Units.raise_everywhere.Given as goal

-- the units so far have told it, and the others are as they were
abbrev pub invariant-loop-unit : goal.invariant-loop-unit
invariant-loop-unit g l =
    l.unit-items ≡ map (raised_unit_for_all l.attention) (take l.unit-index l.initial.unit-items) ++ drop l.unit-index l.initial.unit-items
