use Rattle.std.proofs.Common.{◌≡◌, ◌++◌, map, take, drop}
use Rattle.scsi_unit.specs.Unit.{where_named, raised_unit_for_all}
use Rattle.scsi_unit.proofs.units.Units.raise_for_all.Given as goal

-- the units so far have told it, and the others are as they were
abbrev pub invariant-loop-unit : goal.invariant-loop-unit
invariant-loop-unit g l =
    l.unit-items ≡ map (where_named l.lun (raised_unit_for_all l.attention)) (take l.unit-index l.initial.unit-items)
    ++ drop l.unit-index l.initial.unit-items
