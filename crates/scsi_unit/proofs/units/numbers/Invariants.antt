use Rattle.std.proofs.Common.{◌≡◌, take}
use Rattle.scsi_unit.specs.Units.{numbers_of}
use Rattle.scsi_unit.proofs.units.numbers.Given as goal

-- the numbers of the units so far
abbrev pub invariant-loop-unit : goal.invariant-loop-unit
invariant-loop-unit g l = l.numbers.items ≡ numbers_of (take l.unit-index l.units)
