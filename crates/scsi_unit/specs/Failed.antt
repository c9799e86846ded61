-- A unit of which a write failed: it is not ready until it is opened again (own).
use Rattle.std.specs.Prelude.{◌≡◌, ℕ, List, Bool, true, not, Some, None, slice_index}
use Rattle.scsi_sense.specs.Done.{check_condition}
use Rattle.scsi_sense.specs.Nexus.{NexusName}
use Rattle.scsi_cdb.specs.Operation.{row_for}
use Rattle.scsi_cdb.specs.declared.operation.Row.{Row}
use Rattle.scsi_tape.specs.TapeSense.{target_failure, write_error}
use Rattle.scsi_unit.specs.CameOut.{CameOut}
use Rattle.scsi_unit.specs.Device.{DeviceState, Disk, Tape, kind_of}
use Rattle.scsi_unit.specs.Joined.{told}
use Rattle.scsi_unit.specs.State.{UnitState}
use Rattle.scsi_unit.specs.Checks.{needs_medium, attention_check, reservation_check}
use Rattle.scsi_unit.specs.Unit.{performed_as}

-- own: a write, a cut or a sync of it failed since it was opened
abbrev pub has_failed : DeviceState → Bool
has_failed (Disk disk) = not disk.is_ready
has_failed (Tape tape) = not tape.is_working

-- own: if the unit has failed, it still has after this
abbrev pub StaysFailed : UnitState → UnitState → Type 0
StaysFailed unit after = has_failed unit.device ≡ true → has_failed after.device ≡ true

-- own: a unit that has failed still has after every command, however that comes out
abbrev pub CommandsLeaveFailed : Type 0
CommandsLeaveFailed = (came : CameOut) (nexus : NexusName) (cdb bytes : List ℕ) (unit : UnitState)
    → StaysFailed unit (performed_as came nexus cdb bytes unit).0

-- own: a unit has failed after a command that it answered with 03/0C00
abbrev pub WriteErrorsFailUnits : Type 0
WriteErrorsFailUnits = (came : CameOut) (nexus : NexusName) (cdb bytes : List ℕ) (unit : UnitState)
    → (performed_as came nexus cdb bytes unit).1.sense ≡ Some write_error
    → has_failed (performed_as came nexus cdb bytes unit).0.device ≡ true

-- own: a unit that has failed answers each operation that needs its medium with 04/4400, and nothing changes, unless a
-- check before refuses the operation
abbrev pub FailedUnitsRefuse : Type 0
FailedUnitsRefuse = (came : CameOut) (nexus : NexusName) (cdb bytes : List ℕ) (unit : UnitState) (row : Row)
    → has_failed unit.device ≡ true → row_for (kind_of unit.device) (slice_index cdb 0) ≡ Some row
    → needs_medium row.needs ≡ true → attention_check (Some row) (told nexus unit.joined).1 ≡ None
    → reservation_check (Some row) nexus unit.reservations ≡ None
    → performed_as came nexus cdb bytes unit ≡ (unit, check_condition target_failure)
