-- A unit of which a write failed stays so, and refuses what needs its medium.
use Rattle.std.proofs.Common.{◌≡◌, ℕ, List, true, Option, Some, None, Result, Ok, Err, refl, sym, ap, ◌∙◌, arith}
use Rattle.std.specs.Prelude.{slice_index}
use Rattle.scsi_sense.specs.Done.{check_condition}
use Rattle.scsi_sense.specs.Nexus.{NexusName}
use Rattle.scsi_sense.specs.declared.sense.Sense.{Sense}
use Rattle.scsi_cdb.specs.Operation.{row_for}
use Rattle.scsi_cdb.specs.Command.{command_of}
use Rattle.scsi_cdb.specs.declared.operation.Row.{Row}
use Rattle.scsi_cdb.specs.declared.operation.Need.{Need}
use Rattle.scsi_cdb.specs.declared.command.Command.{Command}
use Rattle.scsi_cdb.specs.declared.command.Command.TheVariants as to
use Rattle.scsi_cdb.specs.declared.command.UnitCommand.{UnitCommand}
use Rattle.scsi_cdb.specs.declared.command.UnitCommand.TheVariants.{TestUnitReady, RequestSense, Inquiry, ModeSelect, ModeSense, ReportLuns}
use Rattle.scsi_cdb.specs.declared.command.UnitCommand.TheVariants.{ReserveIn, ReserveOut}
use Rattle.scsi_cdb.specs.declared.command.DiskCommand.{DiskCommand}
use Rattle.scsi_cdb.specs.declared.tape.TapeCommand.{TapeCommand}
use Rattle.scsi_mode.specs.declared.list_fault.ListFault.{ListFault}
use Rattle.scsi_mode.specs.declared.parameters.Parameters.{Parameters}
use Rattle.scsi_tape.specs.State.{TapeUnitState}
use Rattle.scsi_tape.specs.TapeSense.{target_failure}
use Rattle.scsi_tape.specs.CameOut.{TapeCame, tape_after}
use Rattle.scsi_tape.specs.CameOut as tape_way
use Rattle.scsi_disk.specs.DiskCame.{DiskCame, DiskTouch, disk_after}
use Rattle.scsi_disk.specs.DiskCame as disk_way
use Rattle.scsi_disk.specs.DiskDevice.{DiskUnit}
use Rattle.media_block.specs.Blocks.{DiskState}
use Rattle.scsi_unit.specs.CameOut.{CameOut, disk_came, tape_came}
use Rattle.scsi_unit.specs.Device.{DeviceState, Disk, Tape, kind_of, fixed_length, with_parameters}
use Rattle.scsi_unit.specs.Joined.{told}
use Rattle.scsi_unit.specs.PersistentReserve.{reserved_out}
use Rattle.scsi_unit.specs.State.{UnitState}
use Rattle.scsi_unit.specs.Checks.{needs_medium, unready, attention_check, reservation_check, checks, first_refusal, judged_by, judged}
use Rattle.scsi_unit.specs.TapeCommands.{tape_performed}
use Rattle.scsi_unit.specs.Unit.{mode_selected, unit_done, disk_done, carried_out, done_by, performed_as}
use Rattle.scsi_unit.specs.declared.refusal.Refusal.{Refusal}
use Rattle.scsi_unit.specs.declared.refusal.Refusal.TheVariants.{Refused, Told, Conflict}
use Rattle.scsi_unit.specs.Failed.{has_failed, StaysFailed, CommandsLeaveFailed, FailedUnitsRefuse}

-- ---- it has failed after every command

parameters_keep : (given : Parameters) (device : DeviceState) → has_failed (with_parameters given device) ≡ has_failed device
parameters_keep given (Disk disk) = refl
parameters_keep given (Tape tape) = refl

selected_keep : (nexus : NexusName) (unit : UnitState) (list_length : ℕ) (r : Result Parameters ListFault)
    → has_failed (mode_selected nexus unit list_length r).0.device ≡ has_failed unit.device
selected_keep nexus unit list_length (Err fault) = refl
selected_keep nexus unit list_length (Ok given) = parameters_keep given unit.device

unit_keep : (nexus : NexusName) (bytes : List ℕ) (unit : UnitState) (command : UnitCommand)
    → has_failed (unit_done nexus bytes unit command).0.device ≡ has_failed unit.device
unfolding unit_done reserved_out
unit_keep nexus bytes unit TestUnitReady = refl
unit_keep nexus bytes unit (RequestSense allocation_length) = refl
unit_keep nexus bytes unit (Inquiry page allocation_length) = refl
unit_keep nexus bytes unit (ReserveIn fields) = refl
unit_keep nexus bytes unit (ReserveOut fields) = refl
unit_keep nexus bytes unit (ReportLuns fields) = refl
unit_keep nexus bytes unit (ModeSense fields) = refl
unit_keep nexus bytes unit (ModeSelect fields) = selected_keep nexus unit fields.list_length _

disk_keeps : (came : DiskCame) (touch : DiskTouch) (defined : DiskState) (disk : DiskUnit)
    → has_failed (Disk disk) ≡ true → has_failed (Disk (disk_after came touch defined disk)) ≡ true
disk_keeps disk_way.AsDefined touch defined disk failed = failed
disk_keeps (disk_way.Dishonest shown left) touch defined disk failed = failed
disk_keeps (disk_way.ReadFailed honest) touch defined disk failed = failed
disk_keeps (disk_way.WriteFailed left honest) touch defined disk failed = refl

tape_keeps : (came : TapeCame) (command : TapeCommand) (bytes : List ℕ) (tape : TapeUnitState)
    → has_failed (Tape tape) ≡ true → has_failed (Tape (tape_after came command bytes tape)) ≡ true
tape_keeps tape_way.AsDefined command bytes tape failed = failed
tape_keeps (tape_way.Dishonest given left) command bytes tape failed = failed
tape_keeps (tape_way.ReadFailed honest) command bytes tape failed = failed
tape_keeps (tape_way.WriteFailed left) command bytes tape failed = refl

disk_done_keeps : (came : DiskCame) (bytes : List ℕ) (unit : UnitState) (device : DeviceState) (command : DiskCommand)
    → unit.device ≡ device → StaysFailed unit (disk_done came bytes unit device command).0
disk_done_keeps came bytes unit (Disk disk) command is failed = disk_keeps came _ _ disk (sym (ap has_failed is) ∙ failed)
disk_done_keeps came bytes unit (Tape tape) command is failed = failed

tape_done_keeps : (came : TapeCame) (nexus : NexusName) (bytes : List ℕ) (unit : UnitState) (device : DeviceState) (command : TapeCommand)
    → unit.device ≡ device → StaysFailed unit (tape_performed came nexus bytes unit device command).0
tape_done_keeps came nexus bytes unit (Disk disk) command is failed = failed
tape_done_keeps came nexus bytes unit (Tape tape) command is failed =
    tape_keeps came command bytes tape (sym (ap has_failed is) ∙ failed)

done_keeps : (came : CameOut) (nexus : NexusName) (bytes : List ℕ) (unit : UnitState) (command : Command)
    → StaysFailed unit (carried_out came nexus bytes unit command).0
done_keeps came nexus bytes unit (to.Unit command) failed = unit_keep nexus bytes unit command ∙ failed
done_keeps came nexus bytes unit (to.Disk command) failed = disk_done_keeps (disk_came came) bytes unit unit.device command refl failed
done_keeps came nexus bytes unit (to.Tape command) failed =
    tape_done_keeps (tape_came came) nexus bytes unit unit.device command refl failed

judged_keeps : (came : CameOut) (nexus : NexusName) (bytes : List ℕ) (unit : UnitState) (r : Result Command Refusal)
    → StaysFailed unit (done_by came nexus bytes unit r).0
judged_keeps came nexus bytes unit (Ok command) failed = done_keeps came nexus bytes unit command failed
judged_keeps came nexus bytes unit (Err (Refused sense)) failed = failed
judged_keeps came nexus bytes unit (Err Conflict) failed = failed
judged_keeps came nexus bytes unit (Err (Told code)) failed = failed

pub commands_leave_failed : CommandsLeaveFailed
unfolding performed_as
commands_leave_failed came nexus cdb bytes unit failed = judged_keeps came nexus bytes unit (judged nexus cdb bytes unit) failed

-- ---- it refuses what needs its medium

unready_is : (need : Need) (device : DeviceState) → has_failed device ≡ true → needs_medium need ≡ true
    → unready need device ≡ Some target_failure
unready_is need device failed needs = grind arith

refuses : (came : CameOut) (nexus : NexusName) (bytes : List ℕ) (unit : UnitState) (command : Result Command Sense) (found : Option Row) (row : Row)
    → has_failed unit.device ≡ true → found ≡ Some row → needs_medium row.needs ≡ true
    → attention_check (Some row) (told nexus unit.joined).1 ≡ None → reservation_check (Some row) nexus unit.reservations ≡ None
    → done_by came nexus bytes unit (judged_by (first_refusal (checks found command nexus bytes unit)) command)
    ≡ (unit, check_condition target_failure)
refuses came nexus bytes unit command found row failed is needs attention reservation =
    rw (is, attention, reservation, unready_is row.needs unit.device failed needs) refl

pub failed_units_refuse : FailedUnitsRefuse
unfolding performed_as judged
failed_units_refuse came nexus cdb bytes unit row failed is needs attention reservation =
    refuses came nexus bytes unit (command_of cdb (kind_of unit.device) (fixed_length unit.device))
    (row_for (kind_of unit.device) (slice_index cdb 0)) row failed is needs attention reservation
