-- A logical unit, and what a command does to it.
use Rattle.std.specs.Prelude.{◌≡◌, ℕ, List, [], ◌∷◌, take, Bool, false, ◌==◌, Option, Some, None, Result, Ok, Err, if◌then◌else◌}
use Rattle.scsi_sense.specs.Sense.{plain_sense}
use Rattle.scsi_sense.specs.Done.{Outcome, good, good_with, good_taking, check_condition, reservation_conflict}
use Rattle.scsi_sense.specs.Nexus.{NexusName}
use Rattle.scsi_sense.specs.declared.condition.Condition.TheVariants.{UnitAttention}
use Rattle.scsi_sense.specs.declared.condition.Attention.{Attention}
use Rattle.scsi_sense.specs.declared.condition.Attention.TheVariants.{ModeParametersChanged}
use Rattle.scsi_cdb.specs.Fault.{invalid_operation_code, invalid_field}
use Rattle.scsi_cdb.specs.declared.command.Command.{Command}
use Rattle.scsi_cdb.specs.declared.command.Command.TheVariants as to
use Rattle.scsi_cdb.specs.declared.command.UnitCommand.{UnitCommand}
use Rattle.scsi_cdb.specs.declared.command.UnitCommand.TheVariants.{TestUnitReady, RequestSense, Inquiry, ModeSelect, ModeSense, ReportLuns}
use Rattle.scsi_cdb.specs.declared.command.UnitCommand.TheVariants.{ReserveIn, ReserveOut}
use Rattle.scsi_cdb.specs.declared.command.DiskCommand.{DiskCommand}
use Rattle.scsi_reserve.specs.Table.{empty_table}
use Rattle.scsi_mode.specs.ModePages.{differ}
use Rattle.scsi_mode.specs.ModeData.{mode_data}
use Rattle.scsi_mode.specs.ParameterList.{fault_sense, selected}
use Rattle.scsi_mode.specs.declared.list_fault.ListFault.{ListFault}
use Rattle.scsi_mode.specs.declared.parameters.Parameters.{Parameters}
use Rattle.scsi_unit.specs.Device.{DeviceState, Disk, Tape, kind_of, parameters_of, with_parameters, store_of}
use Rattle.scsi_disk.specs.DiskCame.{DiskCame, shown_by, disk_after}
use Rattle.scsi_unit.specs.CameOut.{CameOut, AsDefined, Touch, disk_came, tape_came, Nothing, OnDisk, OnTape, way, store_after}
use Rattle.scsi_disk.specs.DiskCommands.{shown, disk_defined, disk_told, touch_of}
use Rattle.scsi_unit.specs.TapeCommands.{tape_performed}
use Rattle.scsi_unit.specs.Joined.{with_nexus, without_nexus, told, raised_for, raised_for_others, raised_for_all}
use Rattle.scsi_unit.specs.Identity.{inquiry_outcome, luns_outcome, sense_outcome, pending_sense, without_unit}
use Rattle.scsi_unit.specs.PersistentReserve.{reserve_in_outcome, reserved_out}
use Rattle.scsi_unit.specs.Lun.{lun_number}
use Rattle.scsi_unit.specs.State.{UnitState}
use Rattle.scsi_unit.specs.Checks.{judged}
use Rattle.scsi_unit.specs.declared.refusal.Refusal.{Refusal}
use Rattle.scsi_unit.specs.declared.refusal.Refusal.TheVariants.{Refused, Told, Conflict}

-- ---- the nexuses that are joined

-- a unit without joined nexuses and registrations
abbrev pub free_unit : ℕ → List ℕ → DeviceState → UnitState
free_unit lun serial device = record { lun = lun; serial = serial; device = device; reservations = empty_table; joined = [] }

abbrev pub joined_unit : NexusName → UnitState → UnitState
joined_unit nexus unit = record unit { joined = with_nexus nexus unit.joined }

abbrev pub left_unit : NexusName → UnitState → UnitState
left_unit nexus unit = record unit { joined = without_nexus nexus unit.joined }

abbrev pub raised_unit : NexusName → Attention → UnitState → UnitState
raised_unit nexus attention unit = record unit { joined = raised_for nexus attention unit.joined }

abbrev pub raised_unit_for_all : Attention → UnitState → UnitState
raised_unit_for_all attention unit = record unit { joined = raised_for_all attention unit.joined }

-- ---- commands to units of every kind

-- SPC-4 "MODE SENSE (6) command": the data, or that there is no such page
unfoldable pub mode_sense_outcome : ℕ → Option (List ℕ) → Outcome
mode_sense_outcome allocation_length None = check_condition invalid_field
mode_sense_outcome allocation_length (Some bytes) = good_with (take allocation_length bytes)

-- SPC-4 "MODE SELECT (6) command": the parameters are as the list sets them. If they changed, an attention is
-- established for the others (MODE PARAMETERS CHANGED)
abbrev pub with_modes : NexusName → Parameters → UnitState → UnitState
with_modes nexus parameters unit =
    record unit {
      device = with_parameters parameters unit.device;
      joined =
          if differ (parameters_of unit.device) parameters
          then raised_for_others nexus ModeParametersChanged unit.joined else unit.joined;
    }

-- SPC-4 "MODE SELECT (6) command": a list that is refused changes nothing
abbrev pub mode_selected : NexusName → UnitState → ℕ → Result Parameters ListFault → UnitState × Outcome
mode_selected nexus unit list_length (Err fault) = (unit, check_condition (fault_sense fault))
mode_selected nexus unit list_length (Ok parameters) = (with_modes nexus parameters unit, good_taking list_length)

-- SPC-4 "Commands for all device types": what a command with this data does to a unit. REQUEST SENSE clears the
-- attention that it returns; a unit by itself reports its own LUN
unfoldable pub unit_done : NexusName → List ℕ → UnitState → UnitCommand → UnitState × Outcome
unit_done nexus bytes unit TestUnitReady = (unit, good)
unit_done nexus bytes unit (RequestSense allocation_length) =
    let p = told nexus unit.joined in (record unit { joined = p.0 }, sense_outcome (pending_sense p.1) allocation_length)
unit_done nexus bytes unit (Inquiry page allocation_length) =
    (unit, inquiry_outcome (kind_of unit.device) unit.serial page allocation_length)
unit_done nexus bytes unit (ReserveIn fields) = (unit, reserve_in_outcome fields unit.reservations)
unit_done nexus bytes unit (ReserveOut fields) = reserved_out nexus bytes unit fields
unit_done nexus bytes unit (ReportLuns fields) = (unit, luns_outcome (unit.lun ∷ []) fields)
unit_done nexus bytes unit (ModeSense fields) =
    (unit, mode_sense_outcome fields.allocation_length (mode_data fields (parameters_of unit.device)))
unit_done nexus bytes unit (ModeSelect fields) =
    mode_selected nexus unit fields.list_length
    (selected (parameters_of unit.device) fields.header (take fields.list_length bytes))

-- ---- commands to a disk

abbrev pub disk_done : DiskCame → List ℕ → UnitState → DeviceState → DiskCommand → UnitState × Outcome
disk_done came bytes unit (Disk disk) command =
    let truth = shown disk.disk.blocks bytes command in (
      record unit { device = Disk (disk_after came (touch_of command) (disk_defined (shown_by came truth) bytes command disk.disk) disk) },
      disk_told came truth disk.disk.blocks command,
    )
disk_done came bytes unit (Tape tape) command = (unit, check_condition invalid_operation_code)

-- ---- any command

-- a command that no check refused, by how it came out
abbrev pub carried_out : CameOut → NexusName → List ℕ → UnitState → Command → UnitState × Outcome
carried_out came nexus bytes unit (to.Unit command) = unit_done nexus bytes unit command
carried_out came nexus bytes unit (to.Disk command) = disk_done (disk_came came) bytes unit unit.device command
carried_out came nexus bytes unit (to.Tape command) = tape_performed (tape_came came) nexus bytes unit unit.device command

-- SAM-5 "Unit attention condition": one that is reported in place of a command is then cleared
abbrev pub refused_with : NexusName → UnitState → Refusal → UnitState × Outcome
refused_with nexus unit (Refused sense) = (unit, check_condition sense)
refused_with nexus unit Conflict = (unit, reservation_conflict)
refused_with nexus unit (Told code) = (record unit { joined = (told nexus unit.joined).0 }, check_condition (plain_sense (UnitAttention code)))

abbrev pub done_by : CameOut → NexusName → List ℕ → UnitState → Result Command Refusal → UnitState × Outcome
done_by came nexus bytes unit (Err refusal) = refused_with nexus unit refusal
done_by came nexus bytes unit (Ok command) = carried_out came nexus bytes unit command

-- a command with this data to a unit, by how it came out
unfoldable pub performed_as : CameOut → NexusName → List ℕ → List ℕ → UnitState → UnitState × Outcome
performed_as came nexus cdb bytes unit = done_by came nexus bytes unit (judged nexus cdb bytes unit)

-- a command with this data to a unit whose medium does not fail
abbrev pub perform_at : NexusName → List ℕ → List ℕ → UnitState → UnitState × Outcome
perform_at nexus cdb bytes unit = performed_as AsDefined nexus cdb bytes unit

-- ---- possible outcomes

-- own: what a command with this data does with the medium of a device
abbrev pub touch_by : List ℕ → DeviceState → Command → Touch
touch_by bytes device (to.Unit command) = Nothing
touch_by bytes (Disk disk) (to.Disk command) = OnDisk (touch_of command) disk.disk
touch_by bytes (Tape tape) (to.Disk command) = Nothing
touch_by bytes (Disk disk) (to.Tape command) = Nothing
touch_by bytes (Tape tape) (to.Tape command) = OnTape command bytes tape.tape

abbrev pub touch_where : List ℕ → DeviceState → Result Command Refusal → Touch
touch_where bytes device (Err refusal) = Nothing
touch_where bytes device (Ok command) = touch_by bytes device command

-- own: the same for the medium of a unit: nothing if a check refuses it
unfoldable pub touch_at : NexusName → List ℕ → List ℕ → UnitState → Touch
touch_at nexus cdb bytes unit = touch_where bytes unit.device (judged nexus cdb bytes unit)

-- own: a command came out in one of its possible ways, which gives the unit and the outcome
pub record IsPerformed (touch : Touch) (should : CameOut → UnitState × Outcome) (old new : UnitState) (done : Outcome) : Type 0 where
  pub came : CameOut
  pub possible : way came touch ≡ came
  pub store : store_of new.device ≡ store_after came old.device
  pub answer : (new, done) ≡ should came

-- a command with this data to a unit, by how it came out, if that is possible
abbrev pub came_out_at : CameOut → NexusName → List ℕ → List ℕ → UnitState → UnitState × Outcome
came_out_at came nexus cdb bytes unit = performed_as (way came (touch_at nexus cdb bytes unit)) nexus cdb bytes unit

-- ---- the unit that a LUN names

abbrev pub is_number : ℕ → Option ℕ → Bool
is_number lun None = false
is_number lun (Some number) = number == lun

-- whether a LUN field names this unit
abbrev pub names_unit : List ℕ → UnitState → Bool
names_unit lun unit = is_number unit.lun (lun_number lun)

-- f of this unit, if a LUN field names it
abbrev pub where_named : List ℕ → (UnitState → UnitState) → UnitState → UnitState
where_named lun f unit = if names_unit lun unit then f unit else unit

-- a command with this data that a LUN field sends to this unit, by how it came out
unfoldable pub perform_as : CameOut → NexusName → List ℕ → List ℕ → List ℕ → UnitState → UnitState × Outcome
perform_as came nexus lun cdb bytes unit =
    if names_unit lun unit then performed_as came nexus cdb bytes unit else (unit, without_unit cdb)

-- and what it does with the medium
unfoldable pub touch_with : NexusName → List ℕ → List ℕ → List ℕ → UnitState → Touch
touch_with nexus lun cdb bytes unit = if names_unit lun unit then touch_at nexus cdb bytes unit else Nothing
