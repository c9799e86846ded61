-- What a unit checks before it carries out a command: an ordered list (own, after SPC-4), of which the first refusal
-- counts.
use Rattle.std.specs.Prelude.{ℕ, ◌+◌, nat_lt, List, [], ◌∷◌, length, Bool, true, false, ◌&&◌, not, Option, Some, None, Result, Ok, Err, slice_index}
use Rattle.std.specs.Prelude.{if◌then◌else◌}
use Rattle.std.specs.Option.{option_map}
use Rattle.scsi_sense.specs.Sense.{plain_sense}
use Rattle.scsi_sense.specs.Nexus.{NexusName}
use Rattle.scsi_sense.specs.declared.sense.Sense.{Sense}
use Rattle.scsi_sense.specs.declared.condition.Attention.{Attention}
use Rattle.scsi_sense.specs.declared.condition.Condition.TheVariants.{LogicalBlockAddressOutOfRange, WriteProtected}
use Rattle.scsi_cdb.specs.Range.{Range}
use Rattle.scsi_cdb.specs.Fault.{invalid_operation_code, invalid_field}
use Rattle.scsi_cdb.specs.Operation.{row_for}
use Rattle.scsi_cdb.specs.Command.{command_of}
use Rattle.scsi_cdb.specs.declared.operation.Row.{Row}
use Rattle.scsi_cdb.specs.declared.operation.Need.{Need}
use Rattle.scsi_cdb.specs.declared.operation.Need.TheVariants.{Nothing, Working, Ready}
use Rattle.scsi_cdb.specs.declared.command.Command.{Command}
use Rattle.scsi_cdb.specs.declared.command.Command.TheVariants as to
use Rattle.scsi_cdb.specs.declared.command.UnitCommand.TheVariants.{TestUnitReady, RequestSense, Inquiry, ModeSelect, ModeSense, ReportLuns}
use Rattle.scsi_cdb.specs.declared.command.UnitCommand.TheVariants.{ReserveIn, ReserveOut}
use Rattle.scsi_reserve.specs.Table.{TableState, is_allowed}
use Rattle.scsi_mode.specs.ParameterList.{fault_sense}
use Rattle.scsi_mode.specs.declared.list_fault.ListFault.TheVariants.{EndsEarly}
use Rattle.scsi_tape.specs.TapeSense.{target_failure}
use Rattle.scsi_tape.specs.State.{not_ready}
use Rattle.scsi_tape.specs.Commands.{bytes_needed as tape_needed}
use Rattle.scsi_unit.specs.Device.{DeviceState, Disk, Tape, kind_of, fixed_length}
use Rattle.scsi_disk.specs.DiskCommands.{range_named, bytes_needed, is_write}
use Rattle.scsi_unit.specs.Joined.{told}
use Rattle.scsi_unit.specs.State.{UnitState}
use Rattle.scsi_unit.specs.declared.refusal.Refusal.{Refusal}
use Rattle.scsi_unit.specs.declared.refusal.Refusal.TheVariants.{Refused, Told, Conflict}

-- 05/2100
abbrev pub out_of_range : Sense
out_of_range = plain_sense LogicalBlockAddressOutOfRange

-- 07/2700
abbrev pub write_protected : Sense
write_protected = plain_sense WriteProtected

abbrev pub refused_if : Bool → Sense → Option Refusal
refused_if holds sense = if holds then Some (Refused sense) else None

-- ---- the checks, each of what it looks at; what an earlier one refuses passes the later ones

-- units of this kind have the operation
abbrev pub operation_check : Option Row → Option Refusal
operation_check None = Some (Refused invalid_operation_code)
operation_check (Some row) = None

-- SAM-5 "Unit attention condition": the first that is pending, unless the operation passes it
abbrev pub attention_check : Option Row → Option Attention → Option Refusal
attention_check None attention = None
attention_check (Some row) attention = if row.passes_attention then None else option_map Told attention

-- SPC-4 "Persistent reservations": a reservation forbids the nexus operations of this class
abbrev pub reservation_check : Option Row → NexusName → TableState → Option Refusal
reservation_check None nexus table = None
reservation_check (Some row) nexus table = if is_allowed nexus row.reservation table then None else Some Conflict

-- own: whether an operation with this need needs the medium
abbrev pub needs_medium : Need → Bool
needs_medium Nothing = false
needs_medium Working = true
needs_medium Ready = true

-- why a device cannot do an operation with this need: a write of it failed (own), or its tape is not loaded (SPC-4
-- "TEST UNIT READY command")
abbrev pub unready : Need → DeviceState → Option Sense
unready need (Disk disk) = if needs_medium need && not disk.is_ready then Some target_failure else None
unready need (Tape tape) = not_ready need tape

-- the device is ready for the operation
abbrev pub ready_check : Option Row → DeviceState → Option Refusal
ready_check None device = None
ready_check (Some row) device = option_map Refused (unready row.needs device)

-- the fields are accepted
abbrev pub fields_check : Result Command Sense → Option Refusal
fields_check (Err sense) = Some (Refused sense)
fields_check (Ok command) = None

-- whether a device has the blocks of a range
abbrev pub has_range : DeviceState → Option Range → Bool
has_range device None = true
has_range (Disk disk) (Some range) = not (nat_lt (length disk.disk.blocks) (range.first + range.count))
has_range (Tape tape) (Some range) = true

abbrev pub range_of : Command → Option Range
range_of (to.Unit command) = None
range_of (to.Disk command) = range_named command
range_of (to.Tape command) = None

-- SBC-3 "READ (10) command": the blocks that it names are there
abbrev pub range_check : Result Command Sense → DeviceState → Option Refusal
range_check (Err sense) device = None
range_check (Ok command) device = refused_if (not (has_range device (range_of command))) out_of_range

-- the number of bytes of data that a command needs
abbrev pub needed : Command → ℕ
needed (to.Unit TestUnitReady) = 0
needed (to.Unit (RequestSense allocation_length)) = 0
needed (to.Unit (Inquiry page allocation_length)) = 0
needed (to.Unit (ModeSelect fields)) = fields.list_length
needed (to.Unit (ModeSense fields)) = 0
needed (to.Unit (ReserveIn fields)) = 0
needed (to.Unit (ReserveOut fields)) = fields.list_length
needed (to.Unit (ReportLuns fields)) = 0
needed (to.Disk command) = bytes_needed command
needed (to.Tape command) = tape_needed command

-- the sense data of a command whose data is too short: PARAMETER LIST LENGTH ERROR (SPC-4 "MODE SELECT (6) command",
-- "PERSISTENT RESERVE OUT command"). If its blocks or its record exceed the data, INVALID FIELD IN CDB (profile)
abbrev pub data_sense : Command → Sense
data_sense (to.Unit command) = fault_sense EndsEarly
data_sense (to.Disk command) = invalid_field
data_sense (to.Tape command) = invalid_field

-- at least this much data has come
abbrev pub data_check : Result Command Sense → List ℕ → Option Refusal
data_check (Err sense) bytes = None
data_check (Ok command) bytes = refused_if (nat_lt (length bytes) (needed command)) (data_sense command)

abbrev pub writes : Command → Bool
writes (to.Unit command) = false
writes (to.Disk command) = is_write command
writes (to.Tape command) = false

-- SPC-4 "Control mode page", SWP: writes are refused
abbrev pub is_protected : DeviceState → Bool
is_protected (Disk disk) = disk.write_protect
is_protected (Tape tape) = false

abbrev pub protection_check : Result Command Sense → DeviceState → Option Refusal
protection_check (Err sense) device = None
protection_check (Ok command) device = refused_if (writes command && is_protected device) write_protected

-- in their order
abbrev pub checks : Option Row → Result Command Sense → NexusName → List ℕ → UnitState → List (Option Refusal)
checks row command nexus bytes unit =
    operation_check row
    ∷ attention_check row (told nexus unit.joined).1
    ∷ reservation_check row nexus unit.reservations
    ∷ ready_check row unit.device
    ∷ fields_check command
    ∷ range_check command unit.device
    ∷ data_check command bytes
    ∷ protection_check command unit.device
    ∷ []

abbrev pub first_refusal : List (Option Refusal) → Option Refusal
first_refusal [] = None
first_refusal (None ∷ checks) = first_refusal checks
first_refusal (Some refusal ∷ checks) = Some refusal

-- the command, if no check refuses it; a field that is refused is among the checks
abbrev pub judged_by : Option Refusal → Result Command Sense → Result Command Refusal
judged_by (Some refusal) command = Err refusal
judged_by None (Ok command) = Ok command
judged_by None (Err sense) = Err (Refused sense)

-- the command that the bytes encode for a unit, or the first refusal
unfoldable pub judged : NexusName → List ℕ → List ℕ → UnitState → Result Command Refusal
judged nexus cdb bytes unit =
    let command = command_of cdb (kind_of unit.device) (fixed_length unit.device) in
    judged_by (first_refusal (checks (row_for (kind_of unit.device) (slice_index cdb 0)) command nexus bytes unit)) command
