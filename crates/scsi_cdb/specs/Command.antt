-- What a command descriptor block encodes: the fields of each operation.
use Rattle.std.specs.Prelude.{ℕ, List, Bool, not, ◌&&◌, ◌||◌, ◌==◌, Option, Some, None, if◌then◌else◌, Result, Ok, Err, slice_index, bit_and}
use Rattle.byteorder.specs.Endian.{big_from}
use Rattle.scsi_sense.specs.declared.sense.Sense.{Sense}
use Rattle.scsi_cdb.specs.Range.{Range, range_of, compared_range_of, same_range_of}
use Rattle.scsi_cdb.specs.Fault.{invalid_operation_code, field_sense}
use Rattle.scsi_cdb.specs.Taken.{command_if}
use Rattle.scsi_cdb.specs.Tape.{tape_fields}
use Rattle.scsi_cdb.specs.Operation.{row_for}
use Rattle.scsi_cdb.specs.PersistentReserve.{reserve_in_of, reserve_out_of}
use Rattle.scsi_cdb.specs.declared.operation.Kind.{Kind}
use Rattle.scsi_cdb.specs.declared.operation.Row.{Row}
use Rattle.scsi_cdb.specs.declared.command.Command.{Command}
use Rattle.scsi_cdb.specs.declared.command.Command.TheVariants as to
use Rattle.scsi_cdb.specs.declared.command.UnitCommand.{UnitCommand}
use Rattle.scsi_cdb.specs.declared.command.UnitCommand.TheVariants.{TestUnitReady, RequestSense, Inquiry, ModeSelect, ModeSense, ReportLuns}
use Rattle.scsi_cdb.specs.declared.command.UnitCommand.TheVariants.{ReserveIn, ReserveOut}
use Rattle.scsi_cdb.specs.declared.command.DiskCommand.{DiskCommand}
use Rattle.scsi_cdb.specs.declared.command.DiskCommand.TheVariants.{Read, ReadCapacity10, ReadCapacity16, Write, Verify, VerifyData}
use Rattle.scsi_cdb.specs.declared.command.DiskCommand.TheVariants.{SynchronizeCache, WriteSame, CompareAndWrite}
use Rattle.scsi_cdb.specs.declared.tape.TapeCommand.{TapeCommand}
use Rattle.scsi_cdb.specs.declared.fault.FieldFault.{FieldFault}
use Rattle.scsi_cdb.specs.declared.fault.FieldFault.TheVariants.{InvalidField, SavingNotSupported}
use Rattle.scsi_cdb.specs.declared.mode.ParameterHeader.{ParameterHeader}
use Rattle.scsi_cdb.specs.declared.mode.ParameterHeader.TheVariants.{Six, Ten}
use Rattle.scsi_cdb.specs.declared.mode.PageControl.{PageControl}
use Rattle.scsi_cdb.specs.declared.mode.PageControl.TheVariants.{Current, Changeable, Default}
use Rattle.scsi_cdb.specs.declared.persistent_reserve.ReserveInFields.{ReserveInFields}
use Rattle.scsi_cdb.specs.declared.persistent_reserve.ReserveOutFields.{ReserveOutFields}
use Rattle.scsi_cdb.specs.declared.report_luns.ReportLunsFields.{ReportLunsFields}
use Rattle.scsi_cdb.specs.declared.report_luns.SelectReport.{SelectReport}
use Rattle.scsi_cdb.specs.declared.report_luns.SelectReport.TheVariants.{LogicalUnits, WellKnown, All}
use Rattle.scsi_cdb.specs.declared.operation.Operation.{Operation}
use Rattle.scsi_cdb.specs.declared.operation.Operation.TheVariants.{Unit, Disk, Tape}
use Rattle.scsi_cdb.specs.declared.operation.UnitOperation.{UnitOperation}
use Rattle.scsi_cdb.specs.declared.operation.UnitOperation.TheVariants as unit
use Rattle.scsi_cdb.specs.declared.operation.DiskOperation.{DiskOperation}
use Rattle.scsi_cdb.specs.declared.operation.DiskOperation.TheVariants as disk

-- SPC-4 "INQUIRY command": the page if EVPD, bit 0 of byte 1, is set; without it the page code must be 0
abbrev pub inquiry_of : List ℕ → Result UnitCommand FieldFault
inquiry_of cdb =
    if bit_and (slice_index cdb 1) 0x01 == 0
    then command_if (slice_index cdb 2 == 0) (Inquiry None (big_from 3 2 cdb))
    else Ok (Inquiry (Some (slice_index cdb 2)) (big_from 3 2 cdb))

-- SPC-4 "MODE SELECT (6) command": SP, bit 0 of byte 1, is 0, since no page is saved (profile)
abbrev pub mode_select_of : ℕ → ParameterHeader → ℕ → Result UnitCommand FieldFault
mode_select_of byte_1 header list_length =
    command_if (bit_and byte_1 0x01 == 0) (ModeSelect (record { header = header; list_length = list_length }))

-- SPC-4 "MODE SENSE (6) command": PC, bits 7 and 6 of byte 2; 11b requests saved values
abbrev pub control_of : ℕ → Option PageControl
control_of byte_2 =
    if bit_and byte_2 0xc0 == 0x00 then Some Current else if bit_and byte_2 0xc0 == 0x40 then Some Changeable
    else if bit_and byte_2 0xc0 == 0x80 then Some Default else None

-- profile: a subpage code is accepted if it is 0, or if it requests all subpages of all pages
abbrev pub is_subpage : ℕ → ℕ → Bool
is_subpage page subpage = subpage == 0 || (page == 0x3f && subpage == 0xff)

-- SPC-4 "MODE SENSE (6) command": DBD is bit 3 of byte 1, the page code bits 5 to 0 of byte 2, the subpage code byte 3
abbrev pub mode_sense_with : Option PageControl → List ℕ → ParameterHeader → ℕ → Result UnitCommand FieldFault
mode_sense_with None cdb header allocation_length = Err SavingNotSupported
mode_sense_with (Some control) cdb header allocation_length =
    command_if (is_subpage (bit_and (slice_index cdb 2) 0x3f) (slice_index cdb 3))
    (ModeSense (record {
      header = header;
      block_descriptor = bit_and (slice_index cdb 1) 0x08 == 0;
      control = control;
      page = bit_and (slice_index cdb 2) 0x3f;
      allocation_length = allocation_length;
    }))

abbrev pub mode_sense_of : List ℕ → ParameterHeader → ℕ → Result UnitCommand FieldFault
mode_sense_of cdb header allocation_length = mode_sense_with (control_of (slice_index cdb 2)) cdb header allocation_length

-- SPC-4 "REPORT LUNS command": SELECT REPORT
abbrev pub select_of : ℕ → Option SelectReport
select_of code =
    if code == 0x00 then Some LogicalUnits else if code == 0x01 then Some WellKnown else if code == 0x02 then Some All else None

abbrev pub report_luns_with : Option SelectReport → List ℕ → Result ReportLunsFields FieldFault
report_luns_with None cdb = Err InvalidField
report_luns_with (Some select) cdb = Ok (record { select = select; allocation_length = big_from 6 4 cdb })

abbrev pub report_luns_of : List ℕ → Result ReportLunsFields FieldFault
report_luns_of cdb = report_luns_with (select_of (slice_index cdb 2)) cdb

abbrev pub to_report : Result ReportLunsFields FieldFault → Result UnitCommand FieldFault
to_report (Ok fields) = Ok (ReportLuns fields)
to_report (Err fault) = Err fault

abbrev pub to_reserve_in : Result ReserveInFields FieldFault → Result UnitCommand FieldFault
to_reserve_in (Ok fields) = Ok (ReserveIn fields)
to_reserve_in (Err fault) = Err fault

abbrev pub to_reserve_out : Result ReserveOutFields FieldFault → Result UnitCommand FieldFault
to_reserve_out (Ok fields) = Ok (ReserveOut fields)
to_reserve_out (Err fault) = Err fault

-- SBC-3 "READ (10) command", "READ (16) command", and others alike: LOGICAL BLOCK ADDRESS and the number of blocks
abbrev pub range_10 : List ℕ → Range
range_10 cdb = record { first = big_from 2 4 cdb; count = big_from 7 2 cdb }

abbrev pub range_16 : List ℕ → Range
range_16 cdb = record { first = big_from 2 8 cdb; count = big_from 10 4 cdb }

-- SBC-3 "COMPARE AND WRITE command": NUMBER OF LOGICAL BLOCKS, byte 13
abbrev pub range_compared : List ℕ → Range
range_compared cdb = record { first = big_from 2 8 cdb; count = slice_index cdb 13 }

-- a command of blocks, if it accepts this number and its other fields are accepted
abbrev pub command_of_blocks : (Range → DiskCommand) → Bool → Option Range → Result DiskCommand FieldFault
command_of_blocks command is_taken None = Err InvalidField
command_of_blocks command is_taken (Some range) = command_if is_taken (command range)

-- SBC-3 "READ (10) command": RDPROTECT, WRPROTECT or VRPROTECT, bits 7 to 5 of byte 1, is 0, since there is no
-- protection information
abbrev pub is_without_protection : ℕ → Bool
is_without_protection byte_1 = bit_and byte_1 0xe0 == 0

-- SBC-3 "WRITE (10) command": FUA, bit 3 of byte 1
abbrev pub forces_access : ℕ → Bool
forces_access byte_1 = not (bit_and byte_1 0x08 == 0)

-- SBC-3 "READ (10) command"
abbrev pub read_of : ℕ → Range → Result DiskCommand FieldFault
read_of byte_1 range = command_of_blocks Read (is_without_protection byte_1) (range_of range.first range.count)

-- SBC-3 "WRITE (10) command"
abbrev pub write_of : ℕ → Range → Result DiskCommand FieldFault
write_of byte_1 range =
    command_of_blocks (λ range. Write range (forces_access byte_1)) (is_without_protection byte_1) (range_of range.first range.count)

-- SBC-3 "VERIFY (10) command": BYTCHK, bits 2 and 1 of byte 1, is 00b (no data) or 01b (as much data as blocks)
abbrev pub verify_of : ℕ → Range → Result DiskCommand FieldFault
verify_of byte_1 range =
    if bit_and byte_1 0x06 == 0x00 then command_if (is_without_protection byte_1) (Verify range)
    else command_of_blocks VerifyData (is_without_protection byte_1 && bit_and byte_1 0x06 == 0x02) (range_of range.first range.count)

-- SBC-3 "WRITE SAME (10) command": byte 1 (WRPROTECT, ANCHOR, UNMAP, NDOB) is 0 (profile)
abbrev pub write_same_of : ℕ → Range → Result DiskCommand FieldFault
write_same_of byte_1 range = command_of_blocks WriteSame (byte_1 == 0) (same_range_of range.first range.count)

-- SBC-3 "COMPARE AND WRITE command"
abbrev pub compare_and_write_of : ℕ → Range → Result DiskCommand FieldFault
compare_and_write_of byte_1 range =
    command_of_blocks (λ range. CompareAndWrite range (forces_access byte_1)) (is_without_protection byte_1)
    (compared_range_of range.first range.count)

-- SPC-4 "Commands for all device types": the fields of each operation
abbrev pub unit_fields : UnitOperation → List ℕ → Result UnitCommand FieldFault
unit_fields unit.TestUnitReady cdb = Ok TestUnitReady
unit_fields unit.RequestSense cdb = command_if (bit_and (slice_index cdb 1) 0x01 == 0) (RequestSense (slice_index cdb 4))
unit_fields unit.Inquiry cdb = inquiry_of cdb
unit_fields unit.ModeSelect6 cdb = mode_select_of (slice_index cdb 1) Six (slice_index cdb 4)
unit_fields unit.ModeSelect10 cdb = mode_select_of (slice_index cdb 1) Ten (big_from 7 2 cdb)
unit_fields unit.ModeSense6 cdb = mode_sense_of cdb Six (slice_index cdb 4)
unit_fields unit.ModeSense10 cdb = mode_sense_of cdb Ten (big_from 7 2 cdb)
unit_fields unit.PersistentReserveIn cdb = to_reserve_in (reserve_in_of cdb)
unit_fields unit.PersistentReserveOut cdb = to_reserve_out (reserve_out_of cdb)
unit_fields unit.ReportLuns cdb = to_report (report_luns_of cdb)

-- SBC-3 "Commands for direct access block devices": the fields of each operation
abbrev pub disk_fields : DiskOperation → List ℕ → Result DiskCommand FieldFault
disk_fields disk.Read10 cdb = read_of (slice_index cdb 1) (range_10 cdb)
disk_fields disk.Read16 cdb = read_of (slice_index cdb 1) (range_16 cdb)
disk_fields disk.ReadCapacity10 cdb = Ok ReadCapacity10
disk_fields disk.ServiceActionIn16 cdb =
    command_if (bit_and (slice_index cdb 1) 0x1f == 0x10) (ReadCapacity16 (big_from 10 4 cdb))
disk_fields disk.Write10 cdb = write_of (slice_index cdb 1) (range_10 cdb)
disk_fields disk.Write16 cdb = write_of (slice_index cdb 1) (range_16 cdb)
disk_fields disk.Verify10 cdb = verify_of (slice_index cdb 1) (range_10 cdb)
disk_fields disk.Verify16 cdb = verify_of (slice_index cdb 1) (range_16 cdb)
disk_fields disk.SynchronizeCache10 cdb = Ok (SynchronizeCache (range_10 cdb))
disk_fields disk.SynchronizeCache16 cdb = Ok (SynchronizeCache (range_16 cdb))
disk_fields disk.WriteSame10 cdb = write_same_of (slice_index cdb 1) (range_10 cdb)
disk_fields disk.WriteSame16 cdb = write_same_of (slice_index cdb 1) (range_16 cdb)
disk_fields disk.CompareAndWrite cdb = compare_and_write_of (slice_index cdb 1) (range_compared cdb)

abbrev pub to_unit : Result UnitCommand FieldFault → Result Command FieldFault
to_unit (Ok command) = Ok (to.Unit command)
to_unit (Err fault) = Err fault

abbrev pub to_disk : Result DiskCommand FieldFault → Result Command FieldFault
to_disk (Ok command) = Ok (to.Disk command)
to_disk (Err fault) = Err fault

abbrev pub to_tape : Result TapeCommand FieldFault → Result Command FieldFault
to_tape (Ok command) = Ok (to.Tape command)
to_tape (Err fault) = Err fault

-- the command that the bytes encode for an operation, and a tape's block length
abbrev pub fields_of : Operation → List ℕ → ℕ → Result Command FieldFault
fields_of (Unit operation) cdb block_length = to_unit (unit_fields operation cdb)
fields_of (Disk operation) cdb block_length = to_disk (disk_fields operation cdb)
fields_of (Tape operation) cdb block_length = to_tape (tape_fields operation cdb block_length)

abbrev pub with_sense : Result Command FieldFault → Result Command Sense
with_sense (Ok command) = Ok command
with_sense (Err fault) = Err (field_sense fault)

-- own: what refuses a command descriptor block: first, that units of this kind do not have its operation
abbrev pub command_from : Option Row → List ℕ → ℕ → Result Command Sense
command_from None cdb block_length = Err invalid_operation_code
command_from (Some row) cdb block_length = with_sense (fields_of row.operation cdb block_length)

-- the command that the bytes encode for a unit of this kind, a tape with this block length
abbrev pub command_of : List ℕ → Kind → ℕ → Result Command Sense
command_of cdb kind block_length = command_from (row_for kind (slice_index cdb 0)) cdb block_length
