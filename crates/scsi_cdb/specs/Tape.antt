-- What the command descriptor blocks of tapes encode: the fields of each operation (SSC-4 "Command descriptions").
use Rattle.std.specs.Prelude.{ℕ, ◌-◌, List, Bool, true, false, not, ◌==◌, nat_lt, Option, Some, None, if◌then◌else◌, Result, Ok, Err, slice_index}
use Rattle.std.specs.Prelude.{bit_and}
use Rattle.byteorder.specs.Endian.{big_from}
use Rattle.scsi_cdb.specs.declared.fault.FieldFault.{FieldFault}
use Rattle.scsi_cdb.specs.declared.fault.FieldFault.TheVariants.{InvalidField}
use Rattle.scsi_cdb.specs.declared.operation.TapeOperation.{TapeOperation}
use Rattle.scsi_cdb.specs.declared.operation.TapeOperation.TheVariants as tape
use Rattle.scsi_cdb.specs.declared.tape.Distance.{Distance}
use Rattle.scsi_cdb.specs.declared.tape.IncorrectLength.{IncorrectLength}
use Rattle.scsi_cdb.specs.declared.tape.IncorrectLength.TheVariants.{Told, ToldIfLonger, Suppressed}
use Rattle.scsi_cdb.specs.declared.tape.SpaceCode.TheVariants.{LogicalBlocks, Filemarks}
use Rattle.scsi_cdb.specs.declared.tape.TapeCommand.{TapeCommand}
use Rattle.scsi_cdb.specs.declared.tape.TapeCommand.TheVariants.{Rewind, ReadBlockLimits, Read, ReadFixed, Write, WriteFixed, WriteFilemarks, Space, SpaceToEndOfData}
use Rattle.scsi_cdb.specs.declared.tape.TapeCommand.TheVariants.{Erase, LoadUnload, Locate, ReadPosition}
use Rattle.scsi_cdb.specs.Taken.{command_if}
use Rattle.scsi_cdb.specs.Record.{record_length_of}
use Rattle.scsi_cdb.specs.FixedBlocks.{fixed_blocks_of}

-- SSC-4 "READ (6) command": SILI, bit 1 of byte 1: another length is not reported. If the tape has a block length, a
-- greater one is
abbrev pub incorrect_length_of : Bool → ℕ → IncorrectLength
incorrect_length_of suppresses block_length = if suppresses then (if block_length == 0 then Suppressed else ToldIfLonger) else Told

-- own: a command of what is there, if it is
abbrev pub command_with : {A : Type 0} → (A → TapeCommand) → Option A → Result TapeCommand FieldFault
command_with command None = Err InvalidField
command_with command (Some a) = Ok (command a)

-- SSC-4 "READ (6) command": this many bytes; with FIXED, bit 0 of byte 1, this many blocks of the tape's block length,
-- and no SILI
abbrev pub read_of : ℕ → ℕ → ℕ → Result TapeCommand FieldFault
read_of byte_1 number block_length =
    if bit_and byte_1 0x01 == 0 then Ok (Read number (incorrect_length_of (not (bit_and byte_1 0x02 == 0)) block_length))
    else if bit_and byte_1 0x02 == 0 then command_with ReadFixed (fixed_blocks_of number block_length) else Err InvalidField

-- SSC-4 "WRITE (6) command": this many bytes; with FIXED, bit 0 of byte 1, this many blocks of the tape's block length
abbrev pub write_of : ℕ → ℕ → ℕ → Result TapeCommand FieldFault
write_of byte_1 number block_length =
    if bit_and byte_1 0x01 == 0 then command_with Write (record_length_of number)
    else command_with WriteFixed (fixed_blocks_of number block_length)

-- SSC-4 "SPACE (6) command": COUNT, three bytes in two's complement; below zero it is toward the beginning
abbrev pub distance_of : ℕ → Distance
distance_of number =
    if nat_lt number 0x800000 then record { is_backward = false; count = number }
    else record { is_backward = true; count = 0x1000000 - number }

-- SSC-4 "SPACE (6) command": CODE, those that are built (profile)
abbrev pub space_of : ℕ → Distance → Result TapeCommand FieldFault
space_of code distance =
    if code == 0x0 then Ok (Space LogicalBlocks distance) else if code == 0x1 then Ok (Space Filemarks distance)
    else if code == 0x3 then Ok SpaceToEndOfData else Err InvalidField

-- SSC-4, each operation in "Command descriptions", to a tape with this block length. READ BLOCK LIMITS: MLOI. WRITE
-- FILEMARKS: WSMK, bit 1 of byte 1, for there are no setmarks. LOAD UNLOAD: EOT and HOLD, bits 2 and 3 of byte 4. LOCATE:
-- BT and CP, bits 2 and 1 of byte 1. READ POSITION: SERVICE ACTION, of which the short form is built
abbrev pub tape_fields : TapeOperation → List ℕ → ℕ → Result TapeCommand FieldFault
tape_fields tape.Rewind cdb block_length = Ok Rewind
tape_fields tape.ReadBlockLimits cdb block_length = command_if (bit_and (slice_index cdb 1) 0x01 == 0) ReadBlockLimits
tape_fields tape.Read6 cdb block_length = read_of (slice_index cdb 1) (big_from 2 3 cdb) block_length
tape_fields tape.Write6 cdb block_length = write_of (slice_index cdb 1) (big_from 2 3 cdb) block_length
tape_fields tape.WriteFilemarks6 cdb block_length = command_if (bit_and (slice_index cdb 1) 0x02 == 0) (WriteFilemarks (big_from 2 3 cdb))
tape_fields tape.Space6 cdb block_length = space_of (bit_and (slice_index cdb 1) 0x0f) (distance_of (big_from 2 3 cdb))
tape_fields tape.Erase6 cdb block_length = Ok Erase
tape_fields tape.LoadUnload cdb block_length =
    command_if (bit_and (slice_index cdb 4) 0x0c == 0) (LoadUnload (not (bit_and (slice_index cdb 4) 0x01 == 0)))
tape_fields tape.Locate10 cdb block_length = command_if (bit_and (slice_index cdb 1) 0x06 == 0) (Locate (big_from 3 4 cdb))
tape_fields tape.ReadPosition cdb block_length = command_if (bit_and (slice_index cdb 1) 0x1f == 0) ReadPosition
