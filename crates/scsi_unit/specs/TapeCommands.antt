-- What commands do to the tape of a unit, by how they came out (SSC-4 "Command descriptions").
use Rattle.std.specs.Prelude.{ℕ, ◌+◌, List, Bool, false, not, if◌then◌else◌}
use Rattle.scsi_sense.specs.Done.{Outcome, check_condition}
use Rattle.scsi_sense.specs.Given.{headroom, tailroom}
use Rattle.scsi_sense.specs.Nexus.{NexusName}
use Rattle.scsi_sense.specs.declared.condition.Attention.TheVariants.{NotReadyToReadyChange}
use Rattle.scsi_cdb.specs.FixedBlocks.{bytes_of}
use Rattle.scsi_cdb.specs.Fault.{invalid_operation_code}
use Rattle.scsi_cdb.specs.declared.tape.TapeCommand.{TapeCommand}
use Rattle.scsi_cdb.specs.declared.tape.TapeCommand.TheVariants.{Rewind, ReadBlockLimits, Read, ReadFixed, Write, WriteFixed, WriteFilemarks, Space}
use Rattle.scsi_cdb.specs.declared.tape.TapeCommand.TheVariants.{SpaceToEndOfData, Erase, LoadUnload, Locate, ReadPosition}
use Rattle.scsi_tape.specs.CameOut.{TapeCame, tape_after, tape_told}
use Rattle.scsi_unit.specs.Device.{DeviceState, Disk, Tape}
use Rattle.scsi_unit.specs.Joined.{raised_for_others}
use Rattle.scsi_unit.specs.State.{UnitState}

-- SSC-4 "LOAD UNLOAD command": a tape that was not loaded is loaded
abbrev pub loads : TapeCommand → Bool → Bool
loads Rewind is_loaded = false
loads ReadBlockLimits is_loaded = false
loads (Read asked incorrect) is_loaded = false
loads (ReadFixed blocks) is_loaded = false
loads (Write count) is_loaded = false
loads (WriteFixed blocks) is_loaded = false
loads (WriteFilemarks count) is_loaded = false
loads (Space code distance) is_loaded = false
loads SpaceToEndOfData is_loaded = false
loads Erase is_loaded = false
loads (LoadUnload load) is_loaded = if load then not is_loaded else false
loads (Locate number) is_loaded = false
loads ReadPosition is_loaded = false

-- own: the room of a buffer for all that READ (6) requests, in bytes, with what is sent before it and after it
abbrev pub likely_room : TapeCommand → ℕ
likely_room (Read asked incorrect) = headroom + asked + tailroom
likely_room (ReadFixed blocks) = headroom + bytes_of blocks + tailroom
likely_room other = 0

-- a command with this data to the tape of a unit, by how it came out. If it loads the tape, an attention is established
-- for the others (NOT READY TO READY CHANGE, MEDIUM MAY HAVE CHANGED)
abbrev pub tape_performed : TapeCame → NexusName → List ℕ → UnitState → DeviceState → TapeCommand → UnitState × Outcome
tape_performed came nexus bytes unit (Disk disk) command = (unit, check_condition invalid_operation_code)
tape_performed came nexus bytes unit (Tape on) command = (
  record unit {
    device = Tape (tape_after came command bytes on);
    joined =
        if loads command on.tape.is_loaded then raised_for_others nexus NotReadyToReadyChange unit.joined else unit.joined;
  },
  tape_told came command bytes on.tape,
)
