-- What a logical unit is: a disk or a tape, with what it keeps data on.
use Rattle.std.specs.Prelude.{ℕ, Bool, true, false, IsTrue, length}
use Rattle.media_block.specs.Blocks.{DiskState}
use Rattle.media_tape.specs.Tape.{TapeState}
use Rattle.scsi_cdb.specs.declared.operation.Kind.{Kind}
use Rattle.scsi_cdb.specs.declared.operation.Kind.TheVariants as kind
use Rattle.scsi_mode.specs.ModePages.{write_protect, block_length_of}
use Rattle.scsi_mode.specs.declared.parameters.Parameters.{Parameters}
use Rattle.scsi_mode.specs.declared.parameters.Parameters.TheVariants as parameters
use Rattle.scsi_tape.specs.State.{TapeUnitState, opened_unit}
use Rattle.scsi_tape.specs.CameOut.{is_steady}
use Rattle.scsi_unit.specs.declared.device.Device.{Device}
use Rattle.scsi_unit.specs.declared.device.Device.TheVariants as device
use Rattle.scsi_disk.specs.DiskDevice.{DiskUnit, disk_view}

-- own: a unit keeps data on a disk, or on a tape
pub data DeviceState : Type 0 where
  Disk : (disk : DiskUnit) → DeviceState
  Tape : (tape : TapeUnitState) → DeviceState

abbrev pub device_view : {S : Type 0} → Device S → DeviceState
device_view (device.Disk disk) = Disk (disk_view disk)
device_view (device.Tape tape) = Tape tape

-- a disk that was just opened: it is ready, and SWP is clear
abbrev pub opened : DiskState → DeviceState
opened disk = Disk (record { disk = disk; is_ready = true; write_protect = false })

-- a tape that was just opened
abbrev pub opened_tape : TapeState → DeviceState
opened_tape tape = Tape (opened_unit tape)

-- SPC-4 "Standard INQUIRY data", peripheral device type
abbrev pub kind_of : DeviceState → Kind
kind_of (Disk disk) = kind.Disk
kind_of (Tape tape) = kind.Tape

-- its mode parameters
abbrev pub parameters_of : DeviceState → Parameters
parameters_of (Disk disk) = parameters.Disk (length disk.disk.blocks) disk.write_protect
parameters_of (Tape tape) = parameters.Tape tape.block_length

-- with these mode parameters: of a disk SWP can change, and of a tape the block length
abbrev pub with_parameters : Parameters → DeviceState → DeviceState
with_parameters given (Disk disk) = Disk (record disk { write_protect = write_protect given })
with_parameters given (Tape tape) = Tape (record tape { block_length = block_length_of given })

-- the length of a tape's fixed blocks in bytes: 0 if it has none, and for a disk
abbrev pub fixed_length : DeviceState → ℕ
fixed_length (Disk disk) = 0
fixed_length (Tape tape) = tape.block_length

-- ---- its store

-- own: the number of its calls that failed, and whether every answer agreed with what was written. Steady says whether
-- its calls always succeed and agree, on a tape also those by which it grows
pub record StoreState : Type 0 where
  pub failures : ℕ
  pub honest : Bool
  pub steady : Bool

abbrev pub store_of : DeviceState → StoreState
store_of (Disk disk) = record { failures = disk.disk.failures; honest = disk.disk.honest; steady = disk.disk.steady }
store_of (Tape tape) = record { failures = tape.tape.failures; honest = tape.tape.honest; steady = is_steady tape.tape }

-- own: it cannot fail
pub record IsSteady (store : StoreState) : Type 0 where
  pub honest : IsTrue store.honest
  pub steady : IsTrue store.steady
