-- What a unit keeps, and nothing of its store.
use Rattle.std.specs.Prelude.{ℕ, List, Bool}
use Rattle.media_tape.specs.Items.{Item}
use Rattle.scsi_reserve.specs.Table.{TableState}
use Rattle.scsi_unit.specs.Device.{DeviceState, Disk, Tape}
use Rattle.scsi_unit.specs.State.{UnitState}

-- own: a disk's blocks, and whether writes to it are refused (SWP, SPC-4 "Control mode page"). Or a tape's items before
-- and after its position, whether it is loaded, and the length of its fixed blocks
pub data MediumState : Type 0 where
  DiskMedium : (blocks : List (List ℕ)) (write_protect : Bool) → MediumState
  TapeMedium : (before after : List Item) (is_loaded : Bool) (block_length : ℕ) → MediumState

abbrev pub medium_of_device : DeviceState → MediumState
medium_of_device (Disk disk) = DiskMedium disk.disk.blocks disk.write_protect
medium_of_device (Tape tape) = TapeMedium tape.tape.before tape.tape.after tape.tape.is_loaded tape.block_length

-- own: its medium, its registrations and its reservation (SPC-4 "Persistent reservations")
pub record KeptState : Type 0 where
  pub medium : MediumState
  pub reservations : TableState

abbrev pub kept_of : UnitState → KeptState
kept_of unit = record { medium = medium_of_device unit.device; reservations = unit.reservations }
