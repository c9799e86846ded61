-- How a command came out, depending on its medium.
use Rattle.std.specs.Prelude.{ℕ, List, Bool, false, ◌||◌, is_some, if◌then◌else◌}
use Rattle.media_store.specs.Failures.{risen}
use Rattle.media_block.specs.Blocks.{DiskState}
use Rattle.media_tape.specs.Tape.{TapeState}
use Rattle.scsi_cdb.specs.declared.tape.TapeCommand.{TapeCommand}
use Rattle.scsi_tape.specs.CameOut.{TapeCame, tape_touch, is_tape_possible}
use Rattle.scsi_tape.specs.CameOut as tape_way
use Rattle.scsi_unit.specs.Device.{DeviceState, Disk, Tape, StoreState, store_of}
use Rattle.scsi_disk.specs.DiskCame.{DiskCame, DiskTouch, is_disk_possible}
use Rattle.scsi_disk.specs.DiskCame as disk_way

pub data CameOut : Type 0 where
  -- as its definition says
  AsDefined : CameOut
  -- on a disk, or on a tape
  OfDisk : (came : DiskCame) → CameOut
  OfTape : (came : TapeCame) → CameOut

abbrev pub on_disk : DiskCame → CameOut
on_disk disk_way.AsDefined = AsDefined
on_disk (disk_way.Dishonest shown left) = OfDisk (disk_way.Dishonest shown left)
on_disk (disk_way.ReadFailed honest) = OfDisk (disk_way.ReadFailed honest)
on_disk (disk_way.WriteFailed left honest) = OfDisk (disk_way.WriteFailed left honest)

abbrev pub on_tape : TapeCame → CameOut
on_tape tape_way.AsDefined = AsDefined
on_tape (tape_way.Dishonest given left) = OfTape (tape_way.Dishonest given left)
on_tape (tape_way.ReadFailed honest) = OfTape (tape_way.ReadFailed honest)
on_tape (tape_way.WriteFailed left) = OfTape (tape_way.WriteFailed left)

-- own: on a disk, a way of tapes counts as defined, and the reverse
abbrev pub disk_came : CameOut → DiskCame
disk_came AsDefined = disk_way.AsDefined
disk_came (OfDisk came) = came
disk_came (OfTape came) = disk_way.AsDefined

abbrev pub tape_came : CameOut → TapeCame
tape_came AsDefined = tape_way.AsDefined
tape_came (OfDisk came) = tape_way.AsDefined
tape_came (OfTape came) = came

-- own: what a command does with a medium
pub data Touch : Type 0 where
  Nothing : Touch
  OnDisk : (touch : DiskTouch) (disk : DiskState) → Touch
  OnTape : (command : TapeCommand) (bytes : List ℕ) (tape : TapeState) → Touch

-- own: whether it does anything with one
abbrev pub touches : Touch → Bool
touches Nothing = false
touches (OnDisk touch disk) = is_some touch.reads || (is_some touch.writes || touch.syncs)
touches (OnTape command bytes tape) =
    let touch = tape_touch command tape in touch.reads || (touch.writes || touch.syncs)

-- own: a way in which a command cannot come out counts as that of its definition
abbrev pub way : CameOut → Touch → CameOut
way came Nothing = AsDefined
way came (OnDisk touch disk) = on_disk (if is_disk_possible (disk_came came) touch disk then disk_came came else disk_way.AsDefined)
way came (OnTape command bytes tape) = on_tape (if is_tape_possible (tape_came came) command bytes tape then tape_came came else tape_way.AsDefined)

-- ---- own: the store after it

abbrev pub disk_store : DiskCame → StoreState → StoreState
disk_store disk_way.AsDefined store = store
disk_store (disk_way.Dishonest shown left) store = record store { honest = false }
disk_store (disk_way.ReadFailed honest) store = record store { failures = risen store.failures; honest = honest }
disk_store (disk_way.WriteFailed left honest) store = record store { failures = risen store.failures; honest = honest }

abbrev pub tape_store : TapeCame → StoreState → StoreState
tape_store tape_way.AsDefined store = store
tape_store (tape_way.Dishonest given left) store = record store { honest = false }
tape_store (tape_way.ReadFailed honest) store = record store { failures = risen store.failures; honest = honest }
tape_store (tape_way.WriteFailed left) store = record store { failures = risen store.failures }

abbrev pub store_after : CameOut → DeviceState → StoreState
store_after came (Disk disk) = disk_store (disk_came came) (store_of (Disk disk))
store_after came (Tape tape) = tape_store (tape_came came) (store_of (Tape tape))
