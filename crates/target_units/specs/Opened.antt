-- The units that a configuration makes.
use Rattle.std.specs.Prelude.{◌≡◌, ◌≤◌, ℕ, List, [], ◌∷◌, length, true, false, IsTrue, replicate}
use Rattle.media_block.specs.Blocks.{DiskState, block_length, is_disk, disk_of}
use Rattle.media_tape.specs.Items.{items_of, is_tape}
use Rattle.media_tape.specs.Tape.{TapeState}
use Rattle.scsi_unit.specs.Device.{DeviceState, opened, opened_tape}
use Rattle.scsi_unit.specs.State.{UnitState}
use Rattle.scsi_unit.specs.Unit.{free_unit}
use Rattle.scsi_unit.specs.Units.{UnitStates}
use Rattle.target_config.specs.Configuration.{MediumEntry, MemoryDisk, FileDisk, MemoryTape, FileTape, UnitEntry, TargetEntry, natural}

-- what the file at each path held when it was opened
abbrev pub Held : Type 0
Held = List ℕ → List ℕ

-- profile: a disk of `blocks` blocks of zeros in memory, whose store cannot fail
abbrev pub zero_disk : ℕ → DiskState
zero_disk blocks = record { blocks = replicate blocks (replicate block_length 0); synced = false; failures = 0; honest = true; steady = true }

-- profile: an empty tape in memory, loaded, whose store cannot fail
abbrev pub empty_tape : (capacity early : ℕ) → TapeState
empty_tape capacity early = record {
  before = [];
  after = [];
  tail = [];
  is_loaded = true;
  capacity = capacity;
  early_mark = early;
  synced = false;
  failures = 0;
  honest = true;
  steady = true;
  reach = capacity;
  atomic = true;
}

-- own: a disk in a file when it is opened. If the file reported its length correctly, its blocks are those that it held
pub record IsFileDisk (held : List ℕ) (disk : DiskState) : Type 0 where
  pub unfailed : disk.failures ≡ 0
  pub whole : IsTrue disk.honest → is_disk held ≡ true
  pub blocks : IsTrue disk.honest → disk.blocks ≡ disk_of held

-- own: a tape in a file when it is opened, loaded and at its beginning. If the file reported its length and the lengths
-- of its items correctly, its items are exactly those that it held
pub record IsFileTape (capacity early : ℕ) (held : List ℕ) (tape : TapeState) : Type 0 where
  pub unfailed : tape.failures ≡ 0
  pub set : (tape.is_loaded ≡ true) × (tape.capacity ≡ capacity) × (tape.early_mark ≡ early)
  pub whole : IsTrue tape.honest → is_tape held ≡ true
  pub fits : IsTrue tape.honest → length held ≤ capacity
  pub before : IsTrue tape.honest → tape.before ≡ []
  pub after : IsTrue tape.honest → tape.after ≡ items_of held
  pub tail : IsTrue tape.honest → tape.tail ≡ []

-- own: what a unit keeps its data on when it is opened
abbrev pub IsMediumOf : Held → MediumEntry → DeviceState → Type 0
IsMediumOf held (MemoryDisk blocks) medium = medium ≡ opened (zero_disk blocks)
IsMediumOf held (FileDisk path) medium = (disk : DiskState) × (medium ≡ opened disk) × IsFileDisk (held path) disk
IsMediumOf held (MemoryTape capacity early) medium = medium ≡ opened_tape (empty_tape capacity early)
IsMediumOf held (FileTape path capacity early) medium =
    (tape : TapeState) × (medium ≡ opened_tape tape) × IsFileTape capacity early (held path) tape

-- own: a unit when it is opened: no nexus is joined to it
pub record IsUnitOf (held : Held) (entry : UnitEntry) (unit : UnitState) : Type 0 where
  pub free : unit ≡ free_unit (natural entry.lun) entry.serial unit.device
  pub medium : IsMediumOf held entry.medium unit.device

-- each element of the first list is related to the one at its place in the second, which is as long
abbrev pub AreEach : {X Y : Type 0} → (X → Y → Type 0) → List X → List Y → Type 0
AreEach R [] [] = Unit {0}
AreEach R (x ∷ xs) (y ∷ ys) = R x y × AreEach R xs ys
AreEach R xs ys = ⊥

-- own: the units that a target is made from
abbrev pub IsTargetOf : Held → TargetEntry → UnitStates → Type 0
IsTargetOf held target units = AreEach (IsUnitOf held) target.units units

-- own: the units of all targets
abbrev pub AreUnitsOf : Held → List TargetEntry → List UnitStates → Type 0
AreUnitsOf held targets units = AreEach (IsTargetOf held) targets units
