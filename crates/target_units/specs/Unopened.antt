-- Why units are not opened: the file of one is refused, by a call of the system or by a rule of its medium.
use Rattle.std.specs.Prelude.{◌≡◌, ℕ, ◌<◌, List, Contains, length, Bool, true, false, IsTrue, Some, string_bytes}
use Rattle.std.specs.IoError.{error_kind, raw_os_error}
use Rattle.std.specs.declared.io.Error.{Error}
use Rattle.std.specs.declared.io.ErrorKind.TheVariants as kinds
use Rattle.media_store.specs.Opening.{IsRefused}
use Rattle.media_block.specs.Blocks.{is_disk}
use Rattle.media_block.specs.declared.fault.DiskOpenFault.{DiskOpenFault}
use Rattle.media_block.specs.declared.fault.DiskOpenFault.TheVariants as disks
use Rattle.media_tape.specs.Items.{is_tape, torn_at}
use Rattle.media_tape.specs.declared.fault.TapeOpenFault.{TapeOpenFault}
use Rattle.media_tape.specs.declared.fault.TapeOpenFault.TheVariants as tapes
use Rattle.target_config.specs.Configuration.{MediumEntry, MemoryDisk, FileDisk, MemoryTape, FileTape, UnitEntry, TargetEntry, natural, file_of}
use Rattle.target_units.specs.Opened.{Held}
use Rattle.target_units.specs.Refusal.{Refusal, NoRefusal, ByCall, ByStore, content_in, failures_in, honest_in}
use Rattle.target_units.specs.declared.cause.DeviceCause.{DeviceCause}
use Rattle.target_units.specs.declared.cause.DeviceCause.TheVariants as causes
use Rattle.target_units.specs.declared.fault.UnitFault.{UnitFault}
use Rattle.target_units.specs.declared.fault.UnitFault.TheVariants as whys
use Rattle.target_units.specs.declared.fault.OpenFault.{OpenFault}
use Rattle.target_units.specs.declared.fault.OpenFault.TheVariants as faults

-- own: the cause for an error of the system at the opening of a file, or at its lock (EWOULDBLOCK, flock(2))
abbrev pub IsErrorOf : Error → DeviceCause → Type 0
IsErrorOf error (causes.Unopened code) = code ≡ raw_os_error error
IsErrorOf error causes.Locked = error_kind error ≡ kinds.WouldBlock
IsErrorOf error causes.Unread = ⊥
IsErrorOf error causes.Length = ⊥
IsErrorOf error (causes.Torn at) = ⊥
IsErrorOf error causes.TooLong = ⊥

-- own: the cause for a store that is not opened as a disk
abbrev pub disk_cause : DiskOpenFault → DeviceCause
disk_cause disks.Length = causes.Length
disk_cause disks.Device = causes.Unread

-- own: the fault for a store that is not opened as a tape
abbrev pub tape_fault_of : ℕ → TapeOpenFault → UnitFault
tape_fault_of lun tapes.OutOfMemory = whys.Memory
tape_fault_of lun (tapes.TornEnd at) = whys.Device lun (causes.Torn at)
tape_fault_of lun tapes.Device = whys.Device lun causes.Unread
tape_fault_of lun tapes.TooLong = whys.Device lun causes.TooLong

-- own: which rule of a disk a content breaks
abbrev pub BreaksDisk : List ℕ → DeviceCause → Type 0
BreaksDisk content causes.Length = is_disk content ≡ false
BreaksDisk content cause = ⊥

-- own: which rule of a tape of a capacity a content breaks
abbrev pub BreaksTape : ℕ → List ℕ → DeviceCause → Type 0
BreaksTape capacity content (causes.Torn at) = (at ≡ torn_at content) × (at < length content)
BreaksTape capacity content causes.TooLong = (is_tape content ≡ true) × (capacity < length content)
BreaksTape capacity content cause = ⊥

-- own: which rule of its medium a content breaks
abbrev pub Breaks : MediumEntry → List ℕ → DeviceCause → Type 0
Breaks (MemoryDisk blocks) content cause = ⊥
Breaks (FileDisk path) content cause = BreaksDisk content cause
Breaks (MemoryTape capacity early) content cause = ⊥
Breaks (FileTape path capacity early) content cause = BreaksTape capacity content cause

-- own: a file of this content is unfit for its medium. One call on it failed, or none did: then the content breaks a
-- rule, if all answers agreed with it
abbrev pub IsUnfit : MediumEntry → List ℕ → (failures : ℕ) (honest : Bool) → DeviceCause → Type 0
IsUnfit medium content failures honest causes.Unread = failures ≡ 1
IsUnfit medium content failures honest causes.Length = (failures ≡ 0) × (IsTrue honest → Breaks medium content causes.Length)
IsUnfit medium content failures honest (causes.Torn at) = (failures ≡ 0) × (IsTrue honest → Breaks medium content (causes.Torn at))
IsUnfit medium content failures honest causes.TooLong = (failures ≡ 0) × (IsTrue honest → Breaks medium content causes.TooLong)
IsUnfit medium content failures honest (causes.Unopened code) = ⊥
IsUnfit medium content failures honest causes.Locked = ⊥

module _ (held : Held) where
  -- own: what is left of the file at a path says why it is refused: the calls that opened or locked it, or its store
  abbrev pub IsRefusal : MediumEntry → (path : List ℕ) → Refusal → DeviceCause → Type 0
  IsRefusal medium path NoRefusal cause = ⊥
  IsRefusal medium path (ByCall error calls) cause = IsRefused path calls × IsErrorOf error cause
  IsRefusal medium path (ByStore store) cause =
      (content_in store ≡ held path) × IsUnfit medium (held path) (failures_in store) (honest_in store) cause

  -- own: the medium is in a file, which is refused
  abbrev pub IsMediumRefused : MediumEntry → Refusal → DeviceCause → Type 0
  IsMediumRefused medium refused cause = (path : List ℕ) × (file_of medium ≡ Some path) × IsRefusal medium path refused cause

  -- the unit of this number, on this medium, is refused
  abbrev pub IsDevice : MediumEntry → ℕ → Refusal → UnitFault → Type 0
  IsDevice medium lun refused (whys.Device told cause) = (told ≡ lun) × IsMediumRefused medium refused cause
  IsDevice medium lun refused whys.Memory = ⊥

  -- own: a unit with this number is refused
  abbrev pub IsUnitRefused : ℕ → Refusal → DeviceCause → UnitEntry → Type 0
  IsUnitRefused lun refused cause unit = (natural unit.lun ≡ lun) × IsMediumRefused unit.medium refused cause

  -- the unit is refused, or an allocation failed
  abbrev pub IsFaultAt : UnitEntry → Refusal → UnitFault → Type 0
  IsFaultAt unit refused (whys.Device lun cause) = IsUnitRefused lun refused cause unit
  IsFaultAt unit refused whys.Memory = Unit {0}

  -- one of the units is refused
  abbrev pub IsRefusedIn : List UnitEntry → ℕ → Refusal → DeviceCause → Type 0
  IsRefusedIn units lun refused cause = (unit : UnitEntry) × Contains units unit × IsUnitRefused lun refused cause unit

  -- one of the units is refused, or an allocation failed
  abbrev pub IsFaultIn : List UnitEntry → Refusal → UnitFault → Type 0
  IsFaultIn units refused (whys.Device lun cause) = IsRefusedIn units lun refused cause
  IsFaultIn units refused whys.Memory = Unit {0}

  -- one of the units of the target of this name is refused
  abbrev pub IsRefusedAt : List TargetEntry → (name : List ℕ) → ℕ → Refusal → DeviceCause → Type 0
  IsRefusedAt targets name lun refused cause =
      (target : TargetEntry) × Contains targets target × (target.name ≡ name) × IsRefusedIn target.units lun refused cause

  -- one of the units of all targets is refused, or an allocation failed
  abbrev pub IsUnopened : List TargetEntry → Refusal → OpenFault → Type 0
  IsUnopened targets refused (faults.Device name lun cause) = IsRefusedAt targets (string_bytes name) lun refused cause
  IsUnopened targets refused faults.Memory = Unit {0}
