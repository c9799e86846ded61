-- What a configuration contains.
use Rattle.std.specs.Prelude.{ℕ, ℤ, pos, negsuc, List, map, flat_map, filter_map, Bool, true, false, Option, Some, None, option_map, string_bytes}
use Rattle.std.specs.List.{list_all}
use Rattle.target_config.specs.declared.configuration.MediumConfiguration.{MediumConfiguration}
use Rattle.target_config.specs.declared.configuration.MediumConfiguration.TheVariants as media
use Rattle.target_config.specs.declared.configuration.UnitConfiguration.{UnitConfiguration}
use Rattle.target_config.specs.declared.configuration.TargetConfiguration.{TargetConfiguration}
use Rattle.target_config.specs.declared.configuration.Configuration.{Configuration}

-- profile: what a unit keeps its data on: a disk of zero blocks in memory, a disk in the file at a path, an empty tape
-- in memory, or a tape in the file at a path
pub data MediumEntry : Type 0 where
  MemoryDisk : (blocks : ℕ) → MediumEntry
  FileDisk : (path : List ℕ) → MediumEntry
  MemoryTape : (capacity early : ℕ) → MediumEntry
  FileTape : (path : List ℕ) (capacity early : ℕ) → MediumEntry

-- a logical unit, with its number as it is written
pub record UnitEntry : Type 0 where
  pub lun : ℤ
  pub serial : List ℕ
  pub medium : MediumEntry

pub record TargetEntry : Type 0 where
  pub name : List ℕ
  pub units : List UnitEntry

pub record Document : Type 0 where
  pub listen : List ℕ
  pub log : Option (List ℕ)
  pub targets : List TargetEntry

-- a LUN that is not below 0
abbrev pub natural : ℤ → ℕ
natural (pos n) = n
natural (negsuc n) = 0

abbrev pub names_of : List TargetEntry → List (List ℕ)
names_of targets = map (λ target. target.name) targets

abbrev pub is_in_memory : MediumEntry → Bool
is_in_memory (MemoryDisk blocks) = true
is_in_memory (FileDisk path) = false
is_in_memory (MemoryTape capacity early) = true
is_in_memory (FileTape path capacity early) = false

-- no unit of any target is in a file
abbrev pub keeps_in_memory : Document → Bool
keeps_in_memory document = list_all (λ target. list_all (λ unit. is_in_memory unit.medium) target.units) document.targets

-- the path of a medium in a file; any other has none
abbrev pub file_of : MediumEntry → Option (List ℕ)
file_of (MemoryDisk blocks) = None
file_of (FileDisk path) = Some path
file_of (MemoryTape capacity early) = None
file_of (FileTape path capacity early) = Some path

-- the paths of all units in files, in the order of the document
abbrev pub files_of : Document → List (List ℕ)
files_of document = flat_map (λ target. filter_map (λ unit. file_of unit.medium) target.units) document.targets

-- ---- the code's values

abbrev pub medium_view : MediumConfiguration → MediumEntry
medium_view (media.MemoryDisk blocks) = MemoryDisk blocks.number
medium_view (media.FileDisk path) = FileDisk (string_bytes path)
medium_view (media.MemoryTape capacity early) = MemoryTape capacity early
medium_view (media.FileTape path capacity early) = FileTape (string_bytes path) capacity early

abbrev pub unit_view : UnitConfiguration → UnitEntry
unit_view unit = record { lun = unit.lun; serial = string_bytes unit.serial; medium = medium_view unit.medium }

abbrev pub units_view : List UnitConfiguration → List UnitEntry
units_view units = map unit_view units

abbrev pub target_view : TargetConfiguration → TargetEntry
target_view target = record { name = string_bytes target.name; units = units_view target.units.items }

abbrev pub targets_view : List TargetConfiguration → List TargetEntry
targets_view targets = map target_view targets

abbrev pub configuration_view : Configuration → Document
configuration_view configuration = record {
  listen = string_bytes configuration.listen;
  log = option_map string_bytes configuration.log;
  targets = targets_view configuration.targets.items;
}
