-- A configuration of two targets, computed.
use Rattle.std.specs.Prelude.{◌≡◌, ℕ, pos, [], ◌∷◌, true, false, codes, Some, None, refl}
use Rattle.target_config.specs.declared.fault.ConfigFault.TheVariants.{NoLunZero, Twice}
use Rattle.target_config.specs.Configuration.{MediumEntry, MemoryDisk, FileDisk, MemoryTape, FileTape, UnitEntry, TargetEntry, Document, keeps_in_memory, files_of}
use Rattle.target_config.specs.Config.{fault_in}

abbrev unit_at : ℕ → MediumEntry → UnitEntry
unit_at lun medium = record { lun = pos lun; serial = codes "S"; medium = medium }

-- a target t1 with these two units, and a target t2 with this one
abbrev two_targets : UnitEntry → UnitEntry → UnitEntry → Document
two_targets first second third =
    let one : TargetEntry = record { name = codes "t1"; units = first ∷ second ∷ [] } in
    let other : TargetEntry = record { name = codes "t2"; units = third ∷ [] } in
    record { listen = codes "a"; log = None; targets = one ∷ other ∷ [] }

abbrev in_files : Document
in_files = two_targets (unit_at 0 (FileDisk (codes "b"))) (unit_at 1 (MemoryTape 9 0)) (unit_at 0 (FileDisk (codes "a")))

files_in_order : files_of in_files ≡ codes "b" ∷ codes "a" ∷ []
files_in_order = refl

-- a disk and a tape in one file
one_file_of_two_kinds : fault_in (two_targets (unit_at 0 (FileDisk (codes "a"))) (unit_at 1 (FileTape (codes "a") 9 0)) (unit_at 0 (MemoryDisk 8))) ≡ Some Twice
unfolding fault_in
one_file_of_two_kinds = refl

-- one unit in a file is enough
kept_in_a_file : keeps_in_memory (two_targets (unit_at 0 (MemoryDisk 8)) (unit_at 1 (MemoryDisk 8)) (unit_at 0 (FileDisk (codes "a")))) ≡ false
kept_in_a_file = refl

kept_on_a_tape_in_a_file : keeps_in_memory (two_targets (unit_at 0 (MemoryDisk 8)) (unit_at 1 (FileTape (codes "a") 9 0)) (unit_at 0 (MemoryDisk 8))) ≡ false
kept_on_a_tape_in_a_file = refl

kept_in_memory : keeps_in_memory (two_targets (unit_at 0 (MemoryDisk 8)) (unit_at 1 (MemoryTape 9 0)) (unit_at 0 (MemoryDisk 8))) ≡ true
kept_in_memory = refl

no_fault : fault_in in_files ≡ None
unfolding fault_in
no_fault = refl

-- one file in two targets comes twice
one_file_in_two_targets : fault_in (two_targets (unit_at 0 (FileDisk (codes "a"))) (unit_at 1 (MemoryDisk 8)) (unit_at 0 (FileDisk (codes "a")))) ≡ Some Twice
unfolding fault_in
one_file_in_two_targets = refl

-- the second target has LUN 2 only
no_lun_zero : fault_in (two_targets (unit_at 0 (MemoryDisk 8)) (unit_at 1 (MemoryDisk 8)) (unit_at 2 (MemoryDisk 8))) ≡ Some NoLunZero
unfolding fault_in
no_lun_zero = refl
