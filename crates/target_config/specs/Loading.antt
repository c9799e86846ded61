-- What the system returned for the configuration file.
use Rattle.std.specs.Prelude.{◌≡◌, ℕ, List, [], ◌∷◌, Option, None, Some, Result, Ok, Err}
use Rattle.std.specs.declared.alloc.Global.{Global}
use Rattle.std.specs.declared.vec.Vec.{Vec}
use Rattle.call_record.specs.Noted.{Noted}
use Rattle.target_config.specs.declared.fault.ConfigFault.{ConfigFault}
use Rattle.target_config.specs.declared.fault.ConfigFault.TheVariants as faults

-- a note of a number and bytes
abbrev pub noted : ℕ → List ℕ → Noted
noted number bytes = record { numbers = number ∷ []; bytes = bytes; flags = [] }

-- the notes of a file: its path, and then its contents, or that it cannot be read
abbrev pub told_of : List ℕ → Option (List ℕ) → List Noted → List Noted
told_of path (Some contents) earlier = noted 1 contents ∷ noted 0 path ∷ earlier
told_of path None earlier = noted 2 [] ∷ noted 0 path ∷ earlier

-- the contents of the file at a path are those that were noted, or it cannot be read, or an allocation failed
abbrev pub Loads : List ℕ → List Noted → List Noted → Result (Vec ℕ Global) ConfigFault → Type 0
Loads path old new (Ok contents) = new ≡ told_of path (Some contents.items) old
Loads path old new (Err faults.Unreadable) = new ≡ told_of path None old
Loads path old new (Err faults.OutOfMemory) = Unit {0}
Loads path old new (Err faults.NotToml) = ⊥
Loads path old new (Err faults.Field) = ⊥
Loads path old new (Err faults.Limit) = ⊥
Loads path old new (Err faults.Twice) = ⊥
Loads path old new (Err faults.NoLunZero) = ⊥
