-- What a configuration document contains: each field that is needed is there, of its type, and in its range.
use Rattle.std.specs.Prelude.{◌≡◌, ℕ, ℤ, pos, negsuc, List, [], ◌∷◌, length, Bool, not, ◌&&◌, ◌==◌, nat_le, codes, Option, Some, None, is_some, option_and_then, Result, Ok, Err, if◌then◌else◌, bytes_eq}
use Rattle.std.specs.List.{list_any}
use Rattle.toml.specs.Data.{Data, Items, no_items, item, Members, as_str, as_integer, as_array, as_table, get_member}
use Rattle.target_config.specs.declared.fault.ConfigFault.{ConfigFault}
use Rattle.target_config.specs.declared.fault.ConfigFault.TheVariants as faults
use Rattle.target_config.specs.Configuration.{MediumEntry, MemoryDisk, FileDisk, MemoryTape, FileTape, UnitEntry, TargetEntry, Document}

-- the second step, if the first returned a value
infixl 10 ◌>>=◌
abbrev pub ◌>>=◌ : {A B : Type 0} → Option A → (A → Option B) → Option B
None >>= f = None
(Some x) >>= f = f x

-- ---- one field of a table

abbrev pub has_member : List ℕ → Members → Bool
has_member key table = is_some (get_member key table)

abbrev pub text_at : Members → List ℕ → Option (List ℕ)
text_at table key = option_and_then as_str (get_member key table)

abbrev pub integer_at : Members → List ℕ → Option ℤ
integer_at table key = option_and_then as_integer (get_member key table)

abbrev pub items_at : Members → List ℕ → Option Items
items_at table key = option_and_then as_array (get_member key table)

abbrev pub within : ℕ → ℕ → ℤ → Option ℕ
within least most (pos n) = if nat_le least n && nat_le n most then Some n else None
within least most (negsuc n) = None

-- a number from `least` to `most`
unfoldable pub number_at : Members → List ℕ → ℕ → ℕ → Option ℕ
number_at table key least most = option_and_then (within least most) (integer_at table key)

-- not empty, and without a zero byte
abbrev pub is_name : List ℕ → Bool
is_name text = not (length text == 0) && not (list_any (λ byte. byte == 0) text)

abbrev pub named : List ℕ → Option (List ℕ)
named text = if is_name text then Some text else None

unfoldable pub name_at : Members → List ℕ → Option (List ℕ)
name_at table key = option_and_then named (text_at table key)

-- the value for each item, if all items have one
abbrev pub each : {Y : Type 0} → (Data → Option Y) → Items → Option (List Y)
each f no_items = Some []
each f (item value values) = do
  y ← f value
  ys ← each f values
  Some (y ∷ ys)

-- ---- a unit

-- profile: 1 to 1048576 blocks
unfoldable pub memory_disk_of : Members → Option MediumEntry
memory_disk_of table = do
  blocks ← number_at table (codes "blocks") 1 1048576
  Some (MemoryDisk blocks)

-- profile: a disk in a file has as many blocks as the file
unfoldable pub file_disk_of : Members → Option MediumEntry
file_disk_of table = do
  path ← text_at table (codes "file")
  Some (FileDisk path)

abbrev pub disk_of : Members → Option MediumEntry
disk_of table = if has_member (codes "file") table then file_disk_of table else memory_disk_of table

-- profile: 1 to 34359738360 bytes, so that the numbers of a tape's items fit in 4 bytes
unfoldable pub memory_tape_of : Members → Option MediumEntry
memory_tape_of table = do
  capacity ← number_at table (codes "capacity") 1 34359738360
  early ← number_at table (codes "early") 0 capacity
  Some (MemoryTape capacity early)

unfoldable pub file_tape_of : Members → Option MediumEntry
file_tape_of table = do
  path ← text_at table (codes "file")
  capacity ← number_at table (codes "capacity") 1 34359738360
  early ← number_at table (codes "early") 0 capacity
  Some (FileTape path capacity early)

abbrev pub tape_of : Members → Option MediumEntry
tape_of table = if has_member (codes "file") table then file_tape_of table else memory_tape_of table

abbrev pub medium_named : Members → List ℕ → Option MediumEntry
medium_named table kind = if bytes_eq kind (codes "disk") then disk_of table else if bytes_eq kind (codes "tape") then tape_of table else None

unfoldable pub medium_of : Members → Option MediumEntry
medium_of table = option_and_then (medium_named table) (text_at table (codes "kind"))

unfoldable pub unit_of : Data → Option UnitEntry
unit_of value = do
  table ← as_table value
  lun ← integer_at table (codes "lun")
  serial ← text_at table (codes "serial")
  medium ← medium_of table
  Some (record { lun = lun; serial = serial; medium = medium })

-- ---- a target, and the document

unfoldable pub target_of : Data → Option TargetEntry
target_of value = do
  table ← as_table value
  name ← name_at table (codes "name")
  values ← items_at table (codes "unit")
  units ← each unit_of values
  Some (record { name = name; units = units })

-- profile: a text is the destination of the log, and any other value is ignored
abbrev pub log_in : Members → Option (List ℕ)
log_in table = text_at table (codes "log")

unfoldable pub document_of : Members → Option Document
document_of table = do
  listen ← name_at table (codes "listen")
  values ← items_at table (codes "target")
  targets ← each target_of values
  Some (record { listen = listen; log = log_in table; targets = targets })

-- ---- what a step of the code returns

-- why a step of the code returned no value: reading returns none, or an allocation failed
abbrev pub Refuses : {Y : Type 0} → ConfigFault → Option Y → Type 0
Refuses faults.Field read = read ≡ None
Refuses faults.OutOfMemory read = Unit {0}
Refuses _ read = ⊥

-- what a step of the code returned, seen by `view`, is what reading returns, unless an allocation failed
abbrev pub Gives : {X Y : Type 0} → (X → Y) → Result X ConfigFault → Option Y → Type 0
Gives view (Ok x) read = read ≡ Some (view x)
Gives view (Err fault) read = Refuses fault read
