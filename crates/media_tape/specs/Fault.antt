-- The faults of opening a tape.
use Rattle.std.specs.Prelude.{◌≡◌, ℕ, true, ◌<◌, length, List}
use Rattle.media_store.specs.Failures.{risen}
use Rattle.media_tape.specs.Items.{torn_at, is_tape}
use Rattle.media_tape.specs.declared.fault.TapeOpenFault.{TapeOpenFault}
use Rattle.media_tape.specs.declared.fault.TapeOpenFault.TheVariants.{TornEnd, Device, TooLong, OutOfMemory}

-- profile: their numbers
abbrev pub fault_number : TapeOpenFault → ℕ
fault_number (TornEnd offset) = 1
fault_number Device = 2
fault_number TooLong = 3
fault_number OutOfMemory = 4

-- own: the store's count of failures after a fault: it rose only if the device failed
abbrev pub failures_after : TapeOpenFault → ℕ → ℕ
failures_after (TornEnd offset) count = count
failures_after Device count = risen count
failures_after TooLong count = count
failures_after OutOfMemory count = count

-- own: why a store with this content is not opened: its end is torn, or it is longer than the capacity. If it or an
-- allocation failed, the content is arbitrary
abbrev pub Explains : List ℕ → ℕ → TapeOpenFault → Type 0
Explains content capacity (TornEnd offset) = (offset ≡ torn_at content) × (offset < length content)
Explains content capacity Device = Unit {0}
Explains content capacity TooLong = (is_tape content ≡ true) × (capacity < length content)
Explains content capacity OutOfMemory = Unit {0}
