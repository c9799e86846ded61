-- The faults of opening a disk.
use Rattle.std.specs.Prelude.{ℕ}
use Rattle.media_store.specs.Failures.{risen}
use Rattle.media_block.specs.declared.fault.DiskOpenFault.{DiskOpenFault}
use Rattle.media_block.specs.declared.fault.DiskOpenFault.TheVariants.{Length, Device}

-- profile: their numbers
abbrev pub fault_number : DiskOpenFault → ℕ
fault_number Length = 1
fault_number Device = 2

-- own: the store's count of failures after a fault: `Device` is a failure of the store, and `Length` is not
abbrev pub failures_after : DiskOpenFault → ℕ → ℕ
failures_after Length count = count
failures_after Device count = risen count
