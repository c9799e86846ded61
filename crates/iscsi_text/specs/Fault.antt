-- The faults of this crate by number.
use Rattle.std.specs.Prelude.{ℕ}
use Rattle.iscsi_text.specs.declared.fault.TextFault.{TextFault}
use Rattle.iscsi_text.specs.declared.fault.TextFault.TheVariants as faults

-- profile
abbrev pub fault_number : TextFault → ℕ
fault_number faults.NoKey = 1
fault_number faults.LongKey = 2
fault_number faults.LongValue = 3
fault_number faults.NotTerminated = 4
fault_number faults.NotUtf8 = 5
fault_number faults.KeyTwice = 6
fault_number faults.TooLong = 7
fault_number faults.Memory = 8
