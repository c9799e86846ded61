-- The faults of a configuration by number.
use Rattle.std.specs.Prelude.{ℕ, Option, Some, None}
use Rattle.target_config.specs.declared.fault.ConfigFault.{ConfigFault}
use Rattle.target_config.specs.declared.fault.ConfigFault.TheVariants as faults

-- profile: a failed allocation has no number
abbrev pub number_of : ConfigFault → Option ℕ
number_of faults.Unreadable = Some 1
number_of faults.NotToml = Some 2
number_of faults.Field = Some 3
number_of faults.Limit = Some 4
number_of faults.Twice = Some 5
number_of faults.NoLunZero = Some 6
number_of faults.OutOfMemory = None
