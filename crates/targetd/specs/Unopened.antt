-- Why a run ends if units are not opened: the file of one is refused.
use Rattle.std.specs.Prelude.{List, string_bytes}
use Rattle.target_config.specs.Configuration.{TargetEntry}
use Rattle.target_units.specs.Opened.{Held}
use Rattle.target_units.specs.Refusal.{Refusal}
use Rattle.target_units.specs.Unopened.{IsRefusedAt}
use Rattle.target_units.specs.declared.cause.DeviceCause.{DeviceCause}
use Rattle.target_serving.specs.declared.fault.Fault.{Fault}
use Rattle.target_serving.specs.declared.fault.Fault.TheVariants as faults

-- one of the units is refused, whatever the cause, or an allocation failed
abbrev pub IsUnopened : Held → List TargetEntry → Refusal → Fault → Type 0
IsUnopened held targets refused (faults.Device name lun) = (cause : DeviceCause) × IsRefusedAt held targets (string_bytes name) lun refused cause
IsUnopened held targets refused faults.OutOfMemory = Unit {0}
IsUnopened held targets refused (faults.Configuration number) = ⊥
IsUnopened held targets refused faults.Usage = ⊥
IsUnopened held targets refused (faults.Refused line) = ⊥
IsUnopened held targets refused faults.Socket = ⊥
IsUnopened held targets refused faults.Input = ⊥
IsUnopened held targets refused faults.Output = ⊥
IsUnopened held targets refused faults.Streams = ⊥
