-- The faults of this crate by number.
use Rattle.std.specs.Prelude.{ℕ}
use Rattle.iscsi_serve.specs.declared.fault.ServeFault.{ServeFault}
use Rattle.iscsi_serve.specs.declared.fault.ServeFault.TheVariants as faults

-- profile: 1 the poll, 2 the accept
abbrev pub fault_number : ServeFault → ℕ
fault_number faults.Poll = 1
fault_number faults.Accept = 2
