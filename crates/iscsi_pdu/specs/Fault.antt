-- The faults of this crate by number.
use Rattle.std.specs.Prelude.{ℕ}
use Rattle.iscsi_pdu.specs.declared.fault.PduFault.{PduFault}
use Rattle.iscsi_pdu.specs.declared.fault.PduFault.TheVariants as faults

-- profile: 1 TooLong, 2 Memory
abbrev pub fault_number : PduFault → ℕ
fault_number faults.TooLong = 1
fault_number faults.Memory = 2
