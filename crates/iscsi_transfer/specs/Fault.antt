-- The numbers of the faults.
use Rattle.std.specs.Prelude.{ℕ}
use Rattle.iscsi_transfer.specs.declared.fault.DataFault.{DataFault}
use Rattle.iscsi_transfer.specs.declared.fault.DataFault.TheVariants as faults

abbrev pub fault_number : DataFault → ℕ
fault_number faults.ImmediateData = 1
fault_number faults.UnsolicitedData = 2
fault_number faults.BufferOffset = 3
fault_number faults.DataSn = 4
fault_number faults.TooMuch = 5
fault_number faults.TransferTag = 6
fault_number faults.Final = 7
fault_number faults.Memory = 8
