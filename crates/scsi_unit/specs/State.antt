-- A logical unit, as it stands.
use Rattle.std.specs.Prelude.{ℕ, List}
use Rattle.scsi_reserve.specs.Table.{TableState}
use Rattle.scsi_unit.specs.Device.{DeviceState}
use Rattle.scsi_unit.specs.declared.joined.Joined.{Joined}

-- a unit: its number, its serial number, its device, its registrations and its reservation (SPC-4 "Persistent
-- reservations"). Each nexus that is joined has the unit attentions pending for it, in order (SAM-5 "Unit attention
-- condition")
pub record UnitState : Type 0 where
  pub lun : ℕ
  pub serial : List ℕ
  pub device : DeviceState
  pub reservations : TableState
  pub joined : List Joined
