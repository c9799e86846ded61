-- What PERSISTENT RESERVE IN and PERSISTENT RESERVE OUT do to a unit.
use Rattle.std.specs.Prelude.{ℕ, List, take}
use Rattle.scsi_sense.specs.Sense.{plain_sense}
use Rattle.scsi_sense.specs.Done.{Outcome, good_with, good_taking, check_condition, reservation_conflict}
use Rattle.scsi_sense.specs.Nexus.{NexusName}
use Rattle.scsi_cdb.specs.declared.persistent_reserve.ReserveInFields.{ReserveInFields}
use Rattle.scsi_cdb.specs.declared.persistent_reserve.ReserveOutFields.{ReserveOutFields}
use Rattle.scsi_reserve.specs.Ending.{Ending}
use Rattle.scsi_reserve.specs.Table.{TableState}
use Rattle.scsi_reserve.specs.Out.{out_of}
use Rattle.scsi_reserve.specs.ReadIn.{data_of}
use Rattle.scsi_reserve.specs.declared.outcome.Ended.{Ended}
use Rattle.scsi_reserve.specs.declared.outcome.Ended.TheVariants.{Good, ReservationConflict, CheckCondition}
use Rattle.scsi_unit.specs.Joined.{raised_due}
use Rattle.scsi_unit.specs.State.{UnitState}

-- SPC-4 "PERSISTENT RESERVE IN command": what it returns of a table
unfoldable pub reserve_in_outcome : ReserveInFields → TableState → Outcome
reserve_in_outcome fields table = good_with (take fields.allocation_length (data_of fields.action table))

-- the outcome of PERSISTENT RESERVE OUT by how it ended; with GOOD it took its parameter list
abbrev pub ended_outcome : ℕ → Ended → Outcome
ended_outcome list_length Good = good_taking list_length
ended_outcome list_length ReservationConflict = reservation_conflict
ended_outcome list_length (CheckCondition condition) = check_condition (plain_sense condition)

-- the unit with this table, with the attentions that its change establishes
abbrev pub reserved_as : ℕ → UnitState → TableState × Ending → UnitState × Outcome
reserved_as list_length unit p = (
  record unit { reservations = p.0; joined = raised_due p.1.due unit.joined },
  ended_outcome list_length p.1.ended,
)

-- SPC-4 "PERSISTENT RESERVE OUT command", with this data, which begins with the parameter list
unfoldable pub reserved_out : NexusName → List ℕ → UnitState → ReserveOutFields → UnitState × Outcome
reserved_out nexus bytes unit fields =
    reserved_as fields.list_length unit
    (out_of fields.action fields.scope fields.code (take fields.list_length bytes) nexus unit.reservations)
