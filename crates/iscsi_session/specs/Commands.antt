-- What a SCSI Command does.
use Rattle.std.specs.Prelude.{ℕ, List, nat_lt, ◌&&◌, ◌||◌, if◌then◌else◌}
use Rattle.scsi_sense.specs.Sense.{plain_sense}
use Rattle.scsi_sense.specs.Done.{Outcome, check_condition}
use Rattle.scsi_sense.specs.Nexus.{NexusName}
use Rattle.scsi_sense.specs.declared.condition.Condition.TheVariants.{InvalidFieldInCdb}
use Rattle.iscsi_pdu.specs.Header.{additional_length, lun_field}
use Rattle.iscsi_pdu.specs.ScsiCommand.{is_read, is_write, cdb}
use Rattle.iscsi_pdu.specs.Frames.{Frame}
use Rattle.scsi_unit.specs.CameOut.{CameOut}
use Rattle.scsi_unit.specs.Units.{UnitStates, come_out}

-- The units after a command with all its data, by how it came out, and the outcome for its initiator. A command with an
-- additional header, or with both R and W, is answered 05/2400 instead of being done (own).
unfoldable pub carried_out : CameOut → UnitStates → NexusName → Frame → List ℕ → UnitStates × Outcome
carried_out came units nexus frame payload =
    if nat_lt 0 (additional_length frame.header) || is_read frame.header && is_write frame.header
    then (units, check_condition (plain_sense InvalidFieldInCdb))
    else come_out came units nexus (lun_field frame.header) (cdb frame.header) payload
