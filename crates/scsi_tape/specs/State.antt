-- A tape as a unit has it, and what it refuses while it is not ready.
use Rattle.std.specs.Prelude.{ℕ, Bool, true, Option, Some, None, if◌then◌else◌}
use Rattle.media_tape.specs.Tape.{TapeState}
use Rattle.scsi_sense.specs.declared.sense.Sense.{Sense}
use Rattle.scsi_cdb.specs.declared.operation.Need.{Need}
use Rattle.scsi_cdb.specs.declared.operation.Need.TheVariants.{Nothing, Working, Ready}
use Rattle.scsi_tape.specs.TapeSense.{not_present, target_failure}

-- the tape; own: whether no write of it has failed since it was opened. The length of its fixed blocks is in bytes, 0
-- if it has none (SSC-4 "Fixed-block transfers")
pub record TapeUnitState : Type 0 where
  pub tape : TapeState
  pub is_working : Bool
  pub block_length : ℕ

-- a tape that was just opened: no write of it has failed, and it has no fixed blocks (profile)
abbrev pub opened_unit : TapeState → TapeUnitState
opened_unit tape = record { tape = tape; is_working = true; block_length = 0 }

-- SPC-4 "TEST UNIT READY command": why it does not do an operation with this need. A failure is reported before a
-- medium that is not loaded (profile)
abbrev pub not_ready : Need → TapeUnitState → Option Sense
not_ready Nothing unit = None
not_ready Working unit = if unit.is_working then None else Some target_failure
not_ready Ready unit =
    if unit.is_working then (if unit.tape.is_loaded then None else Some not_present) else Some target_failure
