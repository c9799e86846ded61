-- The sense data of a tape (SSC-4 "Sense data").
use Rattle.std.specs.Prelude.{ℕ, true, Some}
use Rattle.scsi_sense.specs.Sense.{plain_sense}
use Rattle.scsi_sense.specs.declared.sense.Sense.{Sense}
use Rattle.scsi_sense.specs.declared.condition.Condition.TheVariants.{NoAdditionalSenseInformation, FilemarkDetected, EndOfMediumDetected}
use Rattle.scsi_sense.specs.declared.condition.Condition.TheVariants.{BeginningOfMediumDetected, EndOfDataDetected, VolumeOverflow, MediumNotPresent}
use Rattle.scsi_sense.specs.declared.condition.Condition.TheVariants.{InternalTargetFailure, UnrecoveredReadError, WriteError}

-- 00/0001 with FILEMARK: a filemark was read or spaced over, with what was left to do
abbrev pub filemark : ℕ → Sense
filemark left = record (plain_sense FilemarkDetected) { filemark = true; information = Some left }

-- 08/0005: nothing comes after the position, with what was left to do
abbrev pub end_of_data : ℕ → Sense
end_of_data left = record (plain_sense EndOfDataDetected) { information = Some left }

-- 00/0004 with EOM: nothing comes before the position, with what was left to do
abbrev pub beginning : ℕ → Sense
beginning left = record (plain_sense BeginningOfMediumDetected) { end_of_medium = true; information = Some left }

-- 00/0002 with EOM: everything was written, past the early warning mark
abbrev pub early_warning : Sense
early_warning = record (plain_sense EndOfMediumDetected) { end_of_medium = true; information = Some 0 }

-- 0D/0002 with EOM: this amount was not written
abbrev pub overflow : ℕ → Sense
overflow count = record (plain_sense VolumeOverflow) { end_of_medium = true; information = Some count }

-- 00/0000 with ILI: a record's length differs from the length requested by this difference
abbrev pub incorrect_length : ℕ → Sense
incorrect_length difference = record (plain_sense NoAdditionalSenseInformation) { incorrect_length = true; information = Some difference }

-- 08/0005, with nothing left to do
abbrev pub no_such_object : Sense
no_such_object = plain_sense EndOfDataDetected

-- 02/3A00
abbrev pub not_present : Sense
not_present = plain_sense MediumNotPresent

-- 04/4400
abbrev pub target_failure : Sense
target_failure = plain_sense InternalTargetFailure

-- 03/1100
abbrev pub unrecovered_read : Sense
unrecovered_read = plain_sense UnrecoveredReadError

-- 03/0C00
abbrev pub write_error : Sense
write_error = plain_sense WriteError
