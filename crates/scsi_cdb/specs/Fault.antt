-- The sense data for an operation code or a field that is refused.
use Rattle.scsi_sense.specs.Sense.{plain_sense}
use Rattle.scsi_sense.specs.declared.sense.Sense.{Sense}
use Rattle.scsi_sense.specs.declared.condition.Condition.TheVariants.{InvalidCommandOperationCode, InvalidFieldInCdb, SavingParametersNotSupported}
use Rattle.scsi_cdb.specs.declared.fault.FieldFault.{FieldFault}
use Rattle.scsi_cdb.specs.declared.fault.FieldFault.TheVariants.{InvalidField, SavingNotSupported}

-- 05/2000
abbrev pub invalid_operation_code : Sense
invalid_operation_code = plain_sense InvalidCommandOperationCode

-- 05/2400
abbrev pub invalid_field : Sense
invalid_field = plain_sense InvalidFieldInCdb

-- 05/3900
abbrev pub saving_not_supported : Sense
saving_not_supported = plain_sense SavingParametersNotSupported

abbrev pub field_sense : FieldFault → Sense
field_sense InvalidField = invalid_field
field_sense SavingNotSupported = saving_not_supported
