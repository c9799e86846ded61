-- Fields that are accepted, or refused.
use Rattle.std.specs.Prelude.{Bool, if◌then◌else◌, Result, Ok, Err}
use Rattle.scsi_cdb.specs.declared.fault.FieldFault.{FieldFault}
use Rattle.scsi_cdb.specs.declared.fault.FieldFault.TheVariants.{InvalidField}

-- a command if its fields are accepted
abbrev pub command_if : {C : Type 0} → Bool → C → Result C FieldFault
command_if is_taken command = if is_taken then Ok command else Err InvalidField
