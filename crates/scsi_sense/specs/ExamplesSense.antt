-- Sense data, statuses and attentions, computed.
use Rattle.std.specs.Prelude.{◌≡◌, List, [], ◌∷◌, true, false, Some, None, refl}
use Rattle.scsi_sense.specs.Codes.{status_number}
use Rattle.scsi_sense.specs.Sense.{plain_sense, sense_bytes}
use Rattle.scsi_sense.specs.Attentions.{raised, first}
use Rattle.scsi_sense.specs.declared.condition.Attention.{Attention}
use Rattle.scsi_sense.specs.declared.condition.Condition.TheVariants.{FilemarkDetected, UnitAttention, VolumeOverflow, MiscompareDuringVerifyOperation}
use Rattle.scsi_sense.specs.declared.condition.Attention.TheVariants.{NotReadyToReadyChange, PowerOnOrReset, BusDeviceResetFunctionOccurred, ModeParametersChanged, ReservationsPreempted, ReservationsReleased, RegistrationsPreempted, CommandsClearedByAnotherInitiator}
use Rattle.scsi_sense.specs.declared.done.Status.TheVariants.{ReservationConflict}

-- power on: 06/2900
power_on : sense_bytes (plain_sense (UnitAttention PowerOnOrReset)) ≡ 0x70 ∷ 0 ∷ 0x06 ∷ 0 ∷ 0 ∷ 0 ∷ 0 ∷ 0x0a ∷ 0 ∷ 0 ∷ 0 ∷ 0 ∷ 0x29 ∷ 0x00 ∷ 0 ∷ 0 ∷ 0 ∷ 0 ∷ []
power_on = refl

-- a filemark that stops a read of 8 bytes
filemark_read : sense_bytes (record {
  condition = FilemarkDetected;
  filemark = true;
  end_of_medium = false;
  incorrect_length = false;
  information = Some 8;
}) ≡ 0xf0 ∷ 0 ∷ 0x80 ∷ 0 ∷ 0 ∷ 0 ∷ 8 ∷ 0x0a ∷ 0 ∷ 0 ∷ 0 ∷ 0 ∷ 0x00 ∷ 0x01 ∷ 0 ∷ 0 ∷ 0 ∷ 0 ∷ []
filemark_read = refl

-- COMPARE AND WRITE found a difference at byte 511
difference_found : sense_bytes (record {
  condition = MiscompareDuringVerifyOperation;
  filemark = false;
  end_of_medium = false;
  incorrect_length = false;
  information = Some 511;
}) ≡ 0xf0 ∷ 0 ∷ 0x0e ∷ 0 ∷ 0 ∷ 0x01 ∷ 0xff ∷ 0x0a ∷ 0 ∷ 0 ∷ 0 ∷ 0 ∷ 0x1d ∷ 0x00 ∷ 0 ∷ 0 ∷ 0 ∷ 0 ∷ []
difference_found = refl

-- the end of the medium, and a length that differs from the length requested: EOM 40h, ILI 20h
flags_read : sense_bytes (record {
  condition = FilemarkDetected;
  filemark = false;
  end_of_medium = true;
  incorrect_length = true;
  information = None;
}) ≡ 0x70 ∷ 0 ∷ 0x60 ∷ 0 ∷ 0 ∷ 0 ∷ 0 ∷ 0x0a ∷ 0 ∷ 0 ∷ 0 ∷ 0 ∷ 0x00 ∷ 0x01 ∷ 0 ∷ 0 ∷ 0 ∷ 0 ∷ []
flags_read = refl

-- a tape with no room, 0D/0002 with EOM, of which 20 bytes were not written
no_room : sense_bytes (record {
  condition = VolumeOverflow;
  filemark = false;
  end_of_medium = true;
  incorrect_length = false;
  information = Some 20;
}) ≡ 0xf0 ∷ 0 ∷ 0x4d ∷ 0 ∷ 0 ∷ 0 ∷ 20 ∷ 0x0a ∷ 0 ∷ 0 ∷ 0 ∷ 0 ∷ 0x00 ∷ 0x02 ∷ 0 ∷ 0 ∷ 0 ∷ 0 ∷ []
no_room = refl

conflict_number : status_number ReservationConflict ≡ 0x18
conflict_number = refl

-- a condition that is pending already is not added, and does not move
raised_twice : raised PowerOnOrReset (PowerOnOrReset ∷ ModeParametersChanged ∷ []) ≡ PowerOnOrReset ∷ ModeParametersChanged ∷ []
raised_twice = refl

raised_behind : raised ModeParametersChanged (PowerOnOrReset ∷ []) ≡ PowerOnOrReset ∷ ModeParametersChanged ∷ []
raised_behind = refl

abbrev eight : List Attention
eight =
    PowerOnOrReset ∷ BusDeviceResetFunctionOccurred ∷ ModeParametersChanged ∷ ReservationsPreempted
    ∷ ReservationsReleased ∷ RegistrationsPreempted ∷ NotReadyToReadyChange ∷ CommandsClearedByAnotherInitiator ∷ []

-- each of the eight has its place, and none comes twice
all_raised : raised CommandsClearedByAnotherInitiator eight ≡ eight
all_raised = refl

oldest : (first eight ≡ Some PowerOnOrReset) × (first [] ≡ None)
oldest = (refl, refl)
