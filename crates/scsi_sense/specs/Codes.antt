-- The numbers of conditions and statuses.
use Rattle.std.specs.Prelude.{ℕ}
use Rattle.scsi_sense.specs.declared.condition.Attention.{Attention}
use Rattle.scsi_sense.specs.declared.condition.Attention.TheVariants.{NotReadyToReadyChange, PowerOnOrReset, BusDeviceResetFunctionOccurred, ModeParametersChanged, ReservationsPreempted, ReservationsReleased, RegistrationsPreempted, CommandsClearedByAnotherInitiator}
use Rattle.scsi_sense.specs.declared.condition.Condition.{Condition}
use Rattle.scsi_sense.specs.declared.condition.Condition.TheVariants.{NoAdditionalSenseInformation, FilemarkDetected, EndOfMediumDetected, BeginningOfMediumDetected, MediumNotPresent, WriteError, UnrecoveredReadError, InternalTargetFailure, ParameterListLengthError, InvalidCommandOperationCode, LogicalBlockAddressOutOfRange, InvalidFieldInCdb, LogicalUnitNotSupported, InvalidFieldInParameterList, InvalidReleaseOfPersistentReservation, SavingParametersNotSupported, InsufficientRegistrationResources, UnitAttention, WriteProtected, EndOfDataDetected, VolumeOverflow, MiscompareDuringVerifyOperation}
use Rattle.scsi_sense.specs.declared.done.Status.{Status}
use Rattle.scsi_sense.specs.declared.done.Status.TheVariants.{Good, CheckCondition, ReservationConflict}

-- SPC-4 "Sense key and additional sense code definitions": the code in the high byte, its qualifier in the low one
abbrev pub attention_number : Attention → ℕ
attention_number NotReadyToReadyChange = 0x2800
attention_number PowerOnOrReset = 0x2900
attention_number BusDeviceResetFunctionOccurred = 0x2903
attention_number ModeParametersChanged = 0x2a01
attention_number ReservationsPreempted = 0x2a03
attention_number ReservationsReleased = 0x2a04
attention_number RegistrationsPreempted = 0x2a05
attention_number CommandsClearedByAnotherInitiator = 0x2f00

-- SPC-4 "Sense key and additional sense code definitions": the sense key, and the code with its qualifier
abbrev pub numbers_of : Condition → ℕ × ℕ
numbers_of NoAdditionalSenseInformation = (0x0, 0x0000)
numbers_of FilemarkDetected = (0x0, 0x0001)
numbers_of EndOfMediumDetected = (0x0, 0x0002)
numbers_of BeginningOfMediumDetected = (0x0, 0x0004)
numbers_of MediumNotPresent = (0x2, 0x3a00)
numbers_of WriteError = (0x3, 0x0c00)
numbers_of UnrecoveredReadError = (0x3, 0x1100)
numbers_of InternalTargetFailure = (0x4, 0x4400)
numbers_of ParameterListLengthError = (0x5, 0x1a00)
numbers_of InvalidCommandOperationCode = (0x5, 0x2000)
numbers_of LogicalBlockAddressOutOfRange = (0x5, 0x2100)
numbers_of InvalidFieldInCdb = (0x5, 0x2400)
numbers_of LogicalUnitNotSupported = (0x5, 0x2500)
numbers_of InvalidFieldInParameterList = (0x5, 0x2600)
numbers_of InvalidReleaseOfPersistentReservation = (0x5, 0x2604)
numbers_of SavingParametersNotSupported = (0x5, 0x3900)
numbers_of InsufficientRegistrationResources = (0x5, 0x5504)
numbers_of (UnitAttention attention) = (0x6, attention_number attention)
numbers_of WriteProtected = (0x7, 0x2700)
numbers_of EndOfDataDetected = (0x8, 0x0005)
numbers_of VolumeOverflow = (0xd, 0x0002)
numbers_of MiscompareDuringVerifyOperation = (0xe, 0x1d00)

abbrev pub key_of : Condition → ℕ
key_of condition = (numbers_of condition).0

abbrev pub code_of : Condition → ℕ
code_of condition = (numbers_of condition).1

-- SAM-5 "Status codes"
abbrev pub status_number : Status → ℕ
status_number Good = 0x00
status_number CheckCondition = 0x02
status_number ReservationConflict = 0x18
