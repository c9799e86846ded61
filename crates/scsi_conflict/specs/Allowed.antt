-- What a reservation allows a nexus.
use Rattle.std.specs.Prelude.{List, Bool, true, not, Option, Some, None}
use Rattle.scsi_sense.specs.Nexus.{NexusName}
use Rattle.scsi_cdb.specs.declared.operation.ReservationClass.{ReservationClass}
use Rattle.scsi_conflict.specs.Conflict.{conflict}
use Rattle.scsi_conflict.specs.Registration.{who_of}
use Rattle.scsi_conflict.specs.declared.registration.Row.{Row}
use Rattle.scsi_conflict.specs.declared.registration.Reservation.{Reservation}

-- whether a reservation, if there is one, allows a nexus a class of commands
abbrev pub is_allowed_by : Option Reservation → List Row → NexusName → ReservationClass → Bool
is_allowed_by None rows nexus class = true
is_allowed_by (Some reservation) rows nexus class = not (conflict reservation.kind (who_of nexus rows reservation) class)
