-- The registrations and the reservation of a logical unit.
use Rattle.std.specs.Prelude.{ℕ, ◌+◌, ◌%◌, ◌^◌, List, [], Bool, Option, None}
use Rattle.scsi_sense.specs.Nexus.{NexusName}
use Rattle.scsi_cdb.specs.declared.operation.ReservationClass.{ReservationClass}
use Rattle.scsi_conflict.specs.Allowed.{is_allowed_by}
use Rattle.scsi_conflict.specs.declared.registration.Row.{Row}
use Rattle.scsi_conflict.specs.declared.registration.Reservation.{Reservation}

-- the registrations, in the order of registering; the reservation, if there is one; PRGENERATION
pub record TableState : Type 0 where
  pub rows : List Row
  pub reservation : Option Reservation
  pub generation : ℕ

-- own: a table when its unit is made
abbrev pub empty_table : TableState
empty_table = record { rows = []; reservation = None; generation = 0 }

-- profile: the most registrations
abbrev pub most_rows : ℕ
most_rows = 64

-- SPC-4 "PERSISTENT RESERVE IN command": PRGENERATION has 32 bits
abbrev pub risen : ℕ → ℕ
risen generation = (generation + 1) % 2 ^ 32

-- SPC-4 "PERSISTENT RESERVE IN command": PRGENERATION counts the changes of registrations
abbrev pub with_rows : List Row → TableState → TableState
with_rows rows table = record table { rows = rows; generation = risen table.generation }

-- whether a nexus may send a command of a class; otherwise it is a RESERVATION CONFLICT
abbrev pub is_allowed : NexusName → ReservationClass → TableState → Bool
is_allowed nexus class table = is_allowed_by table.reservation table.rows nexus class
