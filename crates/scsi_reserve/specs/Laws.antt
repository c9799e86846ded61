-- Laws of persistent reservations.
use Rattle.std.specs.Prelude.{◌≡◌, ℕ, List, [], ◌∷◌, ◌==◌, true, false, Some, None}
use Rattle.scsi_sense.specs.Nexus.{NexusName, same_nexus}
use Rattle.scsi_cdb.specs.declared.operation.ReservationClass.{ReservationClass}
use Rattle.scsi_cdb.specs.declared.operation.ReservationClass.TheVariants.{Writing}
use Rattle.scsi_conflict.specs.Registration.{own_key, is_held_by, is_held_with}
use Rattle.scsi_reserve.specs.Table.{TableState, is_allowed}
use Rattle.scsi_reserve.specs.Out.{preempted, out_of}
use Rattle.scsi_conflict.specs.declared.registration.Row.{Row}
use Rattle.scsi_conflict.specs.declared.registration.Reservation.{Reservation}
use Rattle.scsi_conflict.specs.declared.reservation_type.ReservationType.{ReservationType}
use Rattle.scsi_cdb.specs.declared.persistent_reserve.ServiceAction.{ServiceAction}

-- SPC-4 "Registering": a nexus is registered at most once
abbrev pub AreOnce : List Row → Type 0
AreOnce [] = Unit {0}
AreOnce (row ∷ rows) = (own_key row.nexus rows ≡ None) × AreOnce rows

-- it stays so, whatever is requested
abbrev pub OnceStays : Type 0
OnceStays = (action : ServiceAction) (scope code : ℕ) (list : List ℕ) (nexus : NexusName) (table : TableState)
    → AreOnce table.rows → AreOnce (out_of action scope code list nexus table).0.rows

-- SPC-4 "Persistent reservation holder": a holder is refused nothing
abbrev pub HolderMayAll : Type 0
HolderMayAll = (nexus : NexusName) (class : ReservationClass) (table : TableState) (reservation : Reservation)
    → table.reservation ≡ Some reservation → is_held_by nexus table.rows reservation ≡ true
    → is_allowed nexus class table ≡ true

-- SPC-4 "Preempting": if another nexus preempts with the key of the one that alone holds a reservation, that one can no
-- longer write. This holds for any type of the new reservation
abbrev pub HolderIsFenced : Type 0
HolderIsFenced = (kind : ReservationType) (key : ℕ) (nexus : NexusName) (table : TableState) (reservation : Reservation)
    → table.reservation ≡ Some reservation → AreOnce table.rows
    → is_held_with key table.rows reservation ≡ true → (key == 0) ≡ false → same_nexus reservation.holder nexus ≡ false
    → is_allowed reservation.holder Writing (preempted (Some kind) key nexus table).0 ≡ false
