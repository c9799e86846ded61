-- The registrations of a logical unit, and the holder of its reservation.
use Rattle.std.specs.Prelude.{ℕ, List, [], ◌∷◌, filter, Bool, false, not, ◌==◌, ◌&&◌, Option, Some, None, is_some, if◌then◌else◌}
use Rattle.std.specs.List.{list_any}
use Rattle.scsi_sense.specs.Nexus.{NexusName, same_nexus}
use Rattle.scsi_conflict.specs.ReservationType.{is_of_all}
use Rattle.scsi_conflict.specs.declared.conflict.Who.{Who}
use Rattle.scsi_conflict.specs.declared.conflict.Who.TheVariants.{Holder, Registrant, Neither}
use Rattle.scsi_conflict.specs.declared.registration.Row.{Row}
use Rattle.scsi_conflict.specs.declared.registration.Reservation.{Reservation}

-- SPC-4 "Registering": the key that a nexus is registered with, if it is registered
abbrev pub own_key : NexusName → List Row → Option ℕ
own_key nexus [] = None
own_key nexus (row ∷ rows) = if same_nexus row.nexus nexus then Some row.key else own_key nexus rows

-- a nexus is registered, and with this key
abbrev pub is_key : ℕ → Option ℕ → Bool
is_key key None = false
is_key key (Some own) = own == key

-- whether any nexus is registered with a key
abbrev pub has_key : ℕ → List Row → Bool
has_key key rows = list_any (λ row. row.key == key) rows

-- a registration, with another key if it is that of the nexus
abbrev pub with_key : NexusName → ℕ → Row → Row
with_key nexus key row = if same_nexus row.nexus nexus then record row { key = key } else row

-- registrations without that of the nexus
abbrev pub without_nexus : NexusName → List Row → List Row
without_nexus nexus rows = filter (λ row. not (same_nexus row.nexus nexus)) rows

-- SPC-4 "Persistent reservation holder": every registered nexus, or the one that made the reservation, by its type
abbrev pub is_held_by : NexusName → List Row → Reservation → Bool
is_held_by nexus rows reservation =
    if is_of_all reservation.kind then is_some (own_key nexus rows) else same_nexus reservation.holder nexus

-- the relation of a nexus to a reservation
abbrev pub who_of : NexusName → List Row → Reservation → Who
who_of nexus rows reservation =
    if is_held_by nexus rows reservation then Holder
    else if is_some (own_key nexus rows) then Registrant else Neither

-- SPC-4 "Unregistering": a reservation that one nexus holds ends with its registration
abbrev pub ends_with : NexusName → Reservation → Bool
ends_with nexus reservation = not (is_of_all reservation.kind) && same_nexus reservation.holder nexus

-- whether one nexus alone holds it, and is registered with this key
abbrev pub is_held_with : ℕ → List Row → Reservation → Bool
is_held_with key rows reservation = not (is_of_all reservation.kind) && is_key key (own_key reservation.holder rows)
