-- What PERSISTENT RESERVE OUT does to a table, and its outcome.
use Rattle.std.specs.Prelude.{ℕ, List, [], ◌∷◌, ◌++◌, length, map, Bool, false, not, ◌==◌, ◌&&◌, ◌||◌, nat_lt, Option, Some, None, is_some, Result}
use Rattle.std.specs.Prelude.{Ok, Err, if◌then◌else◌}
use Rattle.scsi_sense.specs.Nexus.{NexusName}
use Rattle.scsi_sense.specs.declared.condition.Attention.{Attention}
use Rattle.scsi_sense.specs.declared.condition.Attention.TheVariants.{ReservationsPreempted, ReservationsReleased, RegistrationsPreempted}
use Rattle.scsi_sense.specs.declared.condition.Condition.{Condition}
use Rattle.scsi_sense.specs.declared.condition.Condition.TheVariants.{InvalidFieldInCdb, InvalidFieldInParameterList}
use Rattle.scsi_sense.specs.declared.condition.Condition.TheVariants.{InvalidReleaseOfPersistentReservation, InsufficientRegistrationResources}
use Rattle.scsi_conflict.specs.ReservationType.{type_of, is_same_type, is_of_all, is_of_registrants}
use Rattle.scsi_conflict.specs.Registration.{own_key, has_key, with_key, without_nexus, is_held_by, ends_with, is_held_with}
use Rattle.scsi_reserve.specs.Request.{request_of, list_of, may_ask}
use Rattle.scsi_reserve.specs.Ending.{Ending, good_telling, ended_with}
use Rattle.scsi_reserve.specs.News.{without, due_of, to_all}
use Rattle.scsi_reserve.specs.Table.{TableState, most_rows, with_rows}
use Rattle.scsi_reserve.specs.declared.outcome.Ended.{Ended}
use Rattle.scsi_reserve.specs.declared.outcome.Ended.TheVariants.{Good, ReservationConflict, CheckCondition}
use Rattle.scsi_reserve.specs.declared.outcome.Due.{Due}
use Rattle.scsi_reserve.specs.declared.news.Others.{Others}
use Rattle.scsi_reserve.specs.declared.news.Others.TheVariants.{All, WithKey}
use Rattle.scsi_reserve.specs.declared.news.News.{News}
use Rattle.scsi_conflict.specs.declared.registration.Row.{Row}
use Rattle.scsi_conflict.specs.declared.registration.Reservation.{Reservation}
use Rattle.scsi_conflict.specs.declared.reservation_type.ReservationType.{ReservationType}
use Rattle.scsi_cdb.specs.declared.persistent_reserve.ServiceAction.{ServiceAction}
use Rattle.scsi_reserve.specs.declared.request.Request.{Request}
use Rattle.scsi_reserve.specs.declared.request.Request.TheVariants.{Register, Reserve, Release, Clear, Preempt, RegisterAndIgnoreExistingKey}
use Rattle.scsi_reserve.specs.declared.parameter_list.ParameterList.{ParameterList}

-- nothing changes, and this is the outcome
abbrev pub ends : Ended → TableState → TableState × Ending
ends ended table = (table, ended_with ended)

-- ---- REGISTER, REGISTER AND IGNORE EXISTING KEY

-- SPC-4 "Registering": the nexus is registered with this key, after the others or in its old place; a 65th is refused
unfoldable pub registered : ℕ → NexusName → TableState → TableState × Ending
registered key nexus table =
    if is_some (own_key nexus table.rows)
    then (with_rows (map (with_key nexus key) table.rows) table, ended_with Good)
    else if nat_lt (length table.rows) most_rows
    then (with_rows (table.rows ++ record { nexus = nexus; key = key } ∷ []) table, ended_with Good)
    else ends (CheckCondition InsufficientRegistrationResources) table

-- SPC-4 "Unregistering": the reservation, if these registrations are left. It ends if the nexus alone held it, or if no
-- registrant is left
abbrev pub reservation_left : NexusName → List Row → Option Reservation → Option Reservation
reservation_left nexus left None = None
reservation_left nexus left (Some reservation) =
    if ends_with nexus reservation || length left == 0 then None else Some reservation

-- SPC-4 "Unregistering": if it alone held a reservation of registrants, the others get the attention that it is
-- released
abbrev pub unregistering_due : NexusName → List Row → Option Reservation → List Due
unregistering_due nexus rows None = []
unregistering_due nexus rows (Some reservation) =
    if ends_with nexus reservation && is_of_registrants reservation.kind
    then due_of (to_all ReservationsReleased) nexus rows else []

-- SPC-4 "Unregistering": the nexus is no longer registered
unfoldable pub unregistered : NexusName → TableState → TableState × Ending
unregistered nexus table =
    let left = without_nexus nexus table.rows in (
      record (with_rows left table) { reservation = reservation_left nexus left table.reservation },
      good_telling (unregistering_due nexus table.rows table.reservation),
    )

-- ---- RESERVE, RELEASE, CLEAR

-- beside the existing reservation, if there is one
abbrev pub reserved_beside : Option Reservation → ReservationType → NexusName → TableState → TableState × Ending
reserved_beside None kind nexus table =
    (record table { reservation = Some (record { kind = kind; holder = nexus }) }, ended_with Good)
reserved_beside (Some reservation) kind nexus table =
    if is_held_by nexus table.rows reservation && is_same_type reservation.kind kind
    then ends Good table else ends ReservationConflict table

-- SPC-4 "Reserving": a reservation is made; beside another one only the same, by its holder
unfoldable pub reserved : ReservationType → NexusName → TableState → TableState × Ending
reserved kind nexus table = reserved_beside table.reservation kind nexus table

-- of the existing reservation, if there is one
abbrev pub released_from : Option Reservation → ReservationType → NexusName → TableState → TableState × Ending
released_from None kind nexus table = ends Good table
released_from (Some reservation) kind nexus table =
    if not (is_held_by nexus table.rows reservation) then ends Good table
    else if not (is_same_type reservation.kind kind) then ends (CheckCondition InvalidReleaseOfPersistentReservation) table
    else (
      record table { reservation = None },
      good_telling (if is_of_registrants kind then due_of (to_all ReservationsReleased) nexus table.rows else []),
    )

-- SPC-4 "Releasing": its holder ends a reservation of the same type; under 5h to 8h the other registrants get an
-- attention
unfoldable pub released : ReservationType → NexusName → TableState → TableState × Ending
released kind nexus table = released_from table.reservation kind nexus table

-- SPC-4 "Clearing": all registrations and the reservation end; the other registrants get an attention
unfoldable pub cleared : NexusName → TableState → TableState × Ending
cleared nexus table = (
  record (with_rows [] table) { reservation = None },
  good_telling (due_of (to_all ReservationsPreempted) nexus table.rows),
)

-- ---- PREEMPT

-- SPC-4 "Preempting persistent reservations and registration handling": the attention for those that stay registered:
-- the reservation is released, if the new one has another type
abbrev pub rest_told : Option Reservation → ReservationType → Option Attention
rest_told None kind = None
rest_told (Some reservation) kind = if is_same_type reservation.kind kind then None else Some ReservationsReleased

-- SPC-4 "Preempting persistent reservations and registration handling": these others are no longer registered, and get
-- an attention. A reservation of the caller replaces the old one
unfoldable pub taken_over : Option ReservationType → Others → NexusName → TableState → TableState × Ending
taken_over None others nexus table = ends (CheckCondition InvalidFieldInCdb) table
taken_over (Some kind) others nexus table =
    let news : News = record { others = others; told = RegistrationsPreempted; rest = rest_told table.reservation kind } in (
      record (with_rows (without others nexus table.rows) table) { reservation = Some (record { kind = kind; holder = nexus }) },
      good_telling (due_of news nexus table.rows),
    )

-- SPC-4 "Removing registrations": these others are no longer registered, and get an attention
unfoldable pub removed : Others → NexusName → TableState → TableState × Ending
removed others nexus table =
    let news : News = record { others = others; told = RegistrationsPreempted; rest = None } in (
      with_rows (without others nexus table.rows) table,
      good_telling (due_of news nexus table.rows),
    )

-- whether there is a reservation that all registrants hold
abbrev pub is_held_by_all : Option Reservation → Bool
is_held_by_all None = false
is_held_by_all (Some reservation) = is_of_all reservation.kind

-- whether one nexus alone holds it, and is registered with this key
abbrev pub is_held_by_one : ℕ → List Row → Option Reservation → Bool
is_held_by_one key rows None = false
is_held_by_one key rows (Some reservation) = is_held_with key rows reservation

-- SPC-4 "Preempting": key 0 preempts the reservation that all registrants hold, and its holder's key that of one nexus.
-- Any other key removes registrations alone, of which there must be one
unfoldable pub preempted : Option ReservationType → ℕ → NexusName → TableState → TableState × Ending
preempted kind key nexus table =
    if key == 0 then if is_held_by_all table.reservation then taken_over kind All nexus table
    else ends (CheckCondition InvalidFieldInParameterList) table
    else if is_held_by_one key table.rows table.reservation then taken_over kind (WithKey key) nexus table
    else if has_key key table.rows then removed (WithKey key) nexus table
    else ends ReservationConflict table

-- ---- the command

-- a service action that the nexus may request, with its service action reservation key
abbrev pub acted : Request → ℕ → NexusName → TableState → TableState × Ending
acted Register key nexus table = if key == 0 then unregistered nexus table else registered key nexus table
acted RegisterAndIgnoreExistingKey key nexus table = if key == 0 then unregistered nexus table else registered key nexus table
acted (Reserve kind) key nexus table = reserved kind nexus table
acted (Release kind) key nexus table = released kind nexus table
acted Clear key nexus table = cleared nexus table
acted (Preempt kind) key nexus table = preempted kind key nexus table

-- SPC-4 "PERSISTENT RESERVE OUT command": one that must not be requested is a RESERVATION CONFLICT
abbrev pub asked : Result Request Condition → Result ParameterList Condition → NexusName → TableState → TableState × Ending
asked (Err condition) list nexus table = ends (CheckCondition condition) table
asked (Ok request) (Err condition) nexus table = ends (CheckCondition condition) table
asked (Ok request) (Ok list) nexus table =
    if may_ask request (own_key nexus table.rows) list.key then acted request list.action_key nexus table
    else ends ReservationConflict table

-- SPC-4 "PERSISTENT RESERVE OUT command": by its service action, SCOPE, TYPE and parameter list
unfoldable pub out_of : ServiceAction → ℕ → ℕ → List ℕ → NexusName → TableState → TableState × Ending
out_of action scope code list nexus table = asked (request_of action (type_of scope code)) (list_of list) nexus table
