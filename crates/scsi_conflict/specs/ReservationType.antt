-- Types of persistent reservations (SPC-4 "Persistent reservations type").
use Rattle.std.specs.Prelude.{ℕ, List, [], ◌∷◌, Bool, true, false, ◌==◌, Option, Some, None, if◌then◌else◌}
use Rattle.scsi_conflict.specs.declared.reservation_type.ReservationType.{ReservationType}
use Rattle.scsi_conflict.specs.declared.reservation_type.ReservationType.TheVariants.{WriteExclusive, ExclusiveAccess, WriteExclusiveRegistrantsOnly}
use Rattle.scsi_conflict.specs.declared.reservation_type.ReservationType.TheVariants.{ExclusiveAccessRegistrantsOnly, WriteExclusiveAllRegistrants}
use Rattle.scsi_conflict.specs.declared.reservation_type.ReservationType.TheVariants.{ExclusiveAccessAllRegistrants}

-- SPC-4 "Persistent reservations type"
abbrev pub type_code : ReservationType → ℕ
type_code WriteExclusive = 0x1
type_code ExclusiveAccess = 0x3
type_code WriteExclusiveRegistrantsOnly = 0x5
type_code ExclusiveAccessRegistrantsOnly = 0x6
type_code WriteExclusiveAllRegistrants = 0x7
type_code ExclusiveAccessAllRegistrants = 0x8

-- in the order of their codes
abbrev pub all_types : List ReservationType
all_types =
    WriteExclusive ∷ ExclusiveAccess ∷ WriteExclusiveRegistrantsOnly ∷ ExclusiveAccessRegistrantsOnly
    ∷ WriteExclusiveAllRegistrants ∷ ExclusiveAccessAllRegistrants ∷ []

-- the type of a code
abbrev pub type_among : List ReservationType → ℕ → Option ReservationType
type_among [] code = None
type_among (kind ∷ kinds) code = if code == type_code kind then Some kind else type_among kinds code

-- SPC-4 "Persistent reservations scope": 0h is the logical unit, and there is no other (profile)
abbrev pub type_of : ℕ → ℕ → Option ReservationType
type_of scope code = if scope == 0 then type_among all_types code else None

-- whether both are the same
abbrev pub is_same_type : ReservationType → ReservationType → Bool
is_same_type kind other = type_code kind == type_code other

-- SPC-4 "Persistent reservation holder": of these types every registered nexus is a holder
abbrev pub is_of_all : ReservationType → Bool
is_of_all WriteExclusive = false
is_of_all ExclusiveAccess = false
is_of_all WriteExclusiveRegistrantsOnly = false
is_of_all ExclusiveAccessRegistrantsOnly = false
is_of_all WriteExclusiveAllRegistrants = true
is_of_all ExclusiveAccessAllRegistrants = true

-- SPC-4 "Persistent reservations type": every registered nexus has the rights of the holder
abbrev pub is_of_registrants : ReservationType → Bool
is_of_registrants WriteExclusive = false
is_of_registrants ExclusiveAccess = false
is_of_registrants WriteExclusiveRegistrantsOnly = true
is_of_registrants ExclusiveAccessRegistrantsOnly = true
is_of_registrants WriteExclusiveAllRegistrants = true
is_of_registrants ExclusiveAccessAllRegistrants = true
