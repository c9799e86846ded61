-- Persistent reservations, computed.
use Rattle.std.specs.Prelude.{◌≡◌, ℕ, List, [], ◌∷◌, ◌++◌, map, replicate, codes, Bool, true, false, Some, None, is_some, refl}
use Rattle.std.specs.Int.{w64, to_be_bytes}
use Rattle.scsi_sense.specs.Nexus.{NexusName}
use Rattle.scsi_sense.specs.declared.condition.Attention.TheVariants.{ReservationsPreempted, ReservationsReleased, RegistrationsPreempted}
use Rattle.scsi_sense.specs.declared.condition.Condition.TheVariants.{InvalidFieldInCdb, InvalidFieldInParameterList}
use Rattle.scsi_sense.specs.declared.condition.Condition.TheVariants.{InvalidReleaseOfPersistentReservation, InsufficientRegistrationResources}
use Rattle.scsi_sense.specs.declared.condition.Condition.TheVariants.{ParameterListLengthError}
use Rattle.scsi_cdb.specs.declared.operation.ReservationClass.TheVariants.{Reading, Writing}
use Rattle.scsi_cdb.specs.PersistentReserve.{is_type}
use Rattle.scsi_conflict.specs.ReservationType.{all_types, type_of}
use Rattle.scsi_conflict.specs.Conflict.{conflict}
use Rattle.scsi_reserve.specs.Ending.{Ending, ended_with}
use Rattle.scsi_reserve.specs.Table.{TableState, empty_table, is_allowed}
use Rattle.scsi_reserve.specs.Out.{registered, unregistered, reserved, released, cleared, taken_over, removed, preempted, out_of}
use Rattle.scsi_reserve.specs.ReadIn.{data_of, keys_data, reservation_data}
use Rattle.scsi_conflict.specs.declared.conflict.Who.TheVariants.{Holder, Registrant, Neither}
use Rattle.scsi_reserve.specs.declared.outcome.Ended.TheVariants.{Good, ReservationConflict, CheckCondition}
use Rattle.scsi_cdb.specs.declared.persistent_reserve.ReadAction.TheVariants.{ReadKeys, ReadReservation, ReportCapabilities}
use Rattle.scsi_conflict.specs.declared.reservation_type.ReservationType.{ReservationType}
use Rattle.scsi_conflict.specs.declared.reservation_type.ReservationType.TheVariants.{WriteExclusive, WriteExclusiveRegistrantsOnly}
use Rattle.scsi_conflict.specs.declared.reservation_type.ReservationType.TheVariants.{WriteExclusiveAllRegistrants, ExclusiveAccess}
use Rattle.scsi_cdb.specs.declared.persistent_reserve.ServiceAction.TheVariants.{Register, Reserve, Release, Clear, Preempt, RegisterAndIgnoreExistingKey}

-- ---- what is forbidden

-- by type (1h, 3h, 5h, 6h, 7h, 8h), who (the holder, another registrant, neither) and class (reading, writing)
abbrev conflicts : List (List (Bool × Bool))
conflicts =
    map (λ kind. map (λ who. (conflict kind who Reading, conflict kind who Writing)) (Holder ∷ Registrant ∷ Neither ∷ [])) all_types

all_conflicts : conflicts ≡
    ((false, false) ∷ (false, true) ∷ (false, true) ∷ [])
    ∷ ((false, false) ∷ (true, true) ∷ (true, true) ∷ [])
    ∷ ((false, false) ∷ (false, false) ∷ (false, true) ∷ [])
    ∷ ((false, false) ∷ (false, false) ∷ (true, true) ∷ [])
    ∷ ((false, false) ∷ (false, false) ∷ (false, true) ∷ [])
    ∷ ((false, false) ∷ (false, false) ∷ (true, true) ∷ [])
    ∷ []
all_conflicts = refl

-- another scope, and types that do not exist
types : (type_of 0 0x5 ≡ Some WriteExclusiveRegistrantsOnly) × (type_of 1 0x5 ≡ None) × (type_of 0 0x0 ≡ None) × (type_of 0 0x2 ≡ None) × (type_of 0 0x9 ≡ None)
types = (refl, refl, refl, refl, refl)

-- RESERVE and RELEASE are accepted with the codes of these types, of scope 0 alone
abbrev all_codes : List ℕ
all_codes = 0 ∷ 1 ∷ 2 ∷ 3 ∷ 4 ∷ 5 ∷ 6 ∷ 7 ∷ 8 ∷ 9 ∷ 10 ∷ 11 ∷ 12 ∷ 13 ∷ 14 ∷ 15 ∷ []

taken : (map (is_type 0) all_codes ≡ map (λ code. is_some (type_of 0 code)) all_codes) × (map (is_type 1) all_codes ≡ replicate 16 false)
taken = (refl, refl)

-- ---- the nexuses

abbrev a : NexusName
a = record { initiator_name = codes "a"; isid = 0x80 ∷ 0 ∷ 0 ∷ 0 ∷ 0 ∷ 1 ∷ [] }

abbrev b : NexusName
b = record { initiator_name = codes "b"; isid = 0x80 ∷ 0 ∷ 0 ∷ 0 ∷ 0 ∷ 1 ∷ [] }

-- the initiator of a, with another ISID
abbrev c : NexusName
c = record { initiator_name = codes "a"; isid = 0x80 ∷ 0 ∷ 0 ∷ 0 ∷ 0 ∷ 2 ∷ [] }

-- a parameter list with these two keys
abbrev keys : ℕ → ℕ → List ℕ
keys key action_key = to_be_bytes w64 key ++ to_be_bytes w64 action_key ++ replicate 8 0

-- both registered, first a with A1h and then b with B2h, and a holds a reservation of this type
abbrev shared : ReservationType → TableState
shared kind = record {
  rows = record { nexus = a; key = 0xa1 } ∷ record { nexus = b; key = 0xb2 } ∷ [];
  reservation = Some (record { kind = kind; holder = a });
  generation = 2;
}

-- ---- fencing: a reserves, and b takes over after a has failed

abbrev a_reserves : TableState
a_reserves = (out_of Reserve 0x0 0x5 (keys 0xa1 0) a (out_of Register 0x0 0x0 (keys 0 0xa1) a empty_table).0).0

abbrev b_preempts : TableState × Ending
b_preempts = out_of Preempt 0x0 0x5 (keys 0xb2 0xa1) b (out_of Register 0x0 0x0 (keys 0 0xb2) b a_reserves).0

reserved_by_a : a_reserves ≡ record {
  rows = record { nexus = a; key = 0xa1 } ∷ [];
  reservation = Some (record { kind = WriteExclusiveRegistrantsOnly; holder = a });
  generation = 1;
}
unfolding out_of registered reserved
reserved_by_a = refl

-- b may read and not write; so may the initiator of a with another ISID
b_reads : (is_allowed b Reading a_reserves ≡ true) × (is_allowed b Writing a_reserves ≡ false)
    × (is_allowed a Writing a_reserves ≡ true) × (is_allowed c Writing a_reserves ≡ false)
unfolding out_of registered reserved
b_reads = (refl, refl, refl, refl)

preempted_by_b : b_preempts ≡ (
  record {
    rows = record { nexus = b; key = 0xb2 } ∷ [];
    reservation = Some (record { kind = WriteExclusiveRegistrantsOnly; holder = b });
    generation = 3;
  },
  record { ended = Good; due = record { nexus = a; attention = RegistrationsPreempted } ∷ [] },
)
unfolding out_of registered reserved preempted taken_over
preempted_by_b = refl

-- READ KEYS: 00000003 00000008 00000000000000b2
keys_then : data_of ReadKeys b_preempts.0 ≡ 0 ∷ 0 ∷ 0 ∷ 3 ∷ 0 ∷ 0 ∷ 0 ∷ 8 ∷ 0 ∷ 0 ∷ 0 ∷ 0 ∷ 0 ∷ 0 ∷ 0 ∷ 0xb2 ∷ []
unfolding out_of registered reserved preempted taken_over keys_data
keys_then = refl

-- ---- PREEMPT of a registration alone: the type is ignored, the reservation stays, and b gets an attention

removed_by_a : out_of Preempt 0x0 0x0 (keys 0xa1 0xb2) a (shared WriteExclusiveRegistrantsOnly) ≡ (
  record {
    rows = record { nexus = a; key = 0xa1 } ∷ [];
    reservation = Some (record { kind = WriteExclusiveRegistrantsOnly; holder = a });
    generation = 3;
  },
  record { ended = Good; due = record { nexus = b; attention = RegistrationsPreempted } ∷ [] },
)
unfolding out_of preempted removed
removed_by_a = refl

-- a key without registration; key 0, if one nexus holds the reservation; a type that does not exist, if it would be
-- made
not_preempted : (out_of Preempt 0x0 0x5 (keys 0xa1 0xc3) a (shared WriteExclusive) ≡ (shared WriteExclusive, ended_with ReservationConflict))
    × (out_of Preempt 0x0 0x5 (keys 0xb2 0) b (shared WriteExclusive) ≡ (shared WriteExclusive, ended_with (CheckCondition InvalidFieldInParameterList)))
    × (out_of Preempt 0x0 0x0 (keys 0xb2 0xa1) b (shared WriteExclusive) ≡ (shared WriteExclusive, ended_with (CheckCondition InvalidFieldInCdb)))
unfolding out_of preempted taken_over removed
not_preempted = (refl, refl, refl)

-- a preempts itself: it stays registered and holds the other type, and b gets the attention that the first one is
-- released
preempts_itself : out_of Preempt 0x0 0x3 (keys 0xa1 0xa1) a (shared WriteExclusive) ≡ (
  record {
    rows = record { nexus = a; key = 0xa1 } ∷ record { nexus = b; key = 0xb2 } ∷ [];
    reservation = Some (record { kind = ExclusiveAccess; holder = a });
    generation = 3;
  },
  record { ended = Good; due = record { nexus = b; attention = ReservationsReleased } ∷ [] },
)
unfolding out_of preempted taken_over
preempts_itself = refl

-- ---- all registrants hold the reservation

-- generation 2, 16 bytes, key 0, and in byte 21 type 7h
shown_to_all : data_of ReadReservation (shared WriteExclusiveAllRegistrants) ≡
    0 ∷ 0 ∷ 0 ∷ 2 ∷ 0 ∷ 0 ∷ 0 ∷ 16 ∷ replicate 8 0 ++ 0 ∷ 0 ∷ 0 ∷ 0 ∷ 0 ∷ 0x07 ∷ 0 ∷ 0 ∷ []
unfolding reservation_data
shown_to_all = refl

c_reads : (is_allowed c Reading (shared WriteExclusiveAllRegistrants) ≡ true) × (is_allowed c Writing (shared WriteExclusiveAllRegistrants) ≡ false)
    × (is_allowed b Writing (shared WriteExclusiveAllRegistrants) ≡ true)
c_reads = (refl, refl, refl)

-- b unregisters, and the reservation stays; a unregisters too, and it ends
abbrev b_leaves : TableState × Ending
b_leaves = out_of Register 0x0 0x0 (keys 0xb2 0) b (shared WriteExclusiveAllRegistrants)

stays : b_leaves ≡ (
  record {
    rows = record { nexus = a; key = 0xa1 } ∷ [];
    reservation = Some (record { kind = WriteExclusiveAllRegistrants; holder = a });
    generation = 3;
  },
  ended_with Good,
)
unfolding out_of unregistered
stays = refl

ends_at_last : out_of Register 0x0 0x0 (keys 0xa1 0) a b_leaves.0 ≡ (record { rows = []; reservation = None; generation = 4 }, ended_with Good)
unfolding out_of unregistered
ends_at_last = refl

-- ---- the holder unregisters: the reservation ends, and b gets an attention if it had rights by it

holder_leaves : out_of RegisterAndIgnoreExistingKey 0x0 0x0 (keys 0xff 0) a (shared WriteExclusiveRegistrantsOnly) ≡ (
  record { rows = record { nexus = b; key = 0xb2 } ∷ []; reservation = None; generation = 3 },
  record { ended = Good; due = record { nexus = b; attention = ReservationsReleased } ∷ [] },
)
unfolding out_of unregistered
holder_leaves = refl

-- ---- RESERVE, RELEASE, CLEAR

-- again, of another type, and by another registrant
reserves_again : (out_of Reserve 0x0 0x1 (keys 0xa1 0) a (shared WriteExclusive) ≡ (shared WriteExclusive, ended_with Good))
    × (out_of Reserve 0x0 0x3 (keys 0xa1 0) a (shared WriteExclusive) ≡ (shared WriteExclusive, ended_with ReservationConflict))
    × (out_of Reserve 0x0 0x1 (keys 0xb2 0) b (shared WriteExclusive) ≡ (shared WriteExclusive, ended_with ReservationConflict))
unfolding out_of reserved
reserves_again = (refl, refl, refl)

-- by its holder, of another type, and by another registrant
releases : ((out_of Release 0x0 0x5 (keys 0xa1 0) a (shared WriteExclusiveRegistrantsOnly)).1 ≡
    record { ended = Good; due = record { nexus = b; attention = ReservationsReleased } ∷ [] })
    × (out_of Release 0x0 0x1 (keys 0xa1 0) a (shared WriteExclusiveRegistrantsOnly)
    ≡ (shared WriteExclusiveRegistrantsOnly, ended_with (CheckCondition InvalidReleaseOfPersistentReservation)))
    × (out_of Release 0x0 0x5 (keys 0xb2 0) b (shared WriteExclusiveRegistrantsOnly) ≡ (shared WriteExclusiveRegistrantsOnly, ended_with Good))
unfolding out_of released
releases = (refl, refl, refl)

clears : out_of Clear 0x0 0x0 (keys 0xb2 0) b (shared WriteExclusive) ≡ (
  record { rows = []; reservation = None; generation = 3 },
  record { ended = Good; due = record { nexus = a; attention = ReservationsPreempted } ∷ [] },
)
unfolding out_of cleared
clears = refl

-- ---- what is refused, in its order: the type, the length of the list, its bits, the key

-- lengths 0, 23 and 25; RESERVE of a type that does not exist with such a list; SPEC_I_PT, ALL_TG_PT, APTPL
refused : ((out_of Register 0x0 0x0 [] a empty_table).1 ≡ ended_with (CheckCondition ParameterListLengthError))
    × ((out_of Register 0x0 0x0 (replicate 23 0) a empty_table).1 ≡ ended_with (CheckCondition ParameterListLengthError))
    × ((out_of Register 0x0 0x0 (replicate 25 0) a empty_table).1 ≡ ended_with (CheckCondition ParameterListLengthError))
    × ((out_of Reserve 0x0 0x2 [] a empty_table).1 ≡ ended_with (CheckCondition InvalidFieldInCdb))
    × ((out_of Reserve 0x1 0x1 (keys 0 0) a empty_table).1 ≡ ended_with (CheckCondition InvalidFieldInCdb))
    × ((out_of Register 0x0 0x0 (replicate 20 0 ++ 0x08 ∷ replicate 3 0) a empty_table).1 ≡ ended_with (CheckCondition InvalidFieldInParameterList))
    × ((out_of Register 0x0 0x0 (replicate 20 0 ++ 0x04 ∷ replicate 3 0) a empty_table).1 ≡ ended_with (CheckCondition InvalidFieldInParameterList))
    × ((out_of Register 0x0 0x0 (replicate 20 0 ++ 0x01 ∷ replicate 3 0) a empty_table).1 ≡ ended_with (CheckCondition InvalidFieldInParameterList))
unfolding out_of
refused = (refl, refl, refl, refl, refl, refl, refl, refl)

-- not registered, and with another key than its own
not_asked : (out_of Register 0x0 0x0 (keys 0xa1 0xa1) a empty_table ≡ (empty_table, ended_with ReservationConflict))
    × (out_of Reserve 0x0 0x1 (keys 0 0) a empty_table ≡ (empty_table, ended_with ReservationConflict))
    × (out_of Clear 0x0 0x0 (keys 0xb2 0) a (shared WriteExclusive) ≡ (shared WriteExclusive, ended_with ReservationConflict))
unfolding out_of
not_asked = (refl, refl, refl)

-- ---- limits

abbrev full : TableState
full = record { rows = replicate 64 (record { nexus = b; key = 0xb2 }); reservation = None; generation = 64 }

-- a 65th registration
no_more : out_of Register 0x0 0x0 (keys 0 0xa1) a full ≡ (full, ended_with (CheckCondition InsufficientRegistrationResources))
unfolding out_of registered
no_more = refl

-- the generation after FFFFFFFFh, with a new key for a, which was registered
wraps : out_of Register 0x0 0x0 (keys 0xa1 0xa2) a (record { rows = record { nexus = a; key = 0xa1 } ∷ []; reservation = None; generation = 0xffffffff })
    ≡ (record { rows = record { nexus = a; key = 0xa2 } ∷ []; reservation = None; generation = 0 }, ended_with Good)
unfolding out_of registered
wraps = refl

-- ---- PERSISTENT RESERVE IN

-- nobody holds a reservation; a holds one; the capabilities
read_in : (data_of ReadReservation empty_table ≡ replicate 8 0)
    × (data_of ReadReservation (shared WriteExclusive) ≡ 0 ∷ 0 ∷ 0 ∷ 2 ∷ 0 ∷ 0 ∷ 0 ∷ 16 ∷ replicate 7 0 ++ 0xa1 ∷ 0 ∷ 0 ∷ 0 ∷ 0 ∷ 0 ∷ 0x01 ∷ 0 ∷ 0 ∷ [])
    × (data_of ReportCapabilities empty_table ≡ 0x00 ∷ 0x08 ∷ 0x00 ∷ 0x80 ∷ 0xea ∷ 0x01 ∷ 0x00 ∷ 0x00 ∷ [])
unfolding reservation_data
read_in = (refl, refl, refl)
