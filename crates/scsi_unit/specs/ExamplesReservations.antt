-- Commands to a disk that another nexus holds a reservation of, computed.
use Rattle.std.specs.Prelude.{◌≡◌, ℕ, List, [], ◌∷◌, ◌++◌, replicate, Some, None, true, false, refl}
use Rattle.scsi_sense.specs.Sense.{plain_sense}
use Rattle.scsi_sense.specs.Done.{good, good_with, good_taking, check_condition, reservation_conflict}
use Rattle.scsi_sense.specs.Nexus.{NexusName}
use Rattle.scsi_sense.specs.declared.condition.Condition.TheVariants.{UnitAttention, ParameterListLengthError}
use Rattle.scsi_sense.specs.declared.condition.Attention.TheVariants.{PowerOnOrReset, RegistrationsPreempted}
use Rattle.scsi_cdb.specs.Fault.{invalid_field}
use Rattle.scsi_reserve.specs.Table.{TableState, empty_table}
use Rattle.scsi_reserve.specs.Out.{registered, preempted, taken_over, out_of}
use Rattle.scsi_reserve.specs.ReadIn.{reservation_data}
use Rattle.scsi_conflict.specs.declared.reservation_type.ReservationType.{ReservationType}
use Rattle.scsi_conflict.specs.declared.reservation_type.ReservationType.TheVariants.{ExclusiveAccess, WriteExclusiveRegistrantsOnly}
use Rattle.scsi_disk.specs.DiskDevice.{DiskUnit}
use Rattle.scsi_unit.specs.Device.{Disk}
use Rattle.scsi_tape.specs.TapeSense.{target_failure}
use Rattle.scsi_unit.specs.Checks.{judged}
use Rattle.scsi_unit.specs.Joined.{told, newly_joined, raised_for}
use Rattle.scsi_unit.specs.PersistentReserve.{reserve_in_outcome, reserved_out}
use Rattle.scsi_unit.specs.State.{UnitState}
use Rattle.scsi_unit.specs.Unit.{unit_done, performed_as, perform_at}
use Rattle.scsi_unit.specs.declared.joined.Joined.{Joined}

abbrev pub a : NexusName
a = record { initiator_name = 97 ∷ []; isid = replicate 6 0 }

abbrev pub b : NexusName
b = record { initiator_name = 98 ∷ []; isid = replicate 6 0 }

abbrev pub disk : DiskUnit
disk = record {
  disk = record { blocks = replicate 4 (replicate 2 0x61); synced = false; failures = 0; honest = true; steady = false };
  is_ready = true;
  write_protect = false;
}

-- a is registered with A1h
abbrev pub held_by_a : ReservationType → TableState
held_by_a kind = record {
  rows = record { nexus = a; key = 0xa1 } ∷ [];
  reservation = Some (record { kind = kind; holder = a });
  generation = 1;
}

-- the attention of both has been reported
abbrev pub both_told : List Joined
both_told = record { nexus = a; attentions = [] } ∷ record { nexus = b; attentions = [] } ∷ []

abbrev pub unit_with : TableState → UnitState
unit_with table = record { lun = 0; serial = []; device = Disk disk; reservations = table; joined = both_told }

abbrev test_unit_ready : List ℕ
test_unit_ready = replicate 16 0

-- READ (10) of the first block, and WRITE (10) of it
abbrev read_10 : List ℕ
read_10 = 0x28 ∷ replicate 7 0 ++ 1 ∷ replicate 7 0

abbrev write_10 : List ℕ
write_10 = 0x2a ∷ replicate 7 0 ++ 1 ∷ replicate 7 0

-- a holds type 5: b reads and does not write; type 3: b does not read either, and TEST UNIT READY still works
conflicts : ((perform_at b read_10 [] (unit_with (held_by_a WriteExclusiveRegistrantsOnly))).1 ≡ good_with (replicate 2 0x61))
    × (perform_at b write_10 [] (unit_with (held_by_a WriteExclusiveRegistrantsOnly))
    ≡ (unit_with (held_by_a WriteExclusiveRegistrantsOnly), reservation_conflict))
    × ((perform_at b read_10 [] (unit_with (held_by_a ExclusiveAccess))).1 ≡ reservation_conflict)
    × ((perform_at a read_10 [] (unit_with (held_by_a ExclusiveAccess))).1 ≡ good_with (replicate 2 0x61))
    × ((perform_at b test_unit_ready [] (unit_with (held_by_a ExclusiveAccess))).1 ≡ good)
unfolding performed_as judged told unit_done
conflicts = (refl, refl, refl, refl, refl)

abbrev failed : UnitState
failed = record (unit_with (held_by_a ExclusiveAccess)) { device = Disk (record disk { is_ready = false }) }

abbrev new_to_b : UnitState
new_to_b = record (unit_with (held_by_a ExclusiveAccess)) { joined = newly_joined b ∷ [] }

-- an attention is reported before a conflict, and a conflict before an unready unit and before a field that is refused
in_order : ((perform_at b read_10 [] new_to_b).1 ≡ check_condition (plain_sense (UnitAttention PowerOnOrReset)))
    × ((perform_at b read_10 [] failed).1 ≡ reservation_conflict)
    × ((perform_at a read_10 [] failed).1 ≡ check_condition target_failure)
    × ((perform_at b (0x28 ∷ 0x20 ∷ replicate 14 0) [] (unit_with (held_by_a ExclusiveAccess))).1 ≡ reservation_conflict)
unfolding performed_as judged told unit_done
in_order = (refl, refl, refl, refl)

-- ---- PERSISTENT RESERVE OUT and PERSISTENT RESERVE IN

-- with a service action, SCOPE and TYPE, and a list of 24 bytes with these keys
abbrev reserve_out : ℕ → ℕ → List ℕ
reserve_out action kind = 0x5f ∷ action ∷ kind ∷ replicate 5 0 ++ 24 ∷ replicate 7 0

abbrev keys : ℕ → ℕ → List ℕ
keys key action_key = replicate 7 0 ++ key ∷ replicate 7 0 ++ action_key ∷ replicate 8 0

-- a registers with a unit without registrations
registers : perform_at a (reserve_out 0 0) (keys 0 0xa1) (unit_with empty_table) ≡ (
  unit_with (record { rows = record { nexus = a; key = 0xa1 } ∷ []; reservation = None; generation = 1 }),
  good_taking 24,
)
unfolding performed_as judged told unit_done reserved_out out_of registered
registers = refl

-- b, which is not registered, may not reserve: RESERVATION CONFLICT. Refused are a list of 23 bytes, data shorter than
-- its list, and a type that does not exist. The type is reported before the length
refused : (perform_at b (reserve_out 1 1) (keys 0 0) (unit_with empty_table) ≡ (unit_with empty_table, reservation_conflict))
    × (perform_at b (0x5f ∷ replicate 7 0 ++ 23 ∷ replicate 7 0) (replicate 23 0) (unit_with empty_table)
    ≡ (unit_with empty_table, check_condition (plain_sense ParameterListLengthError)))
    × (perform_at b (reserve_out 0 0) (replicate 23 0) (unit_with empty_table)
    ≡ (unit_with empty_table, check_condition (plain_sense ParameterListLengthError)))
    × (perform_at b (reserve_out 1 2) [] (unit_with empty_table) ≡ (unit_with empty_table, check_condition invalid_field))
unfolding performed_as judged told unit_done reserved_out out_of registered
refused = (refl, refl, refl, refl)

abbrev with_b : TableState
with_b = record {
  rows = record { nexus = a; key = 0xa1 } ∷ record { nexus = b; key = 0xb2 } ∷ [];
  reservation = Some (record { kind = ExclusiveAccess; holder = a });
  generation = 2;
}

-- b preempts a, for which an attention is then pending; a may only use commands that are always allowed
abbrev preempted_by_b : UnitState
preempted_by_b = record (unit_with (record {
  rows = record { nexus = b; key = 0xb2 } ∷ [];
  reservation = Some (record { kind = ExclusiveAccess; holder = b });
  generation = 3;
})) { joined = record { nexus = a; attentions = RegistrationsPreempted ∷ [] } ∷ record { nexus = b; attentions = [] } ∷ [] }

preempts : (perform_at b (reserve_out 4 3) (keys 0xb2 0xa1) (unit_with with_b) ≡ (preempted_by_b, good_taking 24))
    × ((perform_at a test_unit_ready [] preempted_by_b).1 ≡ check_condition (plain_sense (UnitAttention RegistrationsPreempted)))
unfolding performed_as judged told unit_done reserved_out out_of preempted taken_over raised_for
preempts = (refl, refl)

-- READ RESERVATION of 12 bytes, and of none
reads_in : (perform_at b (0x5e ∷ 1 ∷ replicate 6 0 ++ 12 ∷ replicate 7 0) [] (unit_with with_b)
    ≡ (unit_with with_b, good_with (0 ∷ 0 ∷ 0 ∷ 2 ∷ 0 ∷ 0 ∷ 0 ∷ 16 ∷ replicate 4 0)))
    × (perform_at b (0x5e ∷ 1 ∷ replicate 14 0) [] (unit_with with_b) ≡ (unit_with with_b, good))
unfolding performed_as judged told unit_done reserve_in_outcome reservation_data
reads_in = (refl, refl)
