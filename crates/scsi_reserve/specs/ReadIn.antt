-- The data that PERSISTENT RESERVE IN returns (SPC-4 "PERSISTENT RESERVE IN command").
use Rattle.std.specs.Prelude.{ℕ, ◌*◌, List, [], ◌∷◌, ◌++◌, length, replicate, Option, Some, None, unwrap_or, if◌then◌else◌}
use Rattle.std.specs.Int.{w32, w64, to_be_bytes}
use Rattle.std.specs.List.{flat_map}
use Rattle.scsi_conflict.specs.ReservationType.{type_code, is_of_all}
use Rattle.scsi_conflict.specs.Registration.{own_key}
use Rattle.scsi_reserve.specs.Table.{TableState}
use Rattle.scsi_conflict.specs.declared.registration.Row.{Row}
use Rattle.scsi_conflict.specs.declared.registration.Reservation.{Reservation}
use Rattle.scsi_cdb.specs.declared.persistent_reserve.ReadAction.{ReadAction}
use Rattle.scsi_cdb.specs.declared.persistent_reserve.ReadAction.TheVariants.{ReadKeys, ReadReservation, ReportCapabilities}

-- SPC-4 "READ KEYS service action": a key has 8 bytes
abbrev pub key_bytes : Row → List ℕ
key_bytes row = to_be_bytes w64 row.key

-- SPC-4 "READ KEYS service action": PRGENERATION, the bytes of all keys, the keys in the order of registering
unfoldable pub keys_data : TableState → List ℕ
keys_data table =
    to_be_bytes w32 table.generation ++ to_be_bytes w32 (8 * length table.rows) ++ flat_map key_bytes table.rows

-- SPC-4 "READ RESERVATION service action": the holder's key, or 0 if all registrants hold the reservation
abbrev pub shown_key : List Row → Reservation → ℕ
shown_key rows reservation = if is_of_all reservation.kind then 0 else unwrap_or (own_key reservation.holder rows) 0

-- SPC-4 "READ RESERVATION service action": 16 bytes, of which 8 are the key, and in byte 21 scope 0h and type
abbrev pub shown : List Row → Option Reservation → List ℕ
shown rows None = replicate 4 0
shown rows (Some reservation) =
    to_be_bytes w32 16 ++ to_be_bytes w64 (shown_key rows reservation) ++ replicate 5 0 ++ type_code reservation.kind ∷ replicate 2 0

-- SPC-4 "READ RESERVATION service action": PRGENERATION, and then the reservation
unfoldable pub reservation_data : TableState → List ℕ
reservation_data table = to_be_bytes w32 table.generation ++ shown table.rows table.reservation

-- SPC-4 "REPORT CAPABILITIES service action": 8 bytes; TMV, and the types 7h, 6h, 5h, 3h, 1h and then 8h
abbrev pub capabilities : List ℕ
capabilities = 0x00 ∷ 0x08 ∷ 0x00 ∷ 0x80 ∷ 0xea ∷ 0x01 ∷ 0x00 ∷ 0x00 ∷ []

-- SPC-4 "PERSISTENT RESERVE IN command": by its service action
abbrev pub data_of : ReadAction → TableState → List ℕ
data_of ReadKeys table = keys_data table
data_of ReadReservation table = reservation_data table
data_of ReportCapabilities table = capabilities
