-- What PERSISTENT RESERVE IN and PERSISTENT RESERVE OUT request.
use Rattle.std.specs.Prelude.{ℕ, ◌/◌, List, Bool, true, ◌==◌, ◌&&◌, ◌||◌, Option, Some, None, Result, Ok, Err, slice_index, bit_and, if◌then◌else◌}
use Rattle.byteorder.specs.Endian.{big_from}
use Rattle.scsi_cdb.specs.declared.fault.FieldFault.{FieldFault}
use Rattle.scsi_cdb.specs.declared.fault.FieldFault.TheVariants.{InvalidField}
use Rattle.scsi_cdb.specs.declared.persistent_reserve.ReadAction.{ReadAction}
use Rattle.scsi_cdb.specs.declared.persistent_reserve.ReadAction.TheVariants.{ReadKeys, ReadReservation, ReportCapabilities}
use Rattle.scsi_cdb.specs.declared.persistent_reserve.ReserveInFields.{ReserveInFields}
use Rattle.scsi_cdb.specs.declared.persistent_reserve.ServiceAction.{ServiceAction}
use Rattle.scsi_cdb.specs.declared.persistent_reserve.ServiceAction.TheVariants.{Register, Reserve, Release, Clear, Preempt, RegisterAndIgnoreExistingKey}
use Rattle.scsi_cdb.specs.declared.persistent_reserve.ReserveOutFields.{ReserveOutFields}

-- SPC-4 "PERSISTENT RESERVE IN command", SERVICE ACTION, those that are built (profile)
abbrev pub read_action_of : ℕ → Option ReadAction
read_action_of code =
    if code == 0x00 then Some ReadKeys else if code == 0x01 then Some ReadReservation
    else if code == 0x02 then Some ReportCapabilities else None

abbrev pub reserve_in_with : Option ReadAction → List ℕ → Result ReserveInFields FieldFault
reserve_in_with None cdb = Err InvalidField
reserve_in_with (Some action) cdb = Ok (record { action = action; allocation_length = big_from 7 2 cdb })

-- SPC-4 "PERSISTENT RESERVE IN command": SERVICE ACTION, bits 4 to 0 of byte 1; ALLOCATION LENGTH
abbrev pub reserve_in_of : List ℕ → Result ReserveInFields FieldFault
reserve_in_of cdb = reserve_in_with (read_action_of (bit_and (slice_index cdb 1) 0x1f)) cdb

-- SPC-4 "PERSISTENT RESERVE OUT service actions", those that are built (profile)
abbrev pub action_of : ℕ → Option ServiceAction
action_of code =
    if code == 0x00 then Some Register else if code == 0x01 then Some Reserve
    else if code == 0x02 then Some Release else if code == 0x03 then Some Clear
    else if code == 0x04 then Some Preempt
    else if code == 0x06 then Some RegisterAndIgnoreExistingKey else None

-- SPC-4 "Persistent reservations scope", "Persistent reservations type": the scope is the logical unit, 0h (profile)
abbrev pub is_type : ℕ → ℕ → Bool
is_type scope code = scope == 0 && (code == 1 || code == 3 || code == 5 || code == 6 || code == 7 || code == 8)

-- SPC-4 "PERSISTENT RESERVE OUT service actions": RESERVE and RELEASE need a type. PREEMPT needs one only if it makes a
-- reservation, which its fields do not show
abbrev pub takes_type : ServiceAction → ℕ → ℕ → Bool
takes_type Register scope code = true
takes_type Reserve scope code = is_type scope code
takes_type Release scope code = is_type scope code
takes_type Clear scope code = true
takes_type Preempt scope code = true
takes_type RegisterAndIgnoreExistingKey scope code = true

abbrev pub reserve_out_with : Option ServiceAction → ℕ → ℕ → ℕ → Result ReserveOutFields FieldFault
reserve_out_with None scope code list_length = Err InvalidField
reserve_out_with (Some action) scope code list_length =
    if takes_type action scope code
    then Ok (record { action = action; scope = scope; code = code; list_length = list_length }) else Err InvalidField

-- SPC-4 "PERSISTENT RESERVE OUT command": SERVICE ACTION, bits 4 to 0 of byte 1; SCOPE, bits 7 to 4 of byte 2, and TYPE,
-- bits 3 to 0; PARAMETER LIST LENGTH
abbrev pub reserve_out_of : List ℕ → Result ReserveOutFields FieldFault
reserve_out_of cdb =
    reserve_out_with (action_of (bit_and (slice_index cdb 1) 0x1f)) (slice_index cdb 2 / 16) (bit_and (slice_index cdb 2) 0x0f)
    (big_from 5 4 cdb)
