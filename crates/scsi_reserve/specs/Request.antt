-- What PERSISTENT RESERVE OUT requests, and who may request it.
use Rattle.std.specs.Prelude.{ℕ, List, length, Bool, true, not, ◌==◌, Option, Some, None, unwrap_or, Result, Ok, Err, slice_index, bit_and}
use Rattle.std.specs.Prelude.{if◌then◌else◌}
use Rattle.byteorder.specs.Endian.{big_from}
use Rattle.scsi_sense.specs.declared.condition.Condition.{Condition}
use Rattle.scsi_sense.specs.declared.condition.Condition.TheVariants.{InvalidFieldInCdb, ParameterListLengthError, InvalidFieldInParameterList}
use Rattle.scsi_conflict.specs.Registration.{is_key}
use Rattle.scsi_conflict.specs.declared.reservation_type.ReservationType.{ReservationType}
use Rattle.scsi_cdb.specs.declared.persistent_reserve.ServiceAction.{ServiceAction}
use Rattle.scsi_cdb.specs.declared.persistent_reserve.ServiceAction.TheVariants as action
use Rattle.scsi_reserve.specs.declared.request.Request.{Request}
use Rattle.scsi_reserve.specs.declared.request.Request.TheVariants.{Register, Reserve, Release, Clear, Preempt, RegisterAndIgnoreExistingKey}
use Rattle.scsi_reserve.specs.declared.parameter_list.ParameterList.{ParameterList}

-- SPC-4 "PERSISTENT RESERVE OUT command": RESERVE and RELEASE need a type (INVALID FIELD IN CDB); PREEMPT may need one
abbrev pub request_of : ServiceAction → Option ReservationType → Result Request Condition
request_of action.Register kind = Ok Register
request_of action.Reserve None = Err InvalidFieldInCdb
request_of action.Reserve (Some kind) = Ok (Reserve kind)
request_of action.Release None = Err InvalidFieldInCdb
request_of action.Release (Some kind) = Ok (Release kind)
request_of action.Clear kind = Ok Clear
request_of action.Preempt kind = Ok (Preempt kind)
request_of action.RegisterAndIgnoreExistingKey kind = Ok RegisterAndIgnoreExistingKey

-- SPC-4 "Basic PERSISTENT RESERVE OUT parameter list": the keys are bytes 0 to 7 and 8 to 15; SPEC_I_PT, ALL_TG_PT and
-- APTPL, bits 3, 2 and 0 of byte 20, are refused (profile)
abbrev pub list_of : List ℕ → Result ParameterList Condition
list_of list =
    if not (length list == 24) then Err ParameterListLengthError
    else if not (bit_and (slice_index list 20) 0x0d == 0) then Err InvalidFieldInParameterList
    else Ok (record { key = big_from 0 8 list; action_key = big_from 8 8 list })

-- SPC-4 "Registering", "PERSISTENT RESERVE OUT command": whether a nexus may request with this reservation key. It
-- needs its own key; REGISTER needs 0 if it is not registered; REGISTER AND IGNORE EXISTING KEY accepts any
abbrev pub may_ask : Request → Option ℕ → ℕ → Bool
may_ask RegisterAndIgnoreExistingKey own key = true
may_ask Register own key = key == unwrap_or own 0
may_ask (Reserve kind) own key = is_key key own
may_ask (Release kind) own key = is_key key own
may_ask Clear own key = is_key key own
may_ask (Preempt kind) own key = is_key key own
