-- Only a write that failed is answered with 03/0C00.
use Rattle.std.proofs.Common.{◌≡◌, ℕ, List, ◌∷◌, Bool, true, false, Option, Some, None, Result, Ok, Err, refl, sym, ap, ◌∙◌, arith}
use Rattle.std.proofs.lemmas.Bool.{false≢true}
use Rattle.std.specs.Prelude.{slice_index}
use Rattle.scsi_sense.specs.Done.{Outcome}
use Rattle.scsi_sense.specs.Nexus.{NexusName}
use Rattle.scsi_sense.specs.declared.condition.Condition.{Condition}
use Rattle.scsi_sense.specs.declared.condition.Condition.TheVariants.{WriteError}
use Rattle.scsi_sense.specs.declared.sense.Sense.{Sense}
use Rattle.scsi_sense.specs.declared.condition.Attention.{Attention}
use Rattle.scsi_cdb.specs.Command.{command_from, command_of}
use Rattle.scsi_cdb.specs.Operation.{row_for}
use Rattle.scsi_cdb.specs.declared.operation.Kind.{Kind}
use Rattle.scsi_cdb.specs.declared.operation.Row.{Row}
use Rattle.scsi_cdb.specs.declared.command.Command.{Command}
use Rattle.scsi_cdb.specs.declared.command.Command.TheVariants as to
use Rattle.scsi_cdb.specs.declared.command.UnitCommand.{UnitCommand}
use Rattle.scsi_cdb.specs.declared.command.UnitCommand.TheVariants.{TestUnitReady, RequestSense, Inquiry, ModeSelect, ModeSense, ReportLuns}
use Rattle.scsi_cdb.specs.declared.command.UnitCommand.TheVariants.{ReserveIn, ReserveOut}
use Rattle.scsi_cdb.specs.declared.command.DiskCommand.{DiskCommand}
use Rattle.scsi_cdb.specs.declared.persistent_reserve.ServiceAction.{ServiceAction}
use Rattle.scsi_cdb.specs.declared.tape.TapeCommand.{TapeCommand}
use Rattle.scsi_conflict.specs.declared.reservation_type.ReservationType.{ReservationType}
use Rattle.scsi_inquiry.specs.declared.vpd_page.VpdPage.{VpdPage}
use Rattle.scsi_mode.specs.declared.list_fault.ListFault.{ListFault}
use Rattle.scsi_mode.specs.declared.list_fault.ListFault.TheVariants as list_faults
use Rattle.scsi_mode.specs.declared.parameters.Parameters.{Parameters}
use Rattle.scsi_conflict.specs.ReservationType.{type_of}
use Rattle.scsi_reserve.specs.Request.{request_of, list_of}
use Rattle.scsi_reserve.specs.Out.{asked, out_of, registered, unregistered, reserved, released, cleared, preempted, taken_over, removed}
use Rattle.scsi_reserve.specs.Table.{TableState}
use Rattle.scsi_reserve.specs.declared.outcome.Ended.{Ended}
use Rattle.scsi_reserve.specs.declared.outcome.Ended.TheVariants.{Good, ReservationConflict, CheckCondition}
use Rattle.scsi_tape.specs.Commands.{tape_outcome}
use Rattle.scsi_tape.specs.CameOut.{TapeCame, tape_told}
use Rattle.scsi_tape.specs.CameOut as tape_way
use Rattle.scsi_disk.specs.DiskCame.{DiskCame, Shown}
use Rattle.scsi_disk.specs.DiskCame as disk_way
use Rattle.scsi_disk.specs.DiskCommands.{told_of, shown}
use Rattle.media_tape.specs.Tape.{TapeState}
use Rattle.scsi_unit.specs.CameOut.{CameOut, disk_came, tape_came}
use Rattle.scsi_unit.specs.Device.{DeviceState, Disk, Tape, kind_of, fixed_length}
use Rattle.scsi_unit.specs.Identity.{page_outcome, inquiry_outcome, luns_outcome, sense_outcome}
use Rattle.scsi_unit.specs.PersistentReserve.{ended_outcome, reserve_in_outcome, reserved_out}
use Rattle.scsi_unit.specs.State.{UnitState}
use Rattle.scsi_unit.specs.Joined.{told}
use Rattle.scsi_unit.specs.Checks.{operation_check, attention_check, reservation_check, ready_check, fields_check, range_check, data_check, protection_check, checks, first_refusal, judged_by, judged}
use Rattle.scsi_unit.specs.TapeCommands.{tape_performed}
use Rattle.scsi_unit.specs.Unit.{mode_sense_outcome, mode_selected, unit_done, disk_done, carried_out, done_by, performed_as}
use Rattle.scsi_unit.specs.declared.refusal.Refusal.{Refusal}
use Rattle.scsi_unit.specs.declared.refusal.Refusal.TheVariants.{Refused, Told, Conflict}
use Rattle.scsi_unit.specs.Failed.{has_failed, WriteErrorsFailUnits}

-- ---- what is no write error

abbrev is_error : Condition → Bool
is_error WriteError = true
is_error other = false

abbrev tells : Option Sense → Bool
tells None = false
tells (Some sense) = is_error sense.condition

-- if a write error is told, the unit has failed
abbrev IsSo : UnitState × Outcome → Type 0
IsSo p = tells p.1.sense ≡ true → has_failed p.0.device ≡ true

no_error : {A : Type 0} {told : Bool} → told ≡ false → told ≡ true → A
no_error is told = absurd (false≢true (sym is ∙ told))

-- ---- commands to units of every kind

page_mild : (kind : Kind) (serial : List ℕ) (allocation_length : ℕ) (o : Option VpdPage)
    → tells (page_outcome kind serial allocation_length o).sense ≡ false
page_mild kind serial allocation_length None = refl
page_mild kind serial allocation_length (Some page) = refl

inquiry_mild : (kind : Kind) (serial : List ℕ) (o : Option ℕ) (allocation_length : ℕ)
    → tells (inquiry_outcome kind serial o allocation_length).sense ≡ false
unfolding inquiry_outcome
inquiry_mild kind serial None allocation_length = refl
inquiry_mild kind serial (Some code) allocation_length = page_mild kind serial allocation_length _

mode_mild : (allocation_length : ℕ) (o : Option (List ℕ)) → tells (mode_sense_outcome allocation_length o).sense ≡ false
unfolding mode_sense_outcome
mode_mild allocation_length None = refl
mode_mild allocation_length (Some bytes) = refl

selected_mild : (nexus : NexusName) (unit : UnitState) (list_length : ℕ) (r : Result Parameters ListFault)
    → tells (mode_selected nexus unit list_length r).1.sense ≡ false
selected_mild nexus unit list_length (Err list_faults.EndsEarly) = refl
selected_mild nexus unit list_length (Err list_faults.InvalidField) = refl
selected_mild nexus unit list_length (Ok given) = refl

abbrev ends_in_error : Ended → Bool
ends_in_error Good = false
ends_in_error ReservationConflict = false
ends_in_error (CheckCondition condition) = is_error condition

registered_mild : (key : ℕ) (nexus : NexusName) (table : TableState) → ends_in_error (registered key nexus table).1.ended ≡ false
unfolding registered
registered_mild key nexus table = grind arith

unregistered_mild : (nexus : NexusName) (table : TableState) → ends_in_error (unregistered nexus table).1.ended ≡ false
unfolding unregistered
unregistered_mild nexus table = refl

reserved_mild : (kind : ReservationType) (nexus : NexusName) (table : TableState) → ends_in_error (reserved kind nexus table).1.ended ≡ false
unfolding reserved
reserved_mild kind nexus table = grind arith

released_mild : (kind : ReservationType) (nexus : NexusName) (table : TableState) → ends_in_error (released kind nexus table).1.ended ≡ false
unfolding released
released_mild kind nexus table = grind arith

cleared_mild : (nexus : NexusName) (table : TableState) → ends_in_error (cleared nexus table).1.ended ≡ false
unfolding cleared
cleared_mild nexus table = refl

preempted_mild : (kind : Option ReservationType) (key : ℕ) (nexus : NexusName) (table : TableState)
    → ends_in_error (preempted kind key nexus table).1.ended ≡ false
unfolding preempted taken_over removed
preempted_mild kind key nexus table = grind arith

asked_mild : (action : ServiceAction) (kind : Option ReservationType) (list : List ℕ) (nexus : NexusName) (table : TableState)
    → ends_in_error (asked (request_of action kind) (list_of list) nexus table).1.ended ≡ false
asked_mild action kind list nexus table =
    grind (arith, registered_mild, unregistered_mild, reserved_mild, released_mild, cleared_mild, preempted_mild)

out_mild : (action : ServiceAction) (scope code : ℕ) (list : List ℕ) (nexus : NexusName) (table : TableState)
    → ends_in_error (out_of action scope code list nexus table).1.ended ≡ false
unfolding out_of
out_mild action scope code list nexus table = asked_mild action (type_of scope code) list nexus table

ended_mild : (list_length : ℕ) (ended : Ended) → ends_in_error ended ≡ false → tells (ended_outcome list_length ended).sense ≡ false
ended_mild list_length Good is = refl
ended_mild list_length ReservationConflict is = refl
ended_mild list_length (CheckCondition condition) is = is

unit_mild : (nexus : NexusName) (bytes : List ℕ) (unit : UnitState) (command : UnitCommand)
    → tells (unit_done nexus bytes unit command).1.sense ≡ false
unfolding unit_done sense_outcome reserve_in_outcome luns_outcome reserved_out
unit_mild nexus bytes unit TestUnitReady = refl
unit_mild nexus bytes unit (RequestSense allocation_length) = refl
unit_mild nexus bytes unit (Inquiry page allocation_length) = inquiry_mild _ unit.serial page allocation_length
unit_mild nexus bytes unit (ReserveIn fields) = refl
unit_mild nexus bytes unit (ReserveOut fields) =
    ended_mild fields.list_length _ (out_mild fields.action fields.scope fields.code _ nexus unit.reservations)
unit_mild nexus bytes unit (ReportLuns fields) = refl
unit_mild nexus bytes unit (ModeSense fields) = mode_mild fields.allocation_length _
unit_mild nexus bytes unit (ModeSelect fields) = selected_mild nexus unit fields.list_length _

-- ---- commands to a medium

told_mild : (seen : Shown) (blocks : List (List ℕ)) (command : DiskCommand) → tells (told_of seen blocks command).sense ≡ false
told_mild seen blocks command = grind arith

disk_so : (came : DiskCame) (bytes : List ℕ) (unit : UnitState) (device : DeviceState) (command : DiskCommand)
    → IsSo (disk_done came bytes unit device command)
disk_so disk_way.AsDefined bytes unit (Disk disk) command told =
    no_error (told_mild (shown disk.disk.blocks bytes command) disk.disk.blocks command) told
disk_so (disk_way.Dishonest seen left) bytes unit (Disk disk) command told = no_error (told_mild seen disk.disk.blocks command) told
disk_so (disk_way.ReadFailed honest) bytes unit (Disk disk) command told = no_error refl told
disk_so (disk_way.WriteFailed left honest) bytes unit (Disk disk) command told = refl
disk_so came bytes unit (Tape tape) command told = no_error refl told

tape_mild : (command : TapeCommand) (bytes : List ℕ) (tape : TapeState) → tells (tape_outcome command bytes tape).sense ≡ false
tape_mild command bytes tape = grind arith

tape_so : (came : TapeCame) (nexus : NexusName) (bytes : List ℕ) (unit : UnitState) (device : DeviceState) (command : TapeCommand)
    → IsSo (tape_performed came nexus bytes unit device command)
tape_so came nexus bytes unit (Disk disk) command told = no_error refl told
tape_so tape_way.AsDefined nexus bytes unit (Tape tape) command told = no_error (tape_mild command bytes tape.tape) told
tape_so (tape_way.Dishonest given left) nexus bytes unit (Tape tape) command told = no_error (tape_mild command bytes tape.tape) told
tape_so (tape_way.ReadFailed honest) nexus bytes unit (Tape tape) command told = no_error refl told
tape_so (tape_way.WriteFailed left) nexus bytes unit (Tape tape) command told = refl

done_so : (came : CameOut) (nexus : NexusName) (bytes : List ℕ) (unit : UnitState) (command : Command)
    → IsSo (carried_out came nexus bytes unit command)
done_so came nexus bytes unit (to.Unit command) told = no_error (unit_mild nexus bytes unit command) told
done_so came nexus bytes unit (to.Disk command) told = disk_so (disk_came came) bytes unit unit.device command told
done_so came nexus bytes unit (to.Tape command) told = tape_so (tape_came came) nexus bytes unit unit.device command told

-- ---- what a check refuses

abbrev refusal_tells : Refusal → Bool
refusal_tells (Refused sense) = is_error sense.condition
refusal_tells Conflict = false
refusal_tells (Told code) = false

field_mild : (o : Option Row) (cdb : List ℕ) (block_length : ℕ) (sense : Sense) → command_from o cdb block_length ≡ Err sense
    → is_error sense.condition ≡ false
field_mild o cdb block_length sense is = grind arith

abbrev check_tells : Option Refusal → Bool
check_tells None = false
check_tells (Some refusal) = refusal_tells refusal

abbrev AreMild : List (Option Refusal) → Type 0
AreMild refused = check_tells (first_refusal refused) ≡ false

and_then : (refused : Option Refusal) (others : List (Option Refusal)) → check_tells refused ≡ false → AreMild others → AreMild (refused ∷ others)
and_then None others is are = are
and_then (Some refusal) others is are = is

operation_mild : (o : Option Row) → check_tells (operation_check o) ≡ false
operation_mild o = grind arith

attention_mild : (o : Option Row) (attention : Option Attention) → check_tells (attention_check o attention) ≡ false
attention_mild o attention = grind arith

reservation_mild : (o : Option Row) (nexus : NexusName) (table : TableState) → check_tells (reservation_check o nexus table) ≡ false
reservation_mild o nexus table = grind arith

ready_mild : (o : Option Row) (device : DeviceState) → check_tells (ready_check o device) ≡ false
ready_mild o device = grind arith

-- of the command that the bytes encode
module _ (command : Result Command Sense) (fields : (sense : Sense) → command ≡ Err sense → is_error sense.condition ≡ false) where
  fields_mild : check_tells (fields_check command) ≡ false
  fields_mild = grind arith

  range_mild : (device : DeviceState) → check_tells (range_check command device) ≡ false
  range_mild device = grind arith

  data_mild : (bytes : List ℕ) → check_tells (data_check command bytes) ≡ false
  data_mild bytes = grind arith

  protection_mild : (device : DeviceState) → check_tells (protection_check command device) ≡ false
  protection_mild device = grind arith

  checks_mild : (o : Option Row) (nexus : NexusName) (bytes : List ℕ) (unit : UnitState) → AreMild (checks o command nexus bytes unit)
  checks_mild o nexus bytes unit =
      and_then _ _ (operation_mild o) (and_then _ _ (attention_mild o (told nexus unit.joined).1)
      (and_then _ _ (reservation_mild o nexus unit.reservations) (and_then _ _ (ready_mild o unit.device)
      (and_then _ _ fields_mild (and_then _ _ (range_mild unit.device)
      (and_then _ _ (data_mild bytes) (and_then _ _ (protection_mild unit.device) refl)))))))

  by_mild : (refused : Option Refusal) (refusal : Refusal) → check_tells refused ≡ false → judged_by refused command ≡ Err refusal
      → refusal_tells refusal ≡ false
  by_mild refused refusal mild is = grind arith

  refusal_mild : (o : Option Row) (nexus : NexusName) (bytes : List ℕ) (unit : UnitState) (refusal : Refusal)
      → judged_by (first_refusal (checks o command nexus bytes unit)) command ≡ Err refusal → refusal_tells refusal ≡ false
  refusal_mild o nexus bytes unit refusal is = by_mild _ refusal (checks_mild o nexus bytes unit) is

by_so : (came : CameOut) (nexus : NexusName) (bytes : List ℕ) (unit : UnitState) (r : Result Command Refusal)
    → ((refusal : Refusal) → r ≡ Err refusal → refusal_tells refusal ≡ false) → IsSo (done_by came nexus bytes unit r)
by_so came nexus bytes unit (Ok command) refused told = done_so came nexus bytes unit command told
by_so came nexus bytes unit (Err (Refused sense)) refused told = no_error (refused (Refused sense) refl) told
by_so came nexus bytes unit (Err Conflict) refused told = no_error refl told
by_so came nexus bytes unit (Err (Told code)) refused told = no_error refl told

pub write_errors_fail_units : WriteErrorsFailUnits
unfolding performed_as judged
write_errors_fail_units came nexus cdb bytes unit told_so =
    let found = row_for (kind_of unit.device) (slice_index cdb 0) in
    let block_length = fixed_length unit.device in
    by_so came nexus bytes unit (judged nexus cdb bytes unit)
    (λ refusal is. refusal_mild (command_of cdb (kind_of unit.device) block_length) (λ sense at. field_mild found cdb block_length sense at)
    found nexus bytes unit refusal is) (ap tells told_so)
