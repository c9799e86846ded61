-- Units keep their numbers, whatever is done to them.
use Rattle.std.proofs.Common.{◌≡◌, ℕ, List, [], ◌∷◌, map, set, get_or, Result, Ok, Err, Bool, true, false, cond, IfOk, OnOk, OnErr, refl, ap, ◌∙◌}
use Rattle.std.proofs.Math.Seq.{map-set_same}
use Rattle.scsi_sense.specs.Done.{Outcome}
use Rattle.scsi_sense.specs.Nexus.{NexusName}
use Rattle.scsi_cdb.specs.declared.command.Command.{Command}
use Rattle.scsi_cdb.specs.declared.command.Command.TheVariants as to
use Rattle.scsi_cdb.specs.declared.command.UnitCommand.{UnitCommand}
use Rattle.scsi_cdb.specs.declared.command.UnitCommand.TheVariants.{TestUnitReady, RequestSense, Inquiry, ModeSelect, ModeSense, ReportLuns, ReserveIn, ReserveOut}
use Rattle.scsi_cdb.specs.declared.command.DiskCommand.{DiskCommand}
use Rattle.scsi_cdb.specs.declared.tape.TapeCommand.{TapeCommand}
use Rattle.scsi_mode.specs.declared.list_fault.ListFault.{ListFault}
use Rattle.scsi_mode.specs.declared.parameters.Parameters.{Parameters}
use Rattle.scsi_unit.specs.Device.{DeviceState, Disk, Tape}
use Rattle.scsi_tape.specs.CameOut.{TapeCame}
use Rattle.scsi_disk.specs.DiskCame.{DiskCame}
use Rattle.scsi_unit.specs.CameOut.{CameOut, Touch, disk_came, tape_came}
use Rattle.scsi_unit.specs.State.{UnitState}
use Rattle.scsi_unit.specs.Checks.{judged}
use Rattle.scsi_unit.specs.Unit.{names_unit, where_named, mode_selected, unit_done, disk_done, carried_out, done_by, performed_as, IsPerformed}
use Rattle.scsi_unit.specs.TapeCommands.{tape_performed}
use Rattle.scsi_unit.specs.PersistentReserve.{reserved_out}
use Rattle.scsi_unit.specs.Units.{UnitStates, numbers_of}
use Rattle.scsi_unit.specs.declared.refusal.Refusal.{Refusal}
use Rattle.scsi_unit.specs.declared.refusal.Refusal.TheVariants.{Refused, Told, Conflict}

pub numbers_map : (f : UnitState → UnitState) (units : UnitStates) → ((unit : UnitState) → (f unit).lun ≡ unit.lun) → numbers_of (map f units) ≡ numbers_of units
numbers_map f [] same = refl
numbers_map f (unit ∷ units) same = rw (same unit, numbers_map f units same) refl

named_same : (b : Bool) (f : UnitState → UnitState) (unit : UnitState) → (f unit).lun ≡ unit.lun → (cond b (f unit) unit).lun ≡ unit.lun
named_same true f unit same = same
named_same false f unit same = refl

pub numbers_named : (lun : List ℕ) (f : UnitState → UnitState) (units : UnitStates) → ((unit : UnitState) → (f unit).lun ≡ unit.lun)
    → numbers_of (map (where_named lun f) units) ≡ numbers_of units
numbers_named lun f units same = numbers_map (where_named lun f) units (λ unit. named_same (names_unit lun unit) f unit (same unit))

-- each of them was changed, or none
pub numbers_result : {E : Type 0} (r : Result (Unit {0}) E) (f : UnitState → UnitState) (old new : UnitStates)
    → ((unit : UnitState) → (f unit).lun ≡ unit.lun) → OnOk r (new ≡ map f old) → OnErr r (new ≡ old) → numbers_of new ≡ numbers_of old
numbers_result (Ok u) f old new same ok err = ap numbers_of ok ∙ numbers_map f old same
numbers_result (Err e) f old new same ok err = ap numbers_of err

-- ---- a command

selected_same : (nexus : NexusName) (unit : UnitState) (n : ℕ) (r : Result Parameters ListFault) → (mode_selected nexus unit n r).0.lun ≡ unit.lun
selected_same nexus unit n (Err fault) = refl
selected_same nexus unit n (Ok parameters) = refl

unit_same : (nexus : NexusName) (bytes : List ℕ) (unit : UnitState) (command : UnitCommand) → (unit_done nexus bytes unit command).0.lun ≡ unit.lun
unfolding unit_done reserved_out
unit_same nexus bytes unit TestUnitReady = refl
unit_same nexus bytes unit (RequestSense n) = refl
unit_same nexus bytes unit (Inquiry page n) = refl
unit_same nexus bytes unit (ReserveIn fields) = refl
unit_same nexus bytes unit (ReserveOut fields) = refl
unit_same nexus bytes unit (ReportLuns fields) = refl
unit_same nexus bytes unit (ModeSense fields) = refl
unit_same nexus bytes unit (ModeSelect fields) = selected_same nexus unit fields.list_length _

disk_same : (came : DiskCame) (bytes : List ℕ) (unit : UnitState) (device : DeviceState) (command : DiskCommand)
    → (disk_done came bytes unit device command).0.lun ≡ unit.lun
disk_same came bytes unit (Disk disk) command = refl
disk_same came bytes unit (Tape tape) command = refl

tape_same : (came : TapeCame) (nexus : NexusName) (bytes : List ℕ) (unit : UnitState) (device : DeviceState) (command : TapeCommand)
    → (tape_performed came nexus bytes unit device command).0.lun ≡ unit.lun
tape_same came nexus bytes unit (Disk disk) command = refl
tape_same came nexus bytes unit (Tape tape) command = refl

carried_same : (came : CameOut) (nexus : NexusName) (bytes : List ℕ) (unit : UnitState) (command : Command)
    → (carried_out came nexus bytes unit command).0.lun ≡ unit.lun
carried_same came nexus bytes unit (to.Unit command) = unit_same nexus bytes unit command
carried_same came nexus bytes unit (to.Disk command) = disk_same (disk_came came) bytes unit unit.device command
carried_same came nexus bytes unit (to.Tape command) = tape_same (tape_came came) nexus bytes unit unit.device command

done_same : (came : CameOut) (nexus : NexusName) (bytes : List ℕ) (unit : UnitState) (r : Result Command Refusal)
    → (done_by came nexus bytes unit r).0.lun ≡ unit.lun
done_same came nexus bytes unit (Err (Refused sense)) = refl
done_same came nexus bytes unit (Err Conflict) = refl
done_same came nexus bytes unit (Err (Told code)) = refl
done_same came nexus bytes unit (Ok command) = carried_same came nexus bytes unit command

performed_same : (came : CameOut) (nexus : NexusName) (cdb bytes : List ℕ) (unit : UnitState) → (performed_as came nexus cdb bytes unit).0.lun ≡ unit.lun
unfolding performed_as
performed_same came nexus cdb bytes unit = done_same came nexus bytes unit (judged nexus cdb bytes unit)

answered_same : (nexus : NexusName) (cdb bytes : List ℕ) (touch : Touch) (old new : UnitState) (done : Outcome)
    → IsPerformed touch (λ came. performed_as came nexus cdb bytes old) old new done → new.lun ≡ old.lun
answered_same nexus cdb bytes touch old new done p =
    ap (λ (x : UnitState × Outcome). x.0.lun) p.answer ∙ performed_same p.came nexus cdb bytes old

pub result_same : {E : Type 0} (r : Result Outcome E) (nexus : NexusName) (cdb bytes : List ℕ) (touch : Touch) (old new : UnitState)
    → IfOk r (λ done. IsPerformed touch (λ came. performed_as came nexus cdb bytes old) old new done) → OnErr r (new ≡ old) → new.lun ≡ old.lun
result_same (Ok done) nexus cdb bytes touch old new performed same = answered_same nexus cdb bytes touch old new done performed
result_same (Err e) nexus cdb bytes touch old new performed same = ap (λ (unit : UnitState). unit.lun) same

-- one of them did it
pub numbers_set : (units : UnitStates) (at : ℕ) (unit d : UnitState) → unit.lun ≡ (get_or units at d).lun → numbers_of (set units at unit) ≡ numbers_of units
numbers_set units at unit d same = map-set_same (λ (unit : UnitState). unit.lun) units at unit d same
