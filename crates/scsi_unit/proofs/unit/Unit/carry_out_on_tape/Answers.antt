use Rattle.std.proofs.Common.{◌≡◌, true, false, refl, sym, ap, ◌∙◌}
use Rattle.scsi_sense.specs.Done.{check_condition}
use Rattle.scsi_disk.specs.DiskDevice.{disk_view}
use Rattle.scsi_unit.specs.Device.{Disk, Tape}
use Rattle.scsi_unit.specs.State.{UnitState}
use Rattle.scsi_unit.specs.TapeCommands.{loads}
use Rattle.scsi_unit.proofs.TapeDone.{tape_did_to}
use Rattle.scsi_unit.proofs.Performed.{no_tape}
use Rattle.scsi_unit.proofs.unit.Unit.carry_out_on_tape.Goals.{then-loads, else-loads}
use Rattle.scsi_unit.proofs.unit.Unit.carry_out_on_tape.Goals as goal

pub returns-clause-done : goal.returns-clause-done
returns-clause-done g c =
    let unit : UnitState = c.args.self.now in
    let on = c.in-Tape.tape in
    let is : unit.device ≡ Tape on = ap (λ (u : UnitState). u.device) (sym c.self.view_is) ∙ rw c.in-Tape.is refl in
    let loaded : c.loads-loads.result ≡ loads c.args.command on.tape.is_loaded =
    c.loads-loads.ensures ∙ ap (loads c.args.command) c.is_loaded.ensures in
    tape_did_to c.args.command c.args.«data».now c.args.nexus.now unit on c.carry_out.new.tape c.if-loads.self c.in_ok-done.done is
    c.in_ok-done.ensures.done (elim c.if-loads.branch [
      | then-loads w ↦ (let yes : loads c.args.command on.tape.is_loaded ≡ true = sym loaded ∙ w.if-loads.true in w.self-is ∙ rw (← c.self.view_is, yes) w.medium_changed.ensures)
      | else-loads w ↦ (let no : loads c.args.command on.tape.is_loaded ≡ false = sym loaded ∙ w.if-loads.false in w.self-is ∙ rw (← c.self.view_is, no) refl)
    ])

pub returns-in_default-clause-done : goal.returns-in_default-clause-done
returns-in_default-clause-done g c =
    let unit : UnitState = c.args.self.now in
    let is : unit.device ≡ Disk (disk_view c.in_default.field-0) = ap (λ (u : UnitState). u.device) (sym c.self.view_is) ∙ rw c.in_default.is refl in
    rw c.self.view_is
    (no_tape c.args.command c.args.«data».now c.args.nexus.now unit (disk_view c.in_default.field-0) c.check_condition.result is
    (c.check_condition.ensures ∙ ap check_condition c.no_operation.ensures))
