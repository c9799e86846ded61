use Rattle.std.proofs.Common.{◌≡◌, sym, ap, refl, ◌∙◌}
use Rattle.std.proofs.lemmas.Result.{IfOk-weaker}
use Rattle.scsi_sense.specs.Done.{check_condition}
use Rattle.scsi_disk.specs.DiskDevice.{disk_view}
use Rattle.scsi_unit.specs.Device.{Disk, Tape}
use Rattle.scsi_unit.specs.State.{UnitState}
use Rattle.scsi_unit.proofs.Performed.{performed_defined, disk_did, no_disk}
use Rattle.scsi_unit.proofs.unit.Unit.carry_out.Goals.{in-Disk-device, in-Tape-device}
use Rattle.scsi_unit.proofs.unit.Unit.carry_out.Goals as goal

pub returns-in-Unit-clause-done : goal.returns-in-Unit-clause-done
returns-in-Unit-clause-done g c =
    rw c.in-Unit.is
    (IfOk-weaker c.carry_out_joined.result _ _
    (λ done answer. performed_defined _ _ c.args.self.now c.carry_out_joined.new.self done c.carry_out_joined.ensures.store answer)
    c.carry_out_joined.ensures.done)

pub returns-after-self-clause-done : goal.returns-after-self-clause-done
returns-after-self-clause-done g c =
    let unit : UnitState = c.args.self.now in
    rw c.in-Disk.is (elim c.match-self.branch [
      | in-Disk-device w ↦ (
          let after = disk_view w.carry_out.new.self in
          let is : unit.device ≡ Disk (disk_view w.in-Disk-device.disk) = ap (λ (u : UnitState). u.device) (sym c.self.view_is) ∙ rw w.in-Disk-device.is refl in
          rw (w.result-is, w.self-inside-is)
          (IfOk-weaker w.carry_out.result _ _
          (λ done did. disk_did c.in-Disk.command c.args.«data».now c.args.nexus.now unit (disk_view w.in-Disk-device.disk) after _ done is
          (ap (λ (u : UnitState). record u { device = Disk after }) c.self.view_is) did) w.carry_out.ensures.done))
      | in-Tape-device w ↦ (
          let is : unit.device ≡ Tape w.in-Tape-device.field-0 = ap (λ (u : UnitState). u.device) (sym c.self.view_is) ∙ rw w.in-Tape-device.is refl in
          rw (w.result-is, w.self-inside-is, c.self.view_is)
          (no_disk c.in-Disk.command c.args.«data».now c.args.nexus.now unit w.in-Tape-device.field-0 w.check_condition.result is
          (w.check_condition.ensures ∙ ap check_condition w.no_operation.ensures)))
    ])
