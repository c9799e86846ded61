use Rattle.std.proofs.Common.{◌≡◌, Err, Result, sym, ap, ◌∙◌}
use Rattle.scsi_cdb.specs.declared.command.Command.{Command}
use Rattle.scsi_unit.specs.Device.{device_view, store_of}
use Rattle.scsi_unit.specs.CameOut.{AsDefined}
use Rattle.scsi_unit.specs.State.{UnitState}
use Rattle.scsi_unit.specs.JoinedList.{JoinedState}
use Rattle.scsi_unit.specs.Checks.{judged}
use Rattle.scsi_unit.specs.Unit.{done_by, refused_with, performed_as}
use Rattle.scsi_unit.specs.declared.refusal.Refusal.{Refusal}
use Rattle.scsi_unit.proofs.Performed.{performed_defined}
use Rattle.scsi_unit.proofs.unit.Unit.perform_with.Goals as goal

pub returns-in-Err-clause-done : goal.returns-in-Err-clause-done
unfolding performed_as
returns-in-Err-clause-done g c =
    let unit : UnitState = c.args.self.now in
    let nexus = c.args.nexus.now in
    let bytes = c.args.«data».now in
    let inside = c.self.inside in
    let looked : JoinedState → UnitState = λ joined. record {
      lun = inside.lun;
      serial = inside.serial;
      device = device_view inside.device;
      reservations = inside.reservations;
      joined = joined.items;
    } in
    let same : looked c.look_for-attention.new.self ≡ unit = ap looked c.look_for-attention.ensures.same ∙ c.self.view_is in
    let refusal : judged nexus c.args.cdb bytes unit ≡ Err c.in-Err.refusal =
    sym (c.judge.ensures.judged ∙ ap (judged nexus c.args.cdb bytes) same) ∙ c.in-Err.is in
    performed_defined _ _ unit c.refuse.new.self c.refuse.result
    (c.refuse.ensures.store ∙ ap (λ (u : UnitState). store_of u.device) c.self.view_is)
    (c.refuse.ensures.refused ∙ ap (λ (u : UnitState). refused_with nexus u c.in-Err.refusal) same
    ∙ sym (ap (λ (r : Result Command Refusal). done_by AsDefined nexus bytes unit r) refusal))
