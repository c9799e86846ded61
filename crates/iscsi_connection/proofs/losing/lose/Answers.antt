use Rattle.std.proofs.Common.{◌≡◌, sym, ap, ◌∙◌, subst}
use Rattle.iscsi_pdu.specs.Header.{lun_field}
use Rattle.iscsi_login.specs.declared.session_params.SessionParams.{SessionParams}
use Rattle.scsi_sense.specs.Nexus.{NexusName}
use Rattle.scsi_unit.specs.Units.{AreSound, AreSure}
use Rattle.iscsi_session.specs.State.{SessionState}
use Rattle.iscsi_world.specs.World.{function_of, told_by}
use Rattle.iscsi_world.proofs.Carrying.{losing_runs, told_some, told_none}
use Rattle.iscsi_session.proofs.AtRest.{removing_eases}
use Rattle.iscsi_world.proofs.Sound.{told_sound, told_sure}
use Rattle.iscsi_connection.proofs.losing.lose.Goals as goal

-- it lost some, and its nexus is told
pub returns-then-has_lost : goal.returns-then-has_lost
returns-then-has_lost g c =
    let function = c.args.function.now in
    let told : c.tell.new.units ≡ told_by (function_of function) (lun_field function) c.params.result.now.nexus c.args.units.now = c.tell.ensures in
    let some = rw c.luns.ensures at c.remove-has_lost.ensures.some in
    record {
      runs = λ waiting. losing_runs function c.args.session.now c.remove-has_lost.new.self waiting c.args.units.now c.tell.new.units
          (rw c.luns.ensures at c.remove-has_lost.ensures.stands)
          (λ past s. told_some function past c.args.units.now c.tell.new.units c.remove-has_lost.result (some past s) c.if-has_lost.true
          (told ∙ ap (λ (nexus : NexusName). told_by (function_of function) (lun_field function) nexus c.args.units.now)
          (ap (λ (p : SessionParams). p.nexus) (c.params.ensures ∙ c.remove-has_lost.ensures.params ∙ ap (λ (x : SessionState). x.params) s.remembered))));
      back = λ sound. told_sound function c.params.result.now.nexus c.args.units.now (subst AreSound told sound);
      eases = λ waiting r. removing_eases _ c.args.session.now c.remove-has_lost.new.self waiting c.remove-has_lost.ensures.stands r;
      sure = λ sure. subst AreSure (sym told) (told_sure function c.params.result.now.nexus c.args.units.now sure);
      params = c.remove-has_lost.ensures.params;
      takes = c.remove-has_lost.ensures.takes;
    }

-- it lost none
pub returns-else-has_lost-clause-runs : goal.returns-else-has_lost-clause-runs
returns-else-has_lost-clause-runs g c = λ waiting.
    (let some = rw c.luns.ensures at c.remove-has_lost.ensures.some in
    losing_runs c.args.function.now c.args.session.now c.remove-has_lost.new.self waiting c.args.units.now c.args.units.now
    (rw c.luns.ensures at c.remove-has_lost.ensures.stands)
    (λ past s. told_none c.args.function.now past c.args.units.now c.remove-has_lost.result (some past s) c.if-has_lost.false))

pub returns-else-has_lost-clause-eases : goal.returns-else-has_lost-clause-eases
returns-else-has_lost-clause-eases g c = λ waiting r.
    removing_eases _ c.args.session.now c.remove-has_lost.new.self waiting c.remove-has_lost.ensures.stands r
