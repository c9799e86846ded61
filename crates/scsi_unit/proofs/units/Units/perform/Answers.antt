use Rattle.scsi_unit.proofs.Results.{on_err_any}
use Rattle.scsi_unit.proofs.Found.{none_answered, none_performed}
use Rattle.std.proofs.Common.{◌≡◌, ℕ, ◌<◌, ◌∙◌, subst, set, true, false, length, refl, ap, sym, arith}
use Rattle.std.proofs.lemmas.Result.{IfOk-weaker, on_err_weaker}
use Rattle.std.proofs.lemmas.List.{length-set, set-get_or}
use Rattle.scsi_unit.specs.Identity.{is_for_target, is_row_of_target}
use Rattle.scsi_unit.specs.Units.{unit_of, numbers_of}
use Rattle.scsi_unit.specs.Lun.{lun_number}
use Rattle.scsi_unit.specs.State.{UnitState}
use Rattle.scsi_unit.proofs.Numbers.{numbers_set, result_same}
use Rattle.scsi_unit.proofs.Found.{place_found, luns_answered, unit_answered}
use Rattle.scsi_unit.proofs.Sound.{none_came, answered_came, answered_exact, answered_sound, answered_back, answered_sure}
use Rattle.std.proofs.lemmas.Grind.{common_steps}
use Rattle.scsi_unit.proofs.units.Units.perform.Goals as goal

-- ---- REPORT LUNS

pub returns-then-is_for_target-clause-answered : goal.returns-then-is_for_target-clause-answered
returns-then-is_for_target-clause-answered g c =
    let report : is_for_target c.args.cdb ≡ true = sym (c.is_for_target.ensures ∙ ap is_row_of_target c.of-row.ensures) ∙ c.if-is_for_target.true in
    let known : c.as_slice.result.now ≡ numbers_of c.args.self.now = c.as_slice.ensures.value ∙ c.self.invariant ∙ ap numbers_of c.self.view_is in
    rw (← c.in-Some.ensures.value)
    (IfOk-weaker c.reported_luns.result _ _
    (λ done answer. luns_answered c.args.self.now c.args.nexus.now c.args.cdb c.args.«data».now c.in-Some.at done report answer)
    (rw known at c.reported_luns.ensures.done))

pub returns-then-is_for_target-clause-came : goal.returns-then-is_for_target-clause-came
returns-then-is_for_target-clause-came g c =
    let found = place_found c.args.self.now c.args.lun c.in-Some.at c.in-Some.ensures.value c.in-Some.ensures.bound in
    IfOk-weaker c.reported_luns.result _ _
    (λ done answered. answered_came c.args.nexus.now c.args.lun c.args.cdb c.args.«data».now c.args.self.now
    c.args.self.now done found answered) (returns-then-is_for_target-clause-answered g c)

pub returns-then-is_for_target-clause-exact : goal.returns-then-is_for_target-clause-exact
returns-then-is_for_target-clause-exact g c =
    let found = place_found c.args.self.now c.args.lun c.in-Some.at c.in-Some.ensures.value c.in-Some.ensures.bound in
    IfOk-weaker c.reported_luns.result _ _
    (λ done answered. answered_exact c.args.nexus.now c.args.lun c.args.cdb c.args.«data».now c.args.self.now
    c.args.self.now done found answered) (returns-then-is_for_target-clause-answered g c)

pub returns-then-is_for_target-clause-sound : goal.returns-then-is_for_target-clause-sound
returns-then-is_for_target-clause-sound g c =
    let found = place_found c.args.self.now c.args.lun c.in-Some.at c.in-Some.ensures.value c.in-Some.ensures.bound in
    IfOk-weaker c.reported_luns.result _ _
    (λ done answered. answered_sound c.args.nexus.now c.args.lun c.args.cdb c.args.«data».now c.args.self.now
    c.args.self.now done found refl answered) (returns-then-is_for_target-clause-answered g c)

-- ---- another command

pub index_mut-unit-requires : goal.index_mut-unit-requires
index_mut-unit-requires g c = subst (λ (n : ℕ). c.in-Some.at < n) (sym (c.self.inside.units.ok.0 ∙ ap length c.self.view_is)) c.in-Some.ensures.bound

pub returns-clause-answered : goal.returns-clause-answered
returns-clause-answered g c =
    let other : is_for_target c.args.cdb ≡ false = sym (c.is_for_target.ensures ∙ ap is_row_of_target c.of-row.ensures) ∙ c.if-is_for_target.false in
    rw (← c.in-Some.ensures.value, c.self.view_is)
    (IfOk-weaker c.perform_with.result _ _
    (λ done performed. unit_answered c.args.self.now c.args.nexus.now c.args.cdb
    c.args.«data».now c.in-Some.at c.index_mut-unit.result.now c.perform_with.new.self done
    c.in-Some.ensures.bound other (rw (c.index_mut-unit.ensures.value, c.self.view_is) at performed)) c.perform_with.ensures.done)

pub returns-clause-err : goal.returns-clause-err
returns-clause-err g c =
    on_err_weaker c.perform_with.result
    (λ same. ap (set c.self.inside.units.items c.in-Some.at) (same ∙ c.index_mut-unit.ensures.value)
    ∙ set-get_or c.self.inside.units.items c.in-Some.at _ ∙ c.self.view_is) c.perform_with.ensures.err

pub returns-clause-came : goal.returns-clause-came
returns-clause-came g c =
    let found = place_found c.args.self.now c.args.lun c.in-Some.at c.in-Some.ensures.value c.in-Some.ensures.bound in
    IfOk-weaker c.perform_with.result _ _
    (λ done answered. answered_came c.args.nexus.now c.args.lun c.args.cdb c.args.«data».now
    c.args.self.now _ done found answered) (returns-clause-answered g c)

pub returns-clause-exact : goal.returns-clause-exact
returns-clause-exact g c =
    let found = place_found c.args.self.now c.args.lun c.in-Some.at c.in-Some.ensures.value c.in-Some.ensures.bound in
    IfOk-weaker c.perform_with.result _ _
    (λ done answered. answered_exact c.args.nexus.now c.args.lun c.args.cdb c.args.«data».now
    c.args.self.now _ done found answered) (returns-clause-answered g c)

pub returns-clause-sound : goal.returns-clause-sound
returns-clause-sound g c =
    let found = place_found c.args.self.now c.args.lun c.in-Some.at c.in-Some.ensures.value c.in-Some.ensures.bound in
    let len : length (set c.self.inside.units.items c.in-Some.at c.perform_with.new.self) ≡ length c.args.self.now =
    simp length-set (ap length c.self.view_is) in
    IfOk-weaker c.perform_with.result _ _
    (λ done answered. answered_sound c.args.nexus.now c.args.lun c.args.cdb c.args.«data».now
    c.args.self.now _ done found len answered) (returns-clause-answered g c)

pub returns-clause-back : goal.returns-clause-back
returns-clause-back g c =
    let found = place_found c.args.self.now c.args.lun c.in-Some.at c.in-Some.ensures.value c.in-Some.ensures.bound in
    answered_back c.perform_with.result (unit_of c.args.self.now
    (lun_number c.args.lun)) c.args.nexus.now c.args.cdb c.args.«data».now c.args.self.now _ found
    (returns-clause-answered g c) (returns-clause-err g c)

pub returns-clause-sure : goal.returns-clause-sure
returns-clause-sure g c =
    let found = place_found c.args.self.now c.args.lun c.in-Some.at c.in-Some.ensures.value c.in-Some.ensures.bound in
    answered_sure c.perform_with.result (unit_of c.args.self.now
    (lun_number c.args.lun)) c.args.nexus.now c.args.cdb c.args.«data».now c.args.self.now _ found
    (returns-clause-answered g c) (returns-clause-err g c)

-- ---- the units keep their numbers

pub invariant_of-self : goal.invariant_of-self
invariant_of-self g c =
    c.self.invariant
    ∙ sym (numbers_set c.self.inside.units.items c.in-Some.at c.perform_with.new.self _
    (result_same c.perform_with.result c.args.nexus.now c.args.cdb c.args.«data».now _ c.index_mut-unit.result.now c.perform_with.new.self
    c.perform_with.ensures.done c.perform_with.ensures.err ∙ ap (λ (unit : UnitState). unit.lun) c.index_mut-unit.ensures.value))

-- ---- there is no such unit

pub returns-in_default-clause-answered : goal.returns-in_default-clause-answered
returns-in_default-clause-answered g c =
    IfOk-weaker c.without_unit.result _ _
    (λ done answer. none_answered c.args.nexus.now c.args.cdb c.args.«data».now (unit_of c.args.self.now (lun_number c.args.lun)) c.args.self.now done
    (sym c.position.ensures.value ∙ c.in_default.is) answer) c.without_unit.ensures.done

pub returns-in_default-clause-came : goal.returns-in_default-clause-came
returns-in_default-clause-came g c =
    IfOk-weaker c.without_unit.result _ _
    (λ done answer. none_came c.args.nexus.now c.args.lun c.args.cdb c.args.«data».now c.args.self.now done
    (sym c.position.ensures.value ∙ c.in_default.is) answer) c.without_unit.ensures.done

pub returns-in_default-clause-exact : goal.returns-in_default-clause-exact
returns-in_default-clause-exact g c =
    IfOk-weaker c.without_unit.result _ _
    (λ done answer trusted. none_performed c.args.nexus.now c.args.lun c.args.cdb c.args.«data».now c.args.self.now done
    (sym c.position.ensures.value ∙ c.in_default.is) answer) c.without_unit.ensures.done

pub returns-in_default-clause-sound : goal.returns-in_default-clause-sound
returns-in_default-clause-sound g c =
    IfOk-weaker c.without_unit.result _ _
    (λ done answer sound. none_performed c.args.nexus.now c.args.lun c.args.cdb c.args.«data».now c.args.self.now done
    (sym c.position.ensures.value ∙ c.in_default.is) answer) c.without_unit.ensures.done

-- ---- no unit changes

pub returns-then-is_for_target-clause-back : goal.returns-then-is_for_target-clause-back
returns-then-is_for_target-clause-back g c = λ sound. sound

pub returns-then-is_for_target-clause-sure : goal.returns-then-is_for_target-clause-sure
returns-then-is_for_target-clause-sure g c = λ sure. sure

pub returns-then-is_for_target-clause-err : goal.returns-then-is_for_target-clause-err
returns-then-is_for_target-clause-err g c = on_err_any c.reported_luns.result refl

pub returns-in_default-clause-back : goal.returns-in_default-clause-back
returns-in_default-clause-back g c = λ sound. sound

pub returns-in_default-clause-sure : goal.returns-in_default-clause-sure
returns-in_default-clause-sure g c = λ sure. sure

pub returns-in_default-clause-err : goal.returns-in_default-clause-err
returns-in_default-clause-err g c = on_err_any c.without_unit.result refl

pub returns-clause-given : goal.returns-clause-given
returns-clause-given = grind (arith, common_steps)

pub returns-in_default-clause-given : goal.returns-in_default-clause-given
returns-in_default-clause-given = grind (arith, common_steps)

pub returns-then-is_for_target-clause-given : goal.returns-then-is_for_target-clause-given
returns-then-is_for_target-clause-given = grind (arith, common_steps)
