-- The unit that a LUN names, as the code's list of units stands.
use Rattle.std.proofs.Common.{◌≡◌, ℕ, ◌<◌, List, true, false, length, set, get_or, Option, Some, None, sym, subst, refl}
use Rattle.scsi_sense.specs.Done.{Outcome}
use Rattle.scsi_sense.specs.Nexus.{NexusName}
use Rattle.scsi_unit.specs.Identity.{is_for_target, reported_luns, without_unit}
use Rattle.scsi_unit.specs.Lun.{lun_number}
use Rattle.scsi_unit.specs.Unit.{performed_as, touch_at, IsPerformed}
use Rattle.scsi_unit.specs.State.{UnitState}
use Rattle.scsi_unit.specs.Units.{UnitStates, unit_of, numbers_of, perform, IsAnsweredAt, AreAnswered}
use Rattle.scsi_unit.proofs.Lists.{get_or_any}

-- a place that was found is within the units
pub place_found : (units : UnitStates) (lun : List ℕ) (r : ℕ) → Some r ≡ unit_of units (lun_number lun) → r < length units
    → (at : ℕ) → unit_of units (lun_number lun) ≡ Some at → at < length units
place_found units lun r found below at named = let same : r ≡ at = cc in rw (← same) below

-- REPORT LUNS, to a unit at a place
pub luns_answered : (units : UnitStates) (nexus : NexusName) (cdb bytes : List ℕ) (at : ℕ) (done : Outcome) → is_for_target cdb ≡ true
    → done ≡ reported_luns (numbers_of units) cdb
    → AreAnswered nexus cdb bytes (Some at) units units done
luns_answered units nexus cdb bytes at done report answer = rw report (refl, answer)

-- another command, to a unit at a place: it answered, and the others are as before
pub unit_answered : (units : UnitStates) (nexus : NexusName) (cdb bytes : List ℕ) (at : ℕ) (d after : UnitState) (done : Outcome)
    → at < length units → is_for_target cdb ≡ false
    → IsPerformed (touch_at nexus cdb bytes (get_or units at d)) (λ came. performed_as came nexus cdb bytes (get_or units at d)) (get_or units at d) after done
    → AreAnswered nexus cdb bytes (Some at) units (set units at after) done
unit_answered units nexus cdb bytes at d after done lt other performed =
    let here : get_or units at after ≡ get_or units at d = get_or_any units at after d lt in
    let answered : IsAnsweredAt nexus cdb bytes at units (set units at after) done = record {
      unit = after;
      units = refl;
      performed =
          subst (λ (before : UnitState). IsPerformed (touch_at nexus cdb bytes before)
          (λ came. performed_as came nexus cdb bytes before) before after done)
          (sym here) performed;
    } in
    rw other answered

-- a LUN that names no unit
pub none_answered : (nexus : NexusName) (cdb bytes : List ℕ) (place : Option ℕ) (units : UnitStates) (done : Outcome) → place ≡ None
    → done ≡ without_unit cdb → AreAnswered nexus cdb bytes place units units done
none_answered nexus cdb bytes place units done none answer = rw none (refl, answer)

pub none_performed : (nexus : NexusName) (lun cdb bytes : List ℕ) (units : UnitStates) (done : Outcome) → unit_of units (lun_number lun) ≡ None
    → done ≡ without_unit cdb → (units, done) ≡ perform units nexus lun cdb bytes
unfolding perform
none_performed nexus lun cdb bytes units done none answer = rw (none, answer) refl
