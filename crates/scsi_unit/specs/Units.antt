-- The logical units of one target, and what a command does to them.
use Rattle.std.specs.Prelude.{◌≡◌, ℕ, All, IsTrue, List, map, true, position, ◌==◌, Option, Some, None, option_and_then, slice_get, slice_set, slice_index_or, MatchBool, if◌then◌else◌}
use Rattle.scsi_sense.specs.Done.{Outcome}
use Rattle.scsi_sense.specs.Nexus.{NexusName}
use Rattle.scsi_sense.specs.declared.condition.Attention.{Attention}
use Rattle.media_store.specs.Failures.{NoneFailed}
use Rattle.scsi_unit.specs.Device.{DeviceState, StoreState, store_of}
use Rattle.scsi_unit.specs.CameOut.{CameOut, AsDefined, touches}
use Rattle.scsi_unit.specs.State.{UnitState}
use Rattle.scsi_unit.specs.Identity.{without_unit, is_for_target, reported_luns}
use Rattle.scsi_unit.specs.Lun.{lun_number}
use Rattle.scsi_unit.specs.Unit.{joined_unit, left_unit, raised_unit, raised_unit_for_all, where_named, performed_as, came_out_at, touch_at, IsPerformed}

abbrev pub UnitStates : Type 0
UnitStates = List UnitState

-- own: for a nexus that joins the power-on attention is pending on each unit, and no other, even if it was joined
unfoldable pub join : NexusName → UnitStates → UnitStates
join nexus units = map (joined_unit nexus) units

unfoldable pub leave : NexusName → UnitStates → UnitStates
leave nexus units = map (left_unit nexus) units

-- ---- unit attentions (SAM-5 "Unit attention condition")

-- established for one nexus by the unit that a LUN field names
unfoldable pub raised_at : NexusName → List ℕ → Attention → UnitStates → UnitStates
raised_at nexus lun attention units = map (where_named lun (raised_unit nexus attention)) units

-- established for every nexus that is joined to that unit
unfoldable pub raised_for_all_at : List ℕ → Attention → UnitStates → UnitStates
raised_for_all_at lun attention units = map (where_named lun (raised_unit_for_all attention)) units

-- established for every nexus by every unit
unfoldable pub raised_everywhere : Attention → UnitStates → UnitStates
raised_everywhere attention units = map (raised_unit_for_all attention) units

-- ---- commands

-- the place of the unit that a LUN names
abbrev pub unit_of : UnitStates → Option ℕ → Option ℕ
unit_of units number = option_and_then (λ n. position (λ unit. unit.lun == n) units) number

-- the numbers of the units
abbrev pub numbers_of : UnitStates → List ℕ
numbers_of units = map (λ unit. unit.lun) units

-- the unit at a place performs the command; REPORT LUNS is of all units
abbrev pub performed_by : CameOut → UnitStates → NexusName → List ℕ → List ℕ → ℕ → Option UnitState → UnitStates × Outcome
performed_by came units nexus cdb bytes at None = (units, without_unit cdb)
performed_by came units nexus cdb bytes at (Some unit) =
    if is_for_target cdb then (units, reported_luns (numbers_of units) cdb)
    else let p = came_out_at came nexus cdb bytes unit in (slice_set units at p.0, p.1)

abbrev pub performed_at : CameOut → UnitStates → NexusName → List ℕ → List ℕ → Option ℕ → UnitStates × Outcome
performed_at came units nexus cdb bytes None = (units, without_unit cdb)
performed_at came units nexus cdb bytes (Some at) = performed_by came units nexus cdb bytes at (slice_get units at)

-- What a command with this data does, by how it came out: the units after it, and its outcome. The first check that
-- fails determines the answer (own, after SPC-4). The order is unit, operation code, attention, reservation, ready,
-- fields, range, length of the data, write protection. How it came out counts only if no check refuses it, it touches
-- its medium, and the medium can behave so.
unfoldable pub come_out : CameOut → UnitStates → NexusName → List ℕ → List ℕ → List ℕ → UnitStates × Outcome
come_out came units nexus lun cdb bytes = performed_at came units nexus cdb bytes (unit_of units (lun_number lun))

-- the same if no medium fails
unfoldable pub perform : UnitStates → NexusName → List ℕ → List ℕ → List ℕ → UnitStates × Outcome
perform units nexus lun cdb bytes = performed_at AsDefined units nexus cdb bytes (unit_of units (lun_number lun))

-- ---- soundness

-- own: a store of which every answer agreed, and of which no call has failed
pub record IsSoundStore (store : StoreState) : Type 0 where
  pub honest : IsTrue store.honest
  pub unfailed : store.failures ≡ 0

abbrev pub IsSoundDevice : DeviceState → Type 0
IsSoundDevice device = IsSoundStore (store_of device)

-- own: the stores of all units are sound
abbrev pub AreSound : UnitStates → Type 0
AreSound units = All (λ unit. IsSoundDevice unit.device) units

-- own: a store that is sound, and stays so whatever is requested of it
pub record IsSureStore (store : StoreState) : Type 0 where
  pub sound : IsSoundStore store
  pub steady : IsTrue store.steady

abbrev pub IsSureDevice : DeviceState → Type 0
IsSureDevice device = IsSureStore (store_of device)

-- own: the stores of all units are sure
abbrev pub AreSure : UnitStates → Type 0
AreSure units = All (λ unit. IsSureDevice unit.device) units

-- ---- possible outcomes of a command

-- own: of one to the unit at a place, whatever its medium does. The other units are as before.
pub record IsAnsweredAt (nexus : NexusName) (cdb bytes : List ℕ) (at : ℕ) (old new : UnitStates) (done : Outcome) : Type 0 where
  pub unit : UnitState
  pub units : new ≡ slice_set old at unit
  pub performed :
      let before = slice_index_or old at unit in
      IsPerformed (touch_at nexus cdb bytes before) (λ came. performed_as came nexus cdb bytes before) before unit done

-- own: of one to the unit that a LUN names, or to none if it names none
abbrev pub AreAnswered : NexusName → List ℕ → List ℕ → Option ℕ → UnitStates → UnitStates → Outcome → Type 0
AreAnswered nexus cdb bytes None old new done = (new ≡ old) × (done ≡ without_unit cdb)
AreAnswered nexus cdb bytes (Some at) old new done =
    MatchBool (is_for_target cdb) ((new ≡ old) × (done ≡ reported_luns (numbers_of old) cdb)) (IsAnsweredAt nexus cdb bytes at old new done)

-- own: a store is still honest, and none of its calls failed
pub record IsTrustedStore (old new : StoreState) : Type 0 where
  pub honest : IsTrue new.honest
  pub none : NoneFailed old.failures new.failures

-- own: the store of the unit that a LUN names is trusted, if it names one and the command touches its medium
abbrev pub IsTrusted : NexusName → List ℕ → List ℕ → Option ℕ → UnitStates → UnitStates → Type 0
IsTrusted nexus cdb bytes None old new = Unit {0}
IsTrusted nexus cdb bytes (Some at) old new =
    (unit : UnitState) → touches (touch_at nexus cdb bytes (slice_index_or old at unit)) ≡ true
    → IsTrustedStore (store_of (slice_index_or old at unit).device) (store_of (slice_index_or new at unit).device)
