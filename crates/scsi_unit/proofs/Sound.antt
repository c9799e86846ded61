-- What follows for all units from what the unit that a LUN names answered.
use Rattle.std.proofs.Common.{◌≡◌, ℕ, ◌<◌, List, [], ◌∷◌, length, map, get_or, Bool, true, false, Option, Some, None, Result, Ok, Err, IfOk, OnErr, refl, sym, ap, ◌∙◌, subst, arith, ◌⊎◌, inl, inr}
use Rattle.std.proofs.lemmas.Bool.Decides.{eqb_tells}
use Rattle.std.proofs.lemmas.List.{get_or-map, length-map, length-set, get_or_default, get_or-set_same, get_or-set_other}
use Rattle.std.proofs.lemmas.List.Elements.{All-set}
use Rattle.std.proofs.lemmas.Option.{slice_get-get_or}
use Rattle.scsi_sense.specs.Done.{Outcome}
use Rattle.scsi_sense.specs.Nexus.{NexusName}
use Rattle.scsi_unit.specs.Device.{DeviceState, StoreState, store_of}
use Rattle.scsi_unit.specs.CameOut.{CameOut, AsDefined, touches}
use Rattle.scsi_unit.specs.State.{UnitState}
use Rattle.scsi_unit.specs.Identity.{without_unit, is_for_target, reported_luns}
use Rattle.scsi_unit.specs.Lun.{lun_number}
use Rattle.scsi_unit.specs.Unit.{touch_at, joined_unit, left_unit}
use Rattle.scsi_unit.specs.Units.{UnitStates, unit_of, numbers_of, performed_at, come_out, perform, join, leave, IsSoundStore, AreSound, IsSureStore, AreSure, IsAnsweredAt, AreAnswered, IsTrustedStore, IsTrusted}
use Rattle.scsi_unit.proofs.CameOut.{way_defined, unit_as_defined, unit_exact, unit_back, unit_sure}

-- ---- the unit at a place

unit_here : (nexus : NexusName) (cdb bytes : List ℕ) (at : ℕ) (old new : UnitStates) (done : Outcome)
    (answered : IsAnsweredAt nexus cdb bytes at old new done) (d : UnitState) → at < length old
    → get_or new at d ≡ answered.unit
unit_here nexus cdb bytes at old new done answered d lt = ap (λ
    (units : UnitStates). get_or units at d) answered.units ∙ get_or-set_same old at answered.unit d lt

at_back : (nexus : NexusName) (cdb bytes : List ℕ) (at : ℕ) (old new : UnitStates) (done : Outcome) → at < length old
    → IsAnsweredAt nexus cdb bytes at old new done → AreSound new → AreSound old
at_back nexus cdb bytes at old new done lt answered sound i d below = elim (eqb_tells i at) [
  | inl same ↦ (
      let long : at < length new = rw answered.units (simp length-set lt) in
      let after : IsSoundStore (store_of answered.unit.device) = subst (λ (unit : UnitState). IsSoundStore
      (store_of unit.device)) (unit_here nexus cdb bytes at old new done answered d lt) (sound at d long) in
      let before = unit_back nexus cdb bytes answered.performed after in
      subst (λ (k : ℕ). IsSoundStore (store_of (get_or old k d).device)) (sym same.1) (subst (λ
      (unit : UnitState). IsSoundStore (store_of unit.device)) (get_or_default old at answered.unit d lt) before))
  | inr differ ↦ (
      let there : get_or new i d ≡ get_or old i d = ap (λ (units : UnitStates). get_or units i d) answered.units
      ∙ get_or-set_other old at i answered.unit d differ.1 in
      let long : i < length new = rw answered.units (simp length-set below) in
      subst (λ (unit : UnitState). IsSoundStore (store_of unit.device)) there (sound i d long))
]

at_sure : (nexus : NexusName) (cdb bytes : List ℕ) (at : ℕ) (old new : UnitStates) (done : Outcome) → at < length old
    → IsAnsweredAt nexus cdb bytes at old new done → AreSure old → AreSure new
at_sure nexus cdb bytes at old new done lt answered sure =
    let after = unit_sure nexus cdb bytes answered.performed (sure at answered.unit lt) in
    subst AreSure (sym answered.units) (All-set (λ (unit : UnitState). IsSureStore (store_of unit.device)) old at answered.unit after sure)

at_exact : (nexus : NexusName) (cdb bytes : List ℕ) (at : ℕ) (old new : UnitStates) (done : Outcome) → at < length old → is_for_target cdb ≡ false
    → IsAnsweredAt nexus cdb bytes at old new done → IsTrusted nexus cdb bytes (Some at) old new → (new, done) ≡ performed_at AsDefined old nexus cdb bytes (Some at)
at_exact nexus cdb bytes at old new done lt other answered trusted =
    let u = answered.unit in
    let here : get_or new at u ≡ u = unit_here nexus cdb bytes at old new done answered u lt in
    let exact = unit_exact nexus cdb bytes answered.performed
    (subst (λ (unit : UnitState). touches (touch_at nexus cdb bytes (get_or old at u)) ≡ true → IsTrustedStore
    (store_of (get_or old at u).device) (store_of unit.device)) here (trusted u)) in
    rw (slice_get-get_or old at u lt, other, way_defined (touch_at nexus cdb bytes (get_or old at u)), ← exact, answered.units) refl

-- REPORT LUNS
luns_exact : (units : UnitStates) (nexus : NexusName) (cdb bytes : List ℕ) (at : ℕ) (done : Outcome) → at < length units → is_for_target cdb ≡ true
    → done ≡ reported_luns (numbers_of units) cdb → (units, done) ≡ performed_at AsDefined units nexus cdb bytes (Some at)
luns_exact [] nexus cdb bytes at done lt report answer = absurd (omega arith)
luns_exact (d ∷ units) nexus cdb bytes at done lt report answer = rw (slice_get-get_or (d ∷ units) at d lt, report, answer) refl

-- ---- the unit that a LUN names, if any

-- a place that was found
abbrev IsPlace : Option ℕ → UnitStates → Type 0
IsPlace place units = (at : ℕ) → place ≡ Some at → at < length units

some_exact : (report : Bool) (nexus : NexusName) (cdb bytes : List ℕ) (at : ℕ) (old new : UnitStates) (done : Outcome) → is_for_target cdb ≡ report
    → at < length old
    → AreAnswered nexus cdb bytes (Some at) old new done → IsTrusted nexus cdb bytes (Some at) old new →
    (new, done) ≡ performed_at AsDefined old nexus cdb bytes (Some at)
some_exact true nexus cdb bytes at old new done report lt answered trusted =
    let both = rw report at answered in rw (both.0) (luns_exact old nexus cdb bytes at done lt report both.1)
some_exact false nexus cdb bytes at old new done report lt answered trusted = at_exact nexus cdb bytes at old new done lt report (rw report at answered) trusted

exact_at : (place : Option ℕ) (nexus : NexusName) (cdb bytes : List ℕ) (old new : UnitStates) (done : Outcome) → IsPlace place old
    → AreAnswered nexus cdb bytes place old new done
    → IsTrusted nexus cdb bytes place old new → (new, done) ≡ performed_at AsDefined old nexus cdb bytes place
exact_at None nexus cdb bytes old new done found answered trusted = rw (answered.0, answered.1) refl
exact_at (Some at) nexus cdb bytes old new done found answered trusted = some_exact
    (is_for_target cdb) nexus cdb bytes at old new done refl (found at refl) answered trusted

-- nothing changed, or the unit at a place did the command
abbrev IsSameOrAt : NexusName → List ℕ → List ℕ → UnitStates → UnitStates → Outcome → Type 0
IsSameOrAt nexus cdb bytes old new done = (new ≡ old) ⊎ ((at : ℕ) × (at < length old) × IsAnsweredAt nexus cdb bytes at old new done)

some_changed : (report : Bool) (nexus : NexusName) (cdb bytes : List ℕ) (at : ℕ) (old new : UnitStates) (done : Outcome)
    → is_for_target cdb ≡ report → at < length old → AreAnswered nexus cdb bytes (Some at) old new done → IsSameOrAt nexus cdb bytes old new done
some_changed true nexus cdb bytes at old new done report lt answered = let both = rw report at answered in inl (both.0)
some_changed false nexus cdb bytes at old new done report lt answered = inr (at, lt, rw report at answered)

changed_at : (place : Option ℕ) (nexus : NexusName) (cdb bytes : List ℕ) (old new : UnitStates) (done : Outcome)
    → IsPlace place old → AreAnswered nexus cdb bytes place old new done → IsSameOrAt nexus cdb bytes old new done
changed_at None nexus cdb bytes old new done found answered = inl (answered.0)
changed_at (Some at) nexus cdb bytes old new done found answered = some_changed
    (is_for_target cdb) nexus cdb bytes at old new done refl (found at refl) answered

back_at : (place : Option ℕ) (nexus : NexusName) (cdb bytes : List ℕ) (old new : UnitStates) (done : Outcome)
    → IsPlace place old → AreAnswered nexus cdb bytes place old new done → AreSound new → AreSound old
back_at place nexus cdb bytes old new done found answered sound = elim (changed_at place nexus cdb bytes old new done found answered) [
  | inl same ↦ subst AreSound same sound
  | inr there ↦ at_back nexus cdb bytes (there.0) old new done (there.1) (there.2) sound
]

sure_at : (place : Option ℕ) (nexus : NexusName) (cdb bytes : List ℕ) (old new : UnitStates) (done : Outcome)
    → IsPlace place old → AreAnswered nexus cdb bytes place old new done → AreSure old → AreSure new
sure_at place nexus cdb bytes old new done found answered sure = elim (changed_at place nexus cdb bytes old new done found answered) [
  | inl same ↦ subst AreSure (sym same) sure
  | inr there ↦ at_sure nexus cdb bytes (there.0) old new done (there.1) (there.2) sure
]

-- a store that was sound and is sound did not fail
sound_between : (old new : StoreState) → IsSoundStore old → IsSoundStore new → IsTrustedStore old new
sound_between old new before sound =
    record { honest = sound.honest; none = record { same = sound.unfailed ∙ sym before.unfailed; known = rw sound.unfailed (omega arith) } }

trusted_at : (place : Option ℕ) (nexus : NexusName) (cdb bytes : List ℕ) (old new : UnitStates) → IsPlace place old → IsPlace place new
    → AreSound old → AreSound new → IsTrusted nexus cdb bytes place old new
trusted_at None nexus cdb bytes old new was found before sound = tt
trusted_at (Some at) nexus cdb bytes old new was found before sound =
    λ unit touched. sound_between _ _ (before at unit (was at refl)) (sound at unit (found at refl))

-- ---- how it came out

-- of the unit that stands at a place, where it names one
abbrev ComesOut : Option ℕ → NexusName → List ℕ → List ℕ → UnitStates → UnitStates → Outcome → Type 0
ComesOut place nexus cdb bytes old new done =
    (came : CameOut) × ((new, done) ≡ performed_at came old nexus cdb bytes place) × (AreSound new → came ≡ AsDefined)

at_came : (nexus : NexusName) (cdb bytes : List ℕ) (at : ℕ) (old new : UnitStates) (done : Outcome) → at < length old → is_for_target cdb ≡ false
    → (answered : IsAnsweredAt nexus cdb bytes at old new done) → (new, done) ≡ performed_at answered.performed.came old nexus cdb bytes (Some at)
at_came nexus cdb bytes at old new done lt other answered =
    let unit = answered.unit in
    let before = get_or old at unit in
    rw (slice_get-get_or old at unit lt, other, answered.performed.possible, ← answered.performed.answer, answered.units) refl

at_as_defined : (nexus : NexusName) (cdb bytes : List ℕ) (at : ℕ) (old new : UnitStates) (done : Outcome) → at < length old
    → (answered : IsAnsweredAt nexus cdb bytes at old new done) → AreSound new → answered.performed.came ≡ AsDefined
at_as_defined nexus cdb bytes at old new done lt answered sound =
    let unit = answered.unit in
    let here : get_or new at unit ≡ unit = unit_here nexus cdb bytes at old new done answered unit lt in
    let long : at < length new = rw answered.units (simp length-set lt) in
    let before = at_back nexus cdb bytes at old new done lt answered sound in
    let after : IsSoundStore (store_of unit.device) = subst (λ (u : UnitState). IsSoundStore (store_of u.device)) here (sound at unit long) in
    unit_as_defined nexus cdb bytes answered.performed (λ touched. sound_between _ _ (before at unit lt) after)

some_came : (report : Bool) (nexus : NexusName) (cdb bytes : List ℕ) (at : ℕ) (old new : UnitStates) (done : Outcome)
    → is_for_target cdb ≡ report → at < length old → AreAnswered nexus cdb bytes (Some at) old new done
    → ComesOut (Some at) nexus cdb bytes old new done
some_came true nexus cdb bytes at old new done report lt answered =
    let both = rw report at answered in (AsDefined, rw (both.0) (luns_exact old nexus cdb bytes at done lt report both.1), λ sound. refl)
some_came false nexus cdb bytes at old new done report lt answered =
    let there : IsAnsweredAt nexus cdb bytes at old new done = rw report at answered in
    (there.performed.came, at_came nexus cdb bytes at old new done lt report there, at_as_defined nexus cdb bytes at old new done lt there)

came_at : (place : Option ℕ) (nexus : NexusName) (cdb bytes : List ℕ) (old new : UnitStates) (done : Outcome)
    → IsPlace place old → AreAnswered nexus cdb bytes place old new done → ComesOut place nexus cdb bytes old new done
came_at None nexus cdb bytes old new done found answered = (AsDefined, rw (answered.0, answered.1) refl, λ sound. refl)
came_at (Some at) nexus cdb bytes old new done found answered = some_came
    (is_for_target cdb) nexus cdb bytes at old new done refl (found at refl) answered

-- ---- the clauses

pub answered_came : (nexus : NexusName) (lun cdb bytes : List ℕ) (old new : UnitStates) (done : Outcome) → IsPlace (unit_of old (lun_number lun)) old
    → AreAnswered nexus cdb bytes (unit_of old (lun_number lun)) old new done
    → (came : CameOut) × ((new, done) ≡ come_out came old nexus lun cdb bytes) × (AreSound new → came ≡ AsDefined)
unfolding come_out
answered_came nexus lun cdb bytes old new done found answered = came_at (unit_of old (lun_number lun)) nexus cdb bytes old new done found answered

pub none_came : (nexus : NexusName) (lun cdb bytes : List ℕ) (units : UnitStates) (done : Outcome) → unit_of units (lun_number lun) ≡ None
    → done ≡ without_unit cdb
    → (came : CameOut) × ((units, done) ≡ come_out came units nexus lun cdb bytes) × (AreSound units → came ≡ AsDefined)
unfolding come_out
none_came nexus lun cdb bytes units done named answer = (AsDefined, rw (named, answer) refl, λ sound. refl)

pub answered_exact : (nexus : NexusName) (lun cdb bytes : List ℕ) (old new : UnitStates) (done : Outcome) → IsPlace (unit_of old (lun_number lun)) old
    → AreAnswered nexus cdb bytes (unit_of old (lun_number lun)) old new done → IsTrusted nexus cdb bytes (unit_of old (lun_number lun)) old new
    → (new, done) ≡ perform old nexus lun cdb bytes
unfolding perform
answered_exact nexus lun cdb bytes old new done found answered trusted = exact_at (unit_of old
    (lun_number lun)) nexus cdb bytes old new done found answered trusted

pub answered_sound : (nexus : NexusName) (lun cdb bytes : List ℕ) (old new : UnitStates) (done : Outcome)
    → IsPlace (unit_of old (lun_number lun)) old → length new ≡ length old
    → AreAnswered nexus cdb bytes (unit_of old (lun_number lun)) old new done → AreSound new → (new, done) ≡ perform old nexus lun cdb bytes
answered_sound nexus lun cdb bytes old new done found len answered sound =
    let place = unit_of old (lun_number lun) in
    let before = back_at place nexus cdb bytes old new done found answered sound in
    answered_exact nexus lun cdb bytes old new done found answered (trusted_at place nexus cdb bytes old new found
    (λ at is. rw len (found at is)) before sound)

-- where it was answered, or nothing changed
pub answered_back : {E : Type 0} (r : Result Outcome E) (place : Option ℕ) (nexus : NexusName) (cdb bytes : List ℕ) (old new : UnitStates) → IsPlace place old
    → IfOk r (AreAnswered nexus cdb bytes place old new) → OnErr r (new ≡ old) → AreSound new → AreSound old
answered_back (Ok done) place nexus cdb bytes old new found answered same sound = back_at place nexus cdb bytes old new done found answered sound
answered_back (Err e) place nexus cdb bytes old new found answered same sound = subst AreSound same sound

pub answered_sure : {E : Type 0} (r : Result Outcome E) (place : Option ℕ) (nexus : NexusName) (cdb bytes : List ℕ) (old new : UnitStates) → IsPlace place old
    → IfOk r (AreAnswered nexus cdb bytes place old new) → OnErr r (new ≡ old) → AreSure old → AreSure new
answered_sure (Ok done) place nexus cdb bytes old new found answered same sure = sure_at place nexus cdb bytes old new done found answered sure
answered_sure (Err e) place nexus cdb bytes old new found answered same sure = subst AreSure (sym same) sure

-- ---- who is joined does not count

AreSound-map : (f : UnitState → UnitState) (units : UnitStates) → ((unit : UnitState) → (f unit).device ≡ unit.device)
    → AreSound (map f units) → AreSound units
AreSound-map f units same sound i d lt =
    let there : (get_or (map f units) i (f d)).device ≡ (get_or units i d).device = ap (λ
    (unit : UnitState). unit.device) (get_or-map f units i d (f d) lt) ∙ same (get_or units i d) in
    subst (λ (device : DeviceState). IsSoundStore (store_of device)) there (sound i (f d) (simp length-map lt))

pub AreSound-join : (nexus : NexusName) (units : UnitStates) → AreSound (join nexus units) → AreSound units
unfolding join
AreSound-join nexus units sound = AreSound-map (joined_unit nexus) units (λ unit. refl) sound

pub AreSound-leave : (nexus : NexusName) (units : UnitStates) → AreSound (leave nexus units) → AreSound units
unfolding leave
AreSound-leave nexus units sound = AreSound-map (left_unit nexus) units (λ unit. refl) sound
