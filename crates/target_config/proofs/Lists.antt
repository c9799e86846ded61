-- Tests of units and of targets, by what a clause sees of them.
use Rattle.std.proofs.Common.{◌≡◌, ℕ, ◌+◌, ◌-◌, ◌<◌, ◌≤◌, ℤ, Bool, true, false, ◌||◌, List, [], ◌∷◌, length, take, drop, get_or, refl, ap}
use Rattle.std.specs.Prelude.{bytes_eq, string_bytes}
use Rattle.std.specs.Ordering.{int_eq}
use Rattle.std.specs.List.{list_any, list_all}
use Rattle.std.proofs.lemmas.Bool.{le-leb}
use Rattle.std.proofs.lemmas.List.{drop_more, length-drop, length-map}
use Rattle.std.proofs.Math.Seq.{take-length}
use Rattle.std.proofs.lemmas.List.Folds.{list_all-map}
use Rattle.target_config.specs.Configuration.{UnitEntry, TargetEntry, unit_view, units_view, target_view, targets_view, configuration_view, names_of}
use Rattle.target_config.specs.Limits.{unit_keeps, target_keeps, keeps_limits}
use Rattle.target_config.specs.Distinct.{is_distinct, luns_of}
use Rattle.target_config.specs.declared.configuration.UnitConfiguration.{UnitConfiguration}
use Rattle.target_config.specs.declared.configuration.TargetConfiguration.{TargetConfiguration}
use Rattle.target_config.specs.declared.configuration.Configuration.{Configuration}

pub list_any-luns : (lun : ℤ) (units : List UnitConfiguration)
    → list_any (λ unit. int_eq unit.lun lun) units ≡ list_any (λ other. int_eq other lun) (luns_of (units_view units))
list_any-luns lun [] = refl
list_any-luns lun (unit ∷ units) = ap (λ (b : Bool). int_eq unit.lun lun || b) (list_any-luns lun units)

pub list_any-names : (name : List ℕ) (targets : List TargetConfiguration)
    → list_any (λ target. bytes_eq (string_bytes target.name) name) targets
    ≡ list_any (λ other. bytes_eq other name) (names_of (targets_view targets))
list_any-names name [] = refl
list_any-names name (target ∷ targets) = ap (λ (b : Bool). bytes_eq (string_bytes target.name) name || b) (list_any-names name targets)

-- a test of each unit, and of each target
pub tests_units : (test : UnitEntry → Bool) (units : List UnitConfiguration)
    → list_all test (units_view units) ≡ list_all (λ unit. test (unit_view unit)) units
tests_units test units = list_all-map test unit_view units

pub tests_targets : (test : TargetEntry → Bool) (targets : List TargetConfiguration)
    → list_all test (targets_view targets) ≡ list_all (λ target. test (target_view target)) targets
tests_targets test targets = list_all-map test target_view targets

-- where its own limits are kept, the units of a target decide, and the targets of a configuration
pub units_decide : (target : TargetConfiguration) → length (string_bytes target.name) ≤ 223 → length target.units.items ≤ 16
    → target_keeps (target_view target) ≡ list_all (λ unit. unit_keeps (unit_view unit)) target.units.items
units_decide target name units =
    rw (le-leb _ _ name, length-map target.units.items unit_view, le-leb _ _ units) (tests_units unit_keeps target.units.items)

pub targets_decide : (configuration : Configuration) → length (string_bytes configuration.listen) ≤ 253
    → length configuration.targets.items ≤ 8
    → keeps_limits (configuration_view configuration) ≡ list_all (λ target. target_keeps (target_view target)) configuration.targets.items
targets_decide configuration listen targets =
    rw (le-leb _ _ listen, length-map configuration.targets.items target_view, le-leb _ _ targets) (tests_targets target_keeps configuration.targets.items)

-- what a slice of all after a place holds
abbrev pub behind : {X : Type 0} → ℕ → List X → List X
behind i xs = take (length xs - (i + 1)) (drop (i + 1) xs)

pub behind-drop : {X : Type 0} (i : ℕ) (xs : List X) → behind i xs ≡ drop (i + 1) xs
behind-drop i xs = rw (← length-drop (i + 1) xs) (take-length (drop (i + 1) xs))

-- the LUNs from a unit on: one after it is the same, or those after it decide
pub lun_repeats : (units : List UnitConfiguration) (i : ℕ) (unit : UnitConfiguration) → i < length units
    → unit ≡ get_or units i unit → list_any (λ other. int_eq other.lun unit.lun) (behind i units) ≡ true
    → is_distinct int_eq (luns_of (units_view (drop i units))) ≡ false
lun_repeats units i unit lt e found =
    rw (
      drop_more units i unit lt,
      ← e,
      ← list_any-luns unit.lun (drop (i + 1) units),
      rw (behind-drop i units) at found,
    ) refl

pub lun_differs : (units : List UnitConfiguration) (i : ℕ) (unit : UnitConfiguration) → i < length units
    → unit ≡ get_or units i unit → list_any (λ other. int_eq other.lun unit.lun) (behind i units) ≡ false
    → is_distinct int_eq (luns_of (units_view (drop i units))) ≡ is_distinct int_eq (luns_of (units_view (drop (i + 1) units)))
lun_differs units i unit lt e found =
    rw (
      drop_more units i unit lt,
      ← e,
      ← list_any-luns unit.lun (drop (i + 1) units),
      rw (behind-drop i units) at found,
    ) refl

-- the same of the names
pub name_repeats : (targets : List TargetConfiguration) (i : ℕ) (target : TargetConfiguration) → i < length targets
    → target ≡ get_or targets i target
    → list_any (λ other. bytes_eq (string_bytes other.name) (string_bytes target.name)) (behind i targets) ≡ true
    → is_distinct bytes_eq (names_of (targets_view (drop i targets))) ≡ false
name_repeats targets i target lt e found =
    rw (
      drop_more targets i target lt,
      ← e,
      ← list_any-names (string_bytes target.name) (drop (i + 1) targets),
      rw (behind-drop i targets) at found,
    ) refl

pub name_differs : (targets : List TargetConfiguration) (i : ℕ) (target : TargetConfiguration) → i < length targets
    → target ≡ get_or targets i target
    → list_any (λ other. bytes_eq (string_bytes other.name) (string_bytes target.name)) (behind i targets) ≡ false
    → is_distinct bytes_eq (names_of (targets_view (drop i targets)))
    ≡ is_distinct bytes_eq (names_of (targets_view (drop (i + 1) targets)))
name_differs targets i target lt e found =
    rw (
      drop_more targets i target lt,
      ← e,
      ← list_any-names (string_bytes target.name) (drop (i + 1) targets),
      rw (behind-drop i targets) at found,
    ) refl
