-- Units in different files, by what a clause sees of them.
use Rattle.std.proofs.Common.{◌≡◌, ℕ, ◌+◌, ◌<◌, Bool, true, false, ◌||◌, ◌&&◌, List, [], ◌∷◌, ◌++◌, length, drop, get_or, refl, sym, ap, ◌∙◌}
use Rattle.std.specs.Prelude.{not}
use Rattle.std.specs.List.{list_any}
use Rattle.std.proofs.lemmas.List.{drop_more}
use Rattle.std.proofs.lemmas.List.Folds.{list_any-append}
use Rattle.target_config.specs.Configuration.{UnitEntry, unit_view, units_view, targets_view}
use Rattle.target_config.specs.Distinct.{is_distinct, is_distinct_before, shares_file, units_in}
use Rattle.target_config.proofs.Lists.{behind, behind-drop}
use Rattle.target_config.specs.declared.configuration.UnitConfiguration.{UnitConfiguration}
use Rattle.target_config.specs.declared.configuration.TargetConfiguration.{TargetConfiguration}

-- a test of some units is one of what is seen of them
tests : (test : UnitEntry → Bool) (units : List UnitConfiguration)
    → list_any (λ unit. test (unit_view unit)) units ≡ list_any test (units_view units)
tests test [] = refl
tests test (unit ∷ units) = ap (λ (b : Bool). test (unit_view unit) || b) (tests test units)

-- a test of the units of some targets
tests_in : (test : UnitEntry → Bool) (targets : List TargetConfiguration)
    → list_any (λ target. list_any (λ unit. test (unit_view unit)) target.units.items) targets
    ≡ list_any test (units_in (targets_view targets))
tests_in test [] = refl
tests_in test (target ∷ targets) =
    rw (list_any-append test (units_view target.units.items) (units_in (targets_view targets)), tests test target.units.items)
    (ap (λ (b : Bool). list_any test (units_view target.units.items) || b) (tests_in test targets))

true_or : (a b : Bool) → b ≡ true → (a || b) ≡ true
true_or true b e = refl
true_or false b e = e

-- the file of a unit comes again among those after it
pub file_repeats : (units : List UnitConfiguration) (others : List UnitEntry) (i : ℕ) (unit : UnitConfiguration)
    → i < length units → unit ≡ get_or units i unit
    → list_any (λ other. shares_file (unit_view other) (unit_view unit)) (behind i units) ≡ true
    → is_distinct_before shares_file (units_view (drop i units)) others ≡ false
file_repeats units others i unit lt e found =
    let again : list_any (λ other. shares_file other (unit_view unit)) (units_view (drop (i + 1) units)) ≡ true =
    sym (tests (λ other. shares_file other (unit_view unit)) (drop (i + 1) units)) ∙ rw (behind-drop i units) at found in
    rw (drop_more units i unit lt, ← e, again) refl

-- or among those of the targets after it
pub file_repeats_behind : (units : List UnitConfiguration) (targets : List TargetConfiguration) (i : ℕ) (unit : UnitConfiguration)
    → i < length units → unit ≡ get_or units i unit
    → list_any (λ target. list_any (λ other. shares_file (unit_view other) (unit_view unit)) target.units.items) targets ≡ true
    → is_distinct_before shares_file (units_view (drop i units)) (units_in (targets_view targets)) ≡ false
file_repeats_behind units targets i unit lt e found =
    let again = true_or (list_any (λ other. shares_file other (unit_view unit)) (units_view (drop (i + 1) units))) _
    (sym (tests_in (λ other. shares_file other (unit_view unit)) targets) ∙ found) in
    rw (drop_more units i unit lt, ← e, again) refl

-- it comes in neither, and the units after it decide
pub file_differs : (units : List UnitConfiguration) (targets : List TargetConfiguration) (i : ℕ) (unit : UnitConfiguration)
    → i < length units → unit ≡ get_or units i unit
    → list_any (λ other. shares_file (unit_view other) (unit_view unit)) (behind i units) ≡ false
    → list_any (λ target. list_any (λ other. shares_file (unit_view other) (unit_view unit)) target.units.items) targets ≡ false
    → is_distinct_before shares_file (units_view (drop i units)) (units_in (targets_view targets))
    ≡ is_distinct_before shares_file (units_view (drop (i + 1) units)) (units_in (targets_view targets))
file_differs units targets i unit lt e here there =
    let apart : list_any (λ other. shares_file other (unit_view unit)) (units_view (drop (i + 1) units)) ≡ false =
    sym (tests (λ other. shares_file other (unit_view unit)) (drop (i + 1) units)) ∙ rw (behind-drop i units) at here in
    let apart_behind = sym (tests_in (λ other. shares_file other (unit_view unit)) targets) ∙ there in
    rw (drop_more units i unit lt, ← e, apart, apart_behind) refl

and_assoc : (a b c : Bool) → ((a && b) && c) ≡ (a && (b && c))
and_assoc true b c = refl
and_assoc false b c = refl

-- nothing comes twice in two lists, one after the other
distinct_append : {X : Type 0} (same : X → X → Bool) (xs ys : List X)
    → is_distinct same (xs ++ ys) ≡ (is_distinct_before same xs ys && is_distinct same ys)
distinct_append same [] ys = refl
distinct_append same (x ∷ xs) ys =
    rw (list_any-append (λ y. same y x) xs ys, distinct_append same xs ys)
    (sym (and_assoc (not (list_any (λ y. same y x) xs || list_any (λ y. same y x) ys)) (is_distinct_before same xs ys) (is_distinct same ys)))

-- the units of the targets from one on: its own come again, or those after it decide
from_target : (targets : List TargetConfiguration) (i : ℕ) (target : TargetConfiguration) → i < length targets
    → target ≡ get_or targets i target
    → is_distinct shares_file (units_in (targets_view (drop i targets)))
    ≡ (is_distinct_before shares_file (units_view target.units.items) (units_in (targets_view (drop (i + 1) targets)))
    && is_distinct shares_file (units_in (targets_view (drop (i + 1) targets))))
from_target targets i target lt e =
    rw (drop_more targets i target lt, ← e) (distinct_append shares_file (units_view target.units.items) (units_in (targets_view (drop (i + 1) targets))))

pub files_repeat : (targets : List TargetConfiguration) (i : ℕ) (target : TargetConfiguration) → i < length targets
    → target ≡ get_or targets i target
    → is_distinct_before shares_file (units_view target.units.items) (units_in (targets_view (behind i targets))) ≡ false
    → is_distinct shares_file (units_in (targets_view (drop i targets))) ≡ false
files_repeat targets i target lt e found = rw (from_target targets i target lt e, rw (behind-drop i targets) at found) refl

pub files_differ : (targets : List TargetConfiguration) (i : ℕ) (target : TargetConfiguration) → i < length targets
    → target ≡ get_or targets i target
    → is_distinct_before shares_file (units_view target.units.items) (units_in (targets_view (behind i targets))) ≡ true
    → is_distinct shares_file (units_in (targets_view (drop i targets)))
    ≡ is_distinct shares_file (units_in (targets_view (drop (i + 1) targets)))
files_differ targets i target lt e found = rw (from_target targets i target lt e, rw (behind-drop i targets) at found) refl
