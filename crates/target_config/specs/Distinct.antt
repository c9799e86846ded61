-- Names, LUNs and files that must come once, and LUN 0.
use Rattle.std.specs.Prelude.{ℤ, pos, List, [], ◌∷◌, map, flat_map, Bool, true, false, not, ◌&&◌, ◌||◌, ℕ, Option, Some, bytes_eq}
use Rattle.std.specs.List.{list_all, list_any}
use Rattle.std.specs.Ordering.{int_eq}
use Rattle.target_config.specs.Configuration.{UnitEntry, TargetEntry, names_of, file_of}

-- nothing comes twice
abbrev pub is_distinct : {X : Type 0} → (X → X → Bool) → List X → Bool
is_distinct same [] = true
is_distinct same (x ∷ xs) = not (list_any (λ y. same y x) xs) && is_distinct same xs

-- nothing in the first list comes again in it, or in the second
abbrev pub is_distinct_before : {X : Type 0} → (X → X → Bool) → List X → List X → Bool
is_distinct_before same [] behind = true
is_distinct_before same (x ∷ xs) behind = not (list_any (λ y. same y x) xs || list_any (λ y. same y x) behind) && is_distinct_before same xs behind

abbrev pub luns_of : List UnitEntry → List ℤ
luns_of units = map (λ unit. unit.lun) units

abbrev pub has_distinct_luns : TargetEntry → Bool
has_distinct_luns target = is_distinct int_eq (luns_of target.units)

abbrev pub has_lun_zero : TargetEntry → Bool
has_lun_zero target = list_any (λ lun. int_eq lun (pos 0)) (luns_of target.units)

-- the units of all targets
abbrev pub units_in : List TargetEntry → List UnitEntry
units_in targets = flat_map (λ target. target.units) targets

-- there are two paths, and they are equal
abbrev pub is_one_path : Option (List ℕ) → Option (List ℕ) → Bool
is_one_path (Some path) (Some other) = bytes_eq path other
is_one_path path other = false

-- both are in the file at one path
abbrev pub shares_file : UnitEntry → UnitEntry → Bool
shares_file unit other = is_one_path (file_of unit.medium) (file_of other.medium)

abbrev pub has_distinct_files : List TargetEntry → Bool
has_distinct_files targets = is_distinct shares_file (units_in targets)

-- profile: no two targets have one name, no two units of a target one LUN, and no two units one file
abbrev pub comes_each_once : List TargetEntry → Bool
comes_each_once targets = is_distinct bytes_eq (names_of targets) && list_all has_distinct_luns targets && has_distinct_files targets
