-- Units of a configuration as they are opened, one after the other.
use Rattle.std.proofs.Common.{◌≡◌, ℕ, ℤ, pos, negsuc, zero, suc, ◌-◌, ◌*◌, ◌/◌, List, [], ◌∷◌, ◌++◌, map, refl, sym, ap, subst, ◌∙◌, Bool, true, false, ◌&&◌, IsTrue, w64, arith}
use Rattle.std.specs.Prelude.{length, replicate, nat_le, String, string_bytes, Contains}
use Rattle.std.specs.declared.alloc.Global.{Global}
use Rattle.std.specs.List.{list_all}
use Rattle.std.proofs.Math.IntN.{nat_abs}
use Rattle.std.proofs.lemmas.Int.{to_z-of_z}
use Rattle.std.proofs.lemmas.Grind.{common_steps}
use mir.Val.{to_z, of_z}
use Rattle.std.proofs.lemmas.List.Elements.{Contains-append_right}
use Rattle.std.proofs.lemmas.List.{take-replicate, drop-replicate, length-replicate, map-append}
use Rattle.media_tape.specs.Items.{Item, items_in, items_of, is_tape}
use Rattle.media_tape.specs.Tape.{TapeState}
use Rattle.media_block.specs.Blocks.{DiskState, block_length, blocks_of, disk_of}
use Rattle.scsi_unit.specs.Device.{DeviceState}
use Rattle.scsi_unit.specs.State.{UnitState}
use Rattle.scsi_unit.specs.Unit.{free_unit}
use Rattle.target_config.specs.declared.configuration.UnitConfiguration.{UnitConfiguration}
use Rattle.target_config.specs.declared.configuration.TargetConfiguration.{TargetConfiguration}
use Rattle.target_config.specs.Configuration.{UnitEntry, TargetEntry, Document, natural, names_of, unit_view, units_view, target_view, targets_view}
use Rattle.target_config.specs.Limits.{is_lun, is_serial, unit_keeps, target_keeps, keeps_limits}
use Rattle.target_units.specs.Opened.{Held, zero_disk, empty_tape, IsMediumOf, IsUnitOf, AreEach}

-- the blocks of zeros are blocks of zeros
zero_blocks : (count : ℕ) → blocks_of count (replicate (block_length * count) 0) ≡ replicate count (replicate block_length 0)
unfolding blocks_of
zero_blocks zero = refl
zero_blocks (suc count) =
    let less : block_length * suc count - block_length ≡ block_length * count = omega arith in
    rw (
      take-replicate {X = ℕ} block_length (block_length * suc count) 0 (omega arith),
      drop-replicate {X = ℕ} block_length (block_length * suc count) 0,
      less,
      zero_blocks count,
    ) refl

zero_content : (count : ℕ) → disk_of (replicate (block_length * count) 0) ≡ replicate count (replicate block_length 0)
zero_content count =
    let whole : (block_length * count) / block_length ≡ count = omega arith in
    rw (length-replicate {A = ℕ} (block_length * count) 0, whole) (zero_blocks count)

-- a disk that was opened over zero blocks
pub zero_opened : (count : ℕ) (disk : DiskState) → (IsTrue disk.honest → disk.blocks ≡ disk_of (replicate (block_length * count) 0)) → disk.synced ≡ false
    → disk.failures ≡ 0 → disk.honest ≡ true → disk.steady ≡ true → disk ≡ zero_disk count
zero_opened count disk said synced failures honest steady =
    let blocks = said honest ∙ zero_content count in
    ap (λ (blocks : List (List ℕ)). record disk { blocks = blocks }) blocks
    ∙ ap (λ (b : Bool). record disk { blocks = replicate count (replicate block_length 0); synced = b }) synced
    ∙ ap (λ (n : ℕ). record disk { blocks = replicate count (replicate block_length 0); synced = false; failures = n }) failures
    ∙ ap (λ (b : Bool). record disk { blocks = replicate count (replicate block_length 0); synced = false; failures = 0; honest = b }) honest
    ∙ ap (λ (b : Bool). record disk { blocks = replicate count (replicate block_length 0); synced = false; failures = 0; honest = true; steady = b }) steady

pub nothing_stands : items_of [] ≡ []
unfolding items_in
nothing_stands = refl

pub nothing_is_a_tape : is_tape [] ≡ true
unfolding items_in
nothing_is_a_tape = refl

-- a tape that was opened over nothing
pub empty_opened : (capacity early : ℕ) (tape : TapeState) → tape.before ≡ [] → tape.after ≡ [] → tape.tail ≡ [] → tape.is_loaded ≡ true
    → tape.capacity ≡ capacity → tape.early_mark ≡ early → tape.synced ≡ false → tape.failures ≡ 0 → tape.honest ≡ true → tape.steady ≡ true
    → tape.reach ≡ capacity → tape.atomic ≡ true → tape ≡ empty_tape capacity early
empty_opened capacity early tape before after tail loaded most mark synced failures honest steady reach atomic =
    ap (λ (x : List Item). record tape { before = x }) before
    ∙ ap (λ (x : List Item). record tape { before = []; after = x }) after
    ∙ ap (λ (x : List ℕ). record tape { before = []; after = []; tail = x }) tail
    ∙ ap (λ (x : Bool). record tape { before = []; after = []; tail = []; is_loaded = x }) loaded
    ∙ ap (λ (x : ℕ). record tape { before = []; after = []; tail = []; is_loaded = true; capacity = x }) most
    ∙ ap (λ (x : ℕ). record tape { before = []; after = []; tail = []; is_loaded = true; capacity = capacity; early_mark = x }) mark
    ∙ ap (λ (x : Bool). record tape { before = []; after = []; tail = []; is_loaded = true; capacity = capacity; early_mark = early; synced = x }) synced
    ∙ ap (λ (x : ℕ). record tape { before = []; after = []; tail = []; is_loaded = true; capacity = capacity; early_mark = early; synced = false; failures = x }) failures
    ∙ ap (λ (x : Bool). record tape { before = []; after = []; tail = []; is_loaded = true; capacity = capacity; early_mark = early; synced = false; failures = 0; honest = x }) honest
    ∙ ap (λ (x : Bool). record tape { before = []; after = []; tail = []; is_loaded = true; capacity = capacity; early_mark = early; synced = false; failures = 0; honest = true; steady = x }) steady
    ∙ ap (λ (x : ℕ). record (empty_tape capacity early) { reach = x; atomic = tape.atomic }) reach
    ∙ ap (λ (x : Bool). record (empty_tape capacity early) { atomic = x }) atomic

both : (a b : Bool) → (a && b) ≡ true → (a ≡ true) × (b ≡ true)
both true b e = (refl, e)
both false b e = absurd cc

-- the number of a LUN of the file, as it is cast
lun_is : (lun : ℤ) → is_lun lun ≡ true → nat_abs (to_z w64 (of_z w64 lun)) ≡ natural lun
lun_is (pos n) kept = grind (arith, common_steps, to_z-of_z)
lun_is (negsuc n) kept = absurd cc

pub number_is : (unit : UnitEntry) → unit_keeps unit ≡ true → nat_abs (to_z w64 (of_z w64 unit.lun)) ≡ natural unit.lun
number_is unit kept = lun_is unit.lun (both (is_lun unit.lun) (is_serial unit.serial) kept).0

-- a unit over its medium
pub unit_over : (held : Held) (entry : UnitEntry) (lun : ℕ) (medium : DeviceState) (unit : UnitState) → unit ≡ free_unit lun entry.serial medium
    → lun ≡ natural entry.lun
    → IsMediumOf held entry.medium medium → IsUnitOf held entry unit
unit_over held entry lun medium unit free number is =
    let same : unit.device ≡ medium = ap (λ (unit : UnitState). unit.device) free in
    record {
      free = free ∙ ap (λ (n : ℕ). free_unit n entry.serial medium) number ∙ ap (λ (m : DeviceState). free_unit (natural entry.lun) entry.serial m) (sym same);
      medium = subst (λ (m : DeviceState). IsMediumOf held entry.medium m) (sym same) is;
    }

-- one more of each
pub each_more : {X Y : Type 0} (R : X → Y → Type 0) (xs : List X) (ys : List Y) (x : X) (y : Y) → AreEach R xs ys → R x y
    → AreEach R (xs ++ x ∷ []) (ys ++ y ∷ [])
each_more R [] [] x y h one = (one, tt)
each_more R [] (z ∷ ys) x y h one = absurd h
each_more R (z ∷ xs) [] x y h one = absurd h
each_more R (z ∷ xs) (w ∷ ys) x y h one = (h.0, each_more R xs ys x y h.1 one)

-- one more of each, seen by `view`
pub each_view_more : {X Y Z : Type 0} (R : Y → Z → Type 0) (view : X → Y) (xs : List X) (zs now : List Z) (x : X) (z : Z) → now ≡ zs ++ z ∷ []
    → AreEach R (map view xs) zs → R (view x) z
    → AreEach R (map view (xs ++ x ∷ [])) now
each_view_more R view xs zs now x z pushed h one = rw (pushed, map-append view xs (x ∷ [])) (each_more R (map view xs) zs (view x) z h one)

-- the targets of a configuration that keeps its limits keep theirs
pub all_kept : (document : Document) → keeps_limits document ≡ true → list_all target_keeps document.targets ≡ true
all_kept document kept =
    (both (nat_le (length document.listen) 253 && nat_le (length document.targets) 8) (list_all target_keeps document.targets) kept).1

-- what comes first is contained
pub contains_first : {X : Type 0} (x : X) (xs : List X) → Contains (x ∷ xs) x
contains_first x xs = (0, omega arith, refl)

-- the units after one keep their limits, and are units of the target
pub units_next : (now rest : List UnitConfiguration) (unit : UnitConfiguration) (all : List UnitEntry) → now ≡ unit ∷ rest
    → list_all unit_keeps (units_view now) ≡ true → ((entry : UnitEntry) → Contains (units_view now) entry → Contains all entry)
    → (list_all unit_keeps (units_view rest) ≡ true) × ((entry : UnitEntry) → Contains (units_view rest) entry → Contains all entry)
units_next now rest unit all taken kept named = (
  (both (unit_keeps (unit_view unit)) (list_all unit_keeps (units_view rest)) (rw taken at kept)).1,
  λ entry found. named entry (rw taken (Contains-append_right (unit_view unit ∷ []) (units_view rest) entry found)),
)

-- the first of the units that are left keeps its limits
pub unit_kept : (now rest : List UnitConfiguration) (unit : UnitConfiguration) → now ≡ unit ∷ rest → list_all unit_keeps (units_view now) ≡ true
    → unit_keeps (unit_view unit) ≡ true
unit_kept now rest unit taken kept = (both (unit_keeps (unit_view unit)) (list_all unit_keeps (units_view rest)) (rw taken at kept)).0

-- the same of targets
pub target_kept : (now rest : List TargetConfiguration) (target : TargetConfiguration) → now ≡ target ∷ rest
    → list_all target_keeps (targets_view now) ≡ true → list_all unit_keeps (units_view target.units.items) ≡ true
target_kept now rest target taken kept =
    let first = both (target_keeps (target_view target)) (list_all target_keeps (targets_view rest)) (rw taken at kept) in
    let few = nat_le (length (string_bytes target.name)) 223 && nat_le (length (units_view target.units.items)) 16 in
    (both few (list_all unit_keeps (units_view target.units.items)) first.0).1

-- what is left of the targets
pub targets_next : (now rest : List TargetConfiguration) (target : TargetConfiguration) (all : List TargetEntry) → now ≡ target ∷ rest
    → list_all target_keeps (targets_view now) ≡ true → ((entry : TargetEntry) → Contains (targets_view now) entry → Contains all entry)
    → (list_all target_keeps (targets_view rest) ≡ true) × ((entry : TargetEntry) → Contains (targets_view rest) entry → Contains all entry)
targets_next now rest target all taken kept named = (
  (both (target_keeps (target_view target)) (list_all target_keeps (targets_view rest)) (rw taken at kept)).1,
  λ entry found. named entry (rw taken (Contains-append_right (target_view target ∷ []) (targets_view rest) entry found)),
)

-- the first of the units, or targets, that are left is one of all
pub unit_now : (now rest : List UnitConfiguration) (unit : UnitConfiguration) (all : List UnitEntry) → now ≡ unit ∷ rest
    → ((entry : UnitEntry) → Contains (units_view now) entry → Contains all entry) → Contains all (unit_view unit)
unit_now now rest unit all taken named = named (unit_view unit) (rw taken (contains_first (unit_view unit) (units_view rest)))

pub target_now : (now rest : List TargetConfiguration) (target : TargetConfiguration) (all : List TargetEntry) → now ≡ target ∷ rest
    → ((entry : TargetEntry) → Contains (targets_view now) entry → Contains all entry) → Contains all (target_view target)
target_now now rest target all taken named = named (target_view target) (rw taken (contains_first (target_view target) (targets_view rest)))

-- one more name
pub names_next : (targets : List TargetConfiguration) (target : TargetConfiguration) (names now : List (String Global)) → now ≡ names
    ++ target.name ∷ [] → map string_bytes names ≡ names_of (targets_view targets)
    → map string_bytes now ≡ names_of (targets_view (targets ++ target ∷ []))
names_next targets target names now pushed e =
    rw (pushed, map-append string_bytes names (target.name ∷ []), e, map-append target_view targets (target ∷ []))
    (sym (map-append (λ (target : TargetEntry). target.name) (targets_view targets) (target_view target ∷ [])))
