-- How a command to a disk can come out: what can be passes the test.
use Rattle.std.proofs.Common.{◌≡◌, ℕ, ◌+◌, List, [], ◌∷◌, Bool, true, false, IsTrue, Option, Some, None, ◌&&◌, ◌||◌, not, refl}
use Rattle.std.specs.Prelude.{length, take, drop, is_some, if◌then◌else◌}
use Rattle.std.proofs.lemmas.Bool.{false≢true, eq-eqb, and_from}
use Rattle.media_block.specs.Blocks.{DiskState, KeepsOthers}
use Rattle.scsi_cdb.specs.Range.{Range}
use Rattle.scsi_disk.specs.DiskCame.{DiskTouch, are_same, is_byte, is_block, are_left, can_be, can_fail}

-- ---- the same lists

same_byte : (a : ℕ) → is_byte a a ≡ true
same_byte a = eq-eqb a a refl

same_list : {A : Type 0} (same : A → A → Bool) → ((a : A) → same a a ≡ true) → (xs : List A) → are_same same xs xs ≡ true
same_list same is [] = refl
same_list same is (x ∷ xs) = rw (is x, same_list same is xs) refl

same_block : (block : List ℕ) → is_block block block ≡ true
same_block block = same_list is_byte same_byte block

blocks_same : (left old : List (List ℕ)) → left ≡ old → are_same is_block left old ≡ true
blocks_same left old same = rw same (same_list is_block same_block old)

-- ---- what a store can do

honesty_by : (reads old new : Bool) → (IsTrue new → IsTrue old) → (reads ≡ false → new ≡ old) → (if new then old else (reads || not old)) ≡ true
honesty_by reads old true back kept = back refl
honesty_by true old false back kept = refl
honesty_by false true false back kept = absurd (false≢true (kept refl))
honesty_by false false false back kept = refl

pub can_be_so : (touch : DiskTouch) (old new : Bool) → (IsTrue new → IsTrue old) → (is_some touch.reads ≡ false → new ≡ old)
    → can_be touch old new ≡ true
can_be_so touch old new back kept = honesty_by (is_some touch.reads) old new back kept

not_steady : (honest steady : Bool) → (IsTrue steady → IsTrue honest → ⊥) → not (honest && steady) ≡ true
not_steady true true fails = absurd (fails refl refl)
not_steady true false fails = refl
not_steady false steady fails = refl

pub may_fail : (disk : DiskState) → (IsTrue disk.steady → IsTrue disk.honest → ⊥) → can_fail disk ≡ true
may_fail disk fails = not_steady disk.honest disk.steady fails

-- ---- what is left

-- the same blocks
pub all_left : (writes : Option Range) (honest : Bool) (blocks : List (List ℕ)) → are_left writes honest blocks blocks ≡ true
all_left None honest blocks = blocks_same blocks blocks refl
all_left (Some range) true blocks =
    and_from _ _ (and_from _ _ (blocks_same (take range.first blocks) (take range.first blocks) refl)
    (blocks_same (drop (range.first + range.count) blocks) (drop (range.first + range.count) blocks) refl)) (same_byte (length blocks))
all_left (Some range) false blocks = same_byte (length blocks)

-- blocks after a write to a range
pub others_left : (range : Range) (honest : Bool) (old left : List (List ℕ)) → (IsTrue honest → KeepsOthers range.first range.count old left)
    → length left ≡ length old → are_left (Some range) honest old left ≡ true
others_left range true old left others as_many =
    and_from _ _ (and_from _ _ (blocks_same _ _ (others refl).before) (blocks_same _ _ (others refl).behind)) (rw as_many (same_byte (length old)))
others_left range false old left others as_many = rw as_many (same_byte (length old))
