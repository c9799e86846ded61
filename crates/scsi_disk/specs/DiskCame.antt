-- How a command to a disk came out, depending on its store.
use Rattle.std.specs.Prelude.{ℕ, ◌+◌, ◌*◌, ◌==◌, nat_lt, List, [], ◌∷◌, length, take, drop}
use Rattle.std.specs.Prelude.{Bool, true, false, ◌&&◌, ◌||◌, not, Option, Some, None, is_some, if◌then◌else◌}
use Rattle.media_store.specs.Failures.{risen}
use Rattle.media_block.specs.Blocks.{DiskState, block_length}
use Rattle.scsi_cdb.specs.Range.{Range}
use Rattle.scsi_disk.specs.DiskDevice.{DiskUnit}

-- own: what a medium shows of the blocks that a command names. It is their data, and the least index at which it
-- differs from the bytes to compare
pub record Shown : Type 0 where
  pub given : List ℕ
  pub difference : Option ℕ

pub data DiskCame : Type 0 where
  -- as its definition says
  AsDefined : DiskCame
  -- its store is not honest after it: it showed this, and these are the blocks after it
  Dishonest : (shown : Shown) (left : List (List ℕ)) → DiskCame
  -- a read failed; the store may be honest after it or not
  ReadFailed : (honest : Bool) → DiskCame
  -- a write or a sync failed, and these are the blocks after it; the store may be honest after it or not
  WriteFailed : (left : List (List ℕ)) (honest : Bool) → DiskCame

-- own: what its store showed, if the truth was this
abbrev pub shown_by : DiskCame → Shown → Shown
shown_by AsDefined truth = truth
shown_by (Dishonest shown left) truth = shown
shown_by (ReadFailed honest) truth = truth
shown_by (WriteFailed left honest) truth = truth

-- own: what a command does with its medium: which blocks it reads and which it writes, at least one. Or it only waits
-- until everything is on the medium
pub record DiskTouch : Type 0 where
  pub reads : Option Range
  pub writes : Option Range
  pub syncs : Bool

abbrev pub no_touch : DiskTouch
no_touch = record { reads = None; writes = None; syncs = false }

-- own: the disk after it, if its definition with what was shown leaves this one; after a write or a sync failed it is not synced
abbrev pub disk_after : DiskCame → DiskTouch → DiskState → DiskUnit → DiskUnit
disk_after AsDefined touch defined disk = record disk { disk = defined }
disk_after (Dishonest shown left) touch defined disk = record disk { disk = record defined { blocks = left; honest = false } }
disk_after (ReadFailed honest) touch defined disk =
    record disk { disk = record disk.disk { failures = risen disk.disk.failures; honest = honest } }
disk_after (WriteFailed left honest) touch defined disk =
    record disk {
      disk = record disk.disk {
        blocks = left;
        synced = false;
        failures = risen disk.disk.failures;
        honest = honest;
      };
      is_ready = false;
    }

-- ---- what can be

abbrev pub are_same : {A : Type 0} → (A → A → Bool) → List A → List A → Bool
are_same same [] [] = true
are_same same [] (y ∷ ys) = false
are_same same (x ∷ xs) [] = false
are_same same (x ∷ xs) (y ∷ ys) = same x y && are_same same xs ys

abbrev pub is_byte : ℕ → ℕ → Bool
is_byte a b = a == b

abbrev pub is_block : List ℕ → List ℕ → Bool
is_block a b = are_same is_byte a b

-- own: if a command writes, the number of blocks stays. Of an honest store those outside its range are as before; if it
-- does not write, all are
abbrev pub are_left : Option Range → Bool → List (List ℕ) → List (List ℕ) → Bool
are_left None honest old left = are_same is_block left old
are_left (Some range) honest old left =
    (not honest || (are_same is_block (take range.first left) (take range.first old)
    && are_same is_block (drop (range.first + range.count) left) (drop (range.first + range.count) old)))
    && length left == length old

abbrev pub is_below : Option ℕ → ℕ → Bool
is_below None count = true
is_below (Some at) count = nat_lt at count

-- own: the blocks that it reads have this many bytes, and a difference is among them
abbrev pub are_shown : Option Range → Shown → Bool
are_shown None shown = true
are_shown (Some range) shown =
    length shown.given == block_length * range.count && is_below shown.difference (block_length * range.count)

-- own: no command makes a store honest, and only one that reads makes it cease to be so
abbrev pub can_be : DiskTouch → Bool → Bool → Bool
can_be touch old new = if new then old else (is_some touch.reads || not old)

-- own: whether a call on it can fail
abbrev pub can_fail : DiskState → Bool
can_fail disk = not (disk.honest && disk.steady)

-- own: whether a command to a disk can come out so. It fails or is misled only by what it does with its medium, and
-- never if no call on the disk can fail
abbrev pub is_disk_possible : DiskCame → DiskTouch → DiskState → Bool
is_disk_possible AsDefined touch disk = true
is_disk_possible (Dishonest shown left) touch disk =
    can_fail disk && ((is_some touch.reads || is_some touch.writes) && (can_be touch disk.honest false
    && (are_shown touch.reads shown && are_left touch.writes false disk.blocks left)))
is_disk_possible (ReadFailed honest) touch disk = can_fail disk && (is_some touch.reads && can_be touch disk.honest honest)
is_disk_possible (WriteFailed left honest) touch disk =
    can_fail disk && ((is_some touch.writes || touch.syncs)
    && (can_be touch disk.honest honest && are_left touch.writes honest disk.blocks left))
