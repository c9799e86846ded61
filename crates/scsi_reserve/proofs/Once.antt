-- Each nexus is registered once.
use Rattle.std.proofs.Common.{◌≡◌, ℕ, List, [], ◌∷◌, ◌++◌, map, Bool, true, false, Option, Some, None, if◌then◌else◌, refl, ◌∙◌}
use Rattle.std.specs.List.{filter}
use Rattle.scsi_sense.specs.Nexus.{NexusName, same_nexus}
use Rattle.scsi_reserve.specs.Laws.{AreOnce}
use Rattle.scsi_conflict.specs.Registration.{own_key, with_key}
use Rattle.scsi_reserve.proofs.Names.{same_nexus-sym}
use Rattle.scsi_conflict.specs.declared.registration.Row.{Row}

pub not_first : (b : Bool) (key : ℕ) (others : Option ℕ) → (if b then Some key else others) ≡ None → (b ≡ false) × (others ≡ None)
not_first true key others none = cc
not_first false key others none = (refl, none)

pub own_key-kept : (b : Bool) (x : NexusName) (row : Row) (left : List Row) → same_nexus row.nexus x ≡ false → own_key x left ≡ None
    → own_key x (if b then row ∷ left else left) ≡ None
own_key-kept true x row left other none = rw other none
own_key-kept false x row left other none = none

-- one that is not registered is not registered in what is left
pub own_key-filter : (x : NexusName) (keep : Row → Bool) (rows : List Row) → own_key x rows ≡ None → own_key x (filter keep rows) ≡ None
own_key-filter x keep [] none = refl
own_key-filter x keep (row ∷ rows) none =
    let p = not_first (same_nexus row.nexus x) row.key (own_key x rows) none in
    own_key-kept (keep row) x row (filter keep rows) p.0 (own_key-filter x keep rows p.1)

AreOnce-kept : (b : Bool) (row : Row) (left : List Row) → own_key row.nexus left ≡ None → AreOnce left → AreOnce (if b then row ∷ left else left)
AreOnce-kept true row left none once = (none, once)
AreOnce-kept false row left none once = once

pub AreOnce-filter : (keep : Row → Bool) (rows : List Row) → AreOnce rows → AreOnce (filter keep rows)
AreOnce-filter keep [] once = tt
AreOnce-filter keep (row ∷ rows) once =
    AreOnce-kept (keep row) row (filter keep rows) (own_key-filter row.nexus keep rows once.0) (AreOnce-filter keep rows once.1)

-- another key is of the same nexus
nexus-set : (b : Bool) (key : ℕ) (row : Row) → (let set : Row = if b then record row { key = key } else row in set.nexus) ≡ row.nexus
nexus-set true key row = refl
nexus-set false key row = refl

own_key-set : (x nexus : NexusName) (key : ℕ) (rows : List Row) → own_key x rows ≡ None → own_key x (map (with_key nexus key) rows) ≡ None
own_key-set x nexus key [] none = refl
own_key-set x nexus key (row ∷ rows) none =
    let p = not_first (same_nexus row.nexus x) row.key (own_key x rows) none in
    rw (nexus-set (same_nexus row.nexus nexus) key row, p.0) (own_key-set x nexus key rows p.1)

pub AreOnce-set : (nexus : NexusName) (key : ℕ) (rows : List Row) → AreOnce rows → AreOnce (map (with_key nexus key) rows)
AreOnce-set nexus key [] once = tt
AreOnce-set nexus key (row ∷ rows) once =
    (rw (nexus-set (same_nexus row.nexus nexus) key row) (own_key-set row.nexus nexus key rows once.0), AreOnce-set nexus key rows once.1)

own_key-append : (x : NexusName) (rows : List Row) (row : Row) → own_key x rows ≡ None → same_nexus row.nexus x ≡ false → own_key x (rows ++ row ∷ []) ≡ None
own_key-append x [] row none other = rw other refl
own_key-append x (first ∷ rows) row none other =
    let p = not_first (same_nexus first.nexus x) first.key (own_key x rows) none in
    rw p.0 (own_key-append x rows row p.1 other)

pub AreOnce-append : (rows : List Row) (row : Row) → AreOnce rows → own_key row.nexus rows ≡ None → AreOnce (rows ++ row ∷ [])
AreOnce-append [] row once none = (refl, tt)
AreOnce-append (first ∷ rows) row once none =
    let p = not_first (same_nexus first.nexus row.nexus) first.key (own_key row.nexus rows) none in
    (own_key-append first.nexus rows row once.0 (same_nexus-sym row.nexus first.nexus ∙ p.0), AreOnce-append rows row once.1 p.1)
