-- What holds of a result whatever it is, and of a disk whose store failed.
use Rattle.std.proofs.Common.{◌≡◌, ℕ, Bool, Result, Ok, Err, OnErr, IsErr, refl}
use Rattle.std.proofs.lemmas.Bool.{false≢true}
use Rattle.media_store.specs.Failures.{risen, counted}
use Rattle.media_block.specs.Blocks.{DiskState}

pub on_err_always : {T E P : Type 0} (result : Result T E) → P → OnErr result P
on_err_always (Ok value) holds = tt
on_err_always (Err fault) holds = holds

pub counted-failed : {T E : Type 0} (result : Result T E) (count : ℕ) → IsErr result → counted result count ≡ risen count
counted-failed (Ok value) count failed = absurd (false≢true failed)
counted-failed (Err fault) count failed = refl

-- a disk after a call of its store that succeeded, and after one that failed
abbrev pub passed : Bool → DiskState → DiskState
passed honest disk = record disk { honest = honest }

abbrev pub failed : Bool → DiskState → DiskState
failed honest disk = record disk { failures = risen disk.failures; honest = honest }
