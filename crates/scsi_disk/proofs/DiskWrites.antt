-- What calls that write did to a disk, one after the other.
use Rattle.std.proofs.Common.{◌≡◌, ℕ, zero, suc, ◌+◌, ◌==◌, ◌≤◌, nat_lt, List, ◌++◌, length, take, drop, true, false, IsTrue, Result, Ok, Err}
use Rattle.std.proofs.Common.{OnErr, refl, ap, arith}
use Rattle.std.proofs.Math.Dec.{eqb-suc-zero}
use Rattle.std.proofs.lemmas.Bool.{false≢true}
use Rattle.std.proofs.lemmas.List.{append_assoc, take_at, drop_at, length-append, length-take-le}
use Rattle.media_store.specs.Failures.{risen}
use Rattle.media_block.specs.Blocks.{DiskState, replaced, KeepsOthers}
use Rattle.scsi_disk.specs.DiskWrites.{IsWritten, IsTorn}

pub on_err_always : {T E P : Type 0} (result : Result T E) → P → OnErr result P
on_err_always (Ok value) holds = tt
on_err_always (Err fault) holds = holds

pub not_none : (count : ℕ) → nat_lt 0 count ≡ true → (count == 0) ≡ false
not_none zero some = absurd (false≢true some)
not_none (suc count) some = eqb-suc-zero count

-- other blocks in the place of some keep all others
kept_by_replaced : (first count : ℕ) (others blocks : List (List ℕ)) → length others ≡ count → first + count ≤ length blocks
    → KeepsOthers first count blocks (replaced first others blocks)
kept_by_replaced first count others blocks many within =
    let front = length-take-le first blocks (omega arith) in
    let long : length (take first blocks ++ others) ≡ first + count = simp (length-append, front, many) refl in
    record {
      before = take_at (take first blocks) (others ++ drop (first + length others) blocks) first front;
      behind = rw (many, ← append_assoc (take first blocks) others (drop (first + count) blocks))
          (drop_at (take first blocks ++ others) (drop (first + count) blocks) (first + count) long);
    }

module _ (first count : ℕ) (others : List (List ℕ)) (old mid new : DiskState) where
  -- one write
  pub write_done : (IsTrue old.honest → new.blocks ≡ replaced first others old.blocks) → length new.blocks ≡ length old.blocks
      → new.synced ≡ false → new.failures ≡ old.failures → new.honest ≡ old.honest → new.steady ≡ old.steady
      → IsWritten first others false old new
  write_done blocks many synced failures honest steady = record {
    blocks = blocks;
    as_many = many;
    rest = rw (← synced, ← failures, ← honest, ← steady) refl;
  }

  pub write_torn : (IsTrue old.honest → KeepsOthers first count old.blocks new.blocks) → length new.blocks ≡ length old.blocks
      → new.synced ≡ false → new.failures ≡ risen old.failures → new.honest ≡ old.honest → new.steady ≡ old.steady
      → IsTorn first count old new
  write_torn kept many synced failures honest steady = record {
    others = kept;
    as_many = many;
    rest = rw (← synced, ← failures, ← honest, ← steady) refl;
  }

  -- and then a sync
  pub sync_done : IsWritten first others false old mid → new ≡ record mid { synced = true } → IsWritten first others true old new
  sync_done written is = rw is (record {
    blocks = written.blocks;
    as_many = written.as_many;
    rest = ap (λ (d : DiskState). record d { synced = true }) written.rest;
  })

  pub sync_torn : IsWritten first others false old mid → length others ≡ count → first + count ≤ length old.blocks
      → new ≡ record mid { synced = false; failures = risen mid.failures } → IsTorn first count old new
  sync_torn written many within is = rw is (record {
    others = λ honest. rw (written.blocks honest) (kept_by_replaced first count others old.blocks many within);
    as_many = written.as_many;
    rest = ap (λ (d : DiskState). record d { synced = false; failures = risen d.failures }) written.rest;
  })
