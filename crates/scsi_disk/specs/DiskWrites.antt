-- What calls that write did to a disk.
use Rattle.std.specs.Prelude.{◌≡◌, ℕ, List, length, Bool, false, IsTrue}
use Rattle.media_store.specs.Failures.{risen}
use Rattle.media_block.specs.Blocks.{DiskState, replaced, KeepsOthers}

-- own: other blocks replace those from the first one on, if the store was honest; on the medium or not yet
pub record IsWritten (first : ℕ) (others : List (List ℕ)) (synced : Bool) (old new : DiskState) : Type 0 where
  pub blocks : IsTrue old.honest → new.blocks ≡ replaced first others old.blocks
  pub as_many : length new.blocks ≡ length old.blocks
  pub rest : new ≡ record old { blocks = new.blocks; synced = synced }

-- own: a call failed: the content of these blocks is not defined, and if the store was honest, the others are as before
pub record IsTorn (first count : ℕ) (old new : DiskState) : Type 0 where
  pub others : IsTrue old.honest → KeepsOthers first count old.blocks new.blocks
  pub as_many : length new.blocks ≡ length old.blocks
  pub rest : new ≡ record old { blocks = new.blocks; synced = false; failures = risen old.failures }
