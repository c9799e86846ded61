-- What the stores of this crate show of themselves.
use Rattle.std.specs.Prelude.{ℕ, List, Bool}
use Rattle.media_store.specs.Calls.{FileCall}

-- own: a store in memory
pub record MemoryState : Type 0 where
  pub content : List ℕ
  -- how many bytes there is room for
  pub most : ℕ
  pub synced : Bool
  pub failures : ℕ

-- own: a store in a file; all else follows from the record of its calls, the newest first
pub record FileState : Type 0 where
  pub calls : List FileCall
  pub content : List ℕ
  pub honest : Bool
  pub synced : Bool
  pub failures : ℕ
