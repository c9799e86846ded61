-- When a store stays honest.
use Rattle.std.specs.Prelude.{◌≡◌, ℕ, ◌+◌, ◌≤◌, List, length, take, Bool, IsTrue, slice_range}

-- own: of a read from an offset into a buffer, what came stands in front of it, and is all of it where the read
-- succeeded; where that agrees with the content, the store is as honest as before
pub record HasAgreed (content : List ℕ) (at : ℕ) (buffer : List ℕ) (ok : Bool) (old new : Bool) : Type 0 where
  pub count : ℕ
  pub within : count ≤ length buffer
  pub whole : IsTrue ok → count ≡ length buffer
  pub same : take count buffer ≡ slice_range content at (at + count) → new ≡ old
