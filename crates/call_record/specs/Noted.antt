-- A noted call.
use Rattle.std.specs.Prelude.{ℕ, Bool, List}

-- own: what a call asked and what it answered, as numbers, bytes and flags
pub record Noted : Type 0 where
  pub numbers : List ℕ
  pub bytes : List ℕ
  pub flags : List Bool
