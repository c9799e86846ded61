-- How the failed calls of a store are counted.
use Rattle.std.specs.Prelude.{◌≡◌, ℕ, ◌+◌, ◌-◌, ◌^◌, ◌<◌, min, Result, is_ok, if◌then◌else◌}

-- own: one more, in a u64, which stays at its greatest value
abbrev pub risen : ℕ → ℕ
risen count = min (count + 1) (2 ^ 64 - 1)

-- own: the count after a call with this result
abbrev pub counted : {T E : Type 0} → Result T E → ℕ → ℕ
counted result count = if is_ok result then count else risen count

-- own: no call failed between one count and a later one; a count at its greatest value may have risen
pub record NoneFailed (before after : ℕ) : Type 0 where
  pub same : after ≡ before
  pub known : after < 2 ^ 64 - 1
