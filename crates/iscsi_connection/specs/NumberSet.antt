-- A set of connection numbers.
use Rattle.std.specs.Prelude.{ℕ, Bool, ◌==◌}
use Rattle.std.specs.Int.{bit_at}

-- own: the number is in the set, which is given by its bits
unfoldable pub is_in : ℕ → ℕ → Bool
is_in set c = bit_at set c == 1
