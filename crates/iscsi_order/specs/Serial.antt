-- Serial numbers of 32 bits.
use Rattle.std.specs.Prelude.{ℕ, ◌+◌, ◌-◌, ◌^◌, ◌%◌, Bool, ◌&&◌, ◌||◌, ◌==◌, nat_lt}

-- RFC 1982 §3.1: how far b is ahead of a, counted modulo 2^32
abbrev pub distance : ℕ → ℕ → ℕ
distance a b = (b + 2 ^ 32 - a) % 2 ^ 32

-- RFC 1982 §3.2: a is before b if b is ahead of it, by less than half of all numbers
abbrev pub is_before : ℕ → ℕ → Bool
is_before a b = nat_lt 0 (distance a b) && nat_lt (distance a b) (2 ^ 31)

-- RFC 1982 §3.2
abbrev pub is_at_most : ℕ → ℕ → Bool
is_at_most a b = a == b || is_before a b
