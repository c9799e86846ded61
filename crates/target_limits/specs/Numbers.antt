-- The numbers of connections.
use Rattle.std.specs.Prelude.{ℕ, List, Bool, nat_lt}
use Rattle.std.specs.List.{range_with_len}

-- profile: connections are numbered from 0 to 63
abbrev pub connection_limit : ℕ
connection_limit = 64

abbrev pub connections : List ℕ
connections = range_with_len 0 connection_limit

-- the number is that of a connection
abbrev pub is_number : ℕ → Bool
is_number c = nat_lt c connection_limit
