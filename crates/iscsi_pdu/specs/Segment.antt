-- Data segments and their padding (RFC 7143 §11.1).
use Rattle.std.specs.Prelude.{ℕ, ◌+◌, ◌-◌, ◌*◌, ◌/◌, List, ◌++◌, length, replicate}

-- profile: the length in bytes of the longest data segment that is accepted or sent
abbrev pub most_data : ℕ
most_data = 262144

-- RFC 7143 §11.1: n bytes and their padding to a multiple of 4
abbrev pub padded : ℕ → ℕ
padded n = 4 * ((n + 3) / 4)

-- RFC 7143 §11.1: the sent pad bytes are 0
abbrev pub segment : List ℕ → List ℕ
segment bytes = bytes ++ replicate (padded (length bytes) - length bytes) 0
