-- StatSN (RFC 7143 §4.2.2.2).
use Rattle.std.specs.Prelude.{ℕ, ◌^◌, ◌%◌}

-- RFC 7143 §4.2.2.2: StatSN counts the answers of a connection that bear status, here how many came before
abbrev pub stat_sn : ℕ → ℕ
stat_sn answered = answered % 2 ^ 32
