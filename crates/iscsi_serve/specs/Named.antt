-- How many connections a poll named.
use Rattle.std.specs.Prelude.{ℕ, List, Bool, drop, length}
use Rattle.std.specs.List.{filter}
use Rattle.iscsi_ports.specs.declared.results.Named.{Named}

abbrev pub true_from : List Bool → ℕ → ℕ
true_from flags from = length (filter (λ flag. flag) (drop from flags))

-- the number of those from this one on
abbrev pub named_from : Named → ℕ → ℕ
named_from named from = true_from named.connections from
