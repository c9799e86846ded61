-- A flag for each connection.
use Rattle.std.specs.Prelude.{ℕ, Bool, false, List, replicate, slice_index_or, slice_set, if◌then◌else◌}
use Rattle.target_limits.specs.Numbers.{connection_limit}

abbrev pub flag_of : ℕ → List Bool → Bool
flag_of c flags = slice_index_or flags c false

-- the flags with this one of a connection, where something says so
abbrev pub flags_with : Bool → ℕ → Bool → List Bool → List Bool
flags_with says c flag flags = if says then slice_set flags c flag else flags

abbrev pub none_of : List Bool
none_of = replicate connection_limit false
