-- The length of a record of a tape.
use Rattle.std.specs.Prelude.{ℕ, Option, Some, None, nat_le, if◌then◌else◌}

-- profile: the most bytes of one record
abbrev pub most_record : ℕ
most_record = 1048576

-- the length of a record that is written
abbrev pub record_length_of : ℕ → Option ℕ
record_length_of bytes = if nat_le bytes most_record then Some bytes else None
