-- The number of turns.
use Rattle.std.specs.Prelude.{ℕ, ◌-◌, ◌^◌, List, length, Bool, ◌&&◌, nat_lt, Option, Some, None, if◌then◌else◌}
use Rattle.std.specs.Char.{is_ascii_digit}
use Rattle.std.specs.List.{list_all}
use Rattle.std.specs.Str.Parse.{digits_value}

-- one decimal digit or more, and nothing else
abbrev pub is_digits : List ℕ → Bool
is_digits text = nat_lt 0 (length text) && list_all is_ascii_digit text

-- profile: a number in decimal digits, below 2^64
abbrev pub decimal_of : List ℕ → Option ℕ
decimal_of text = if is_digits text && nat_lt (digits_value 10 text) (2 ^ 64) then Some (digits_value 10 text) else None

-- profile: the largest number that can be given
abbrev pub most_turns : ℕ
most_turns = 2 ^ 64 - 1

-- profile: the value of `--turns`, and without it the largest number
abbrev pub turns_in : Option (List ℕ) → Option ℕ
turns_in None = Some most_turns
turns_in (Some text) = decimal_of text
