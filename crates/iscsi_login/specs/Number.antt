-- Numbers in values (RFC 7143 §6.1).
use Rattle.std.specs.Prelude.{ℕ, List, length, drop, Bool, ◌&&◌, ◌||◌, ◌==◌, nat_lt, nat_le, Option, Some, None, slice_index, if◌then◌else◌}
use Rattle.std.specs.Char.{digit_value}
use Rattle.std.specs.List.{list_all}
use Rattle.std.specs.Option.{option_and_then}
use Rattle.std.specs.Str.Parse.{digits_value}

-- a digit of this radix, in either case
abbrev pub is_digit : ℕ → ℕ → Bool
is_digit radix byte = nat_lt (digit_value byte) radix

-- the number that one or more digits spell
unfoldable pub numeral : ℕ → List ℕ → Option ℕ
numeral radix digits = if nat_lt 0 (length digits) && list_all (is_digit radix) digits then Some (digits_value radix digits) else None

-- RFC 7143 §6.1: a hexadecimal-constant begins with 0x or 0X
abbrev pub is_hexadecimal : List ℕ → Bool
is_hexadecimal text = slice_index text 0 == 48 && (slice_index text 1 == 120 || slice_index text 1 == 88)

-- RFC 7143 §6.1: a decimal-constant is 0 alone, or begins with another digit
abbrev pub has_leading_zero : List ℕ → Bool
has_leading_zero text = slice_index text 0 == 48 && nat_lt 1 (length text)

-- RFC 7143 §6.1: the number that a value is, if it has the form of one
unfoldable pub number_of : List ℕ → Option ℕ
number_of text =
    if is_hexadecimal text then numeral 16 (drop 2 text)
    else if has_leading_zero text then None
    else numeral 10 text

-- a number within these limits
abbrev pub within : ℕ → ℕ → ℕ → Option ℕ
within low high n = if nat_le low n && nat_le n high then Some n else None

-- the number that a value is, if it is within these limits
unfoldable pub number_in : ℕ → ℕ → List ℕ → Option ℕ
number_in low high text = option_and_then (within low high) (number_of text)
