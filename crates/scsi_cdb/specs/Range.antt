-- Blocks that a command names.
use Rattle.std.specs.Prelude.{ℕ, ◌&&◌, Option, Some, None, nat_le, if◌then◌else◌}

-- a number of blocks from the first one on
pub record Range : Type 0 where
  pub first : ℕ
  pub count : ℕ

-- profile: the most blocks of one READ, of one WRITE and of one VERIFY with data
abbrev pub most_blocks : ℕ
most_blocks = 2048

-- profile: the most blocks of one COMPARE AND WRITE
abbrev pub most_compared : ℕ
most_compared = 128

-- profile: the most blocks of one WRITE SAME
abbrev pub most_same : ℕ
most_same = 32768

-- the range, if it has no fewer blocks and no more
abbrev pub range_between : ℕ → ℕ → ℕ → ℕ → Option Range
range_between least most first count =
    if nat_le least count && nat_le count most then Some (record { first = first; count = count }) else None

-- the blocks of a READ, of a WRITE, of a VERIFY with data
abbrev pub range_of : ℕ → ℕ → Option Range
range_of first count = range_between 0 most_blocks first count

-- the blocks of a COMPARE AND WRITE
abbrev pub compared_range_of : ℕ → ℕ → Option Range
compared_range_of first count = range_between 0 most_compared first count

-- the blocks of a WRITE SAME: at least one (SBC-3 "Block Limits VPD page", WSNZ)
abbrev pub same_range_of : ℕ → ℕ → Option Range
same_range_of first count = range_between 1 most_same first count
