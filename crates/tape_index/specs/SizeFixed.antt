-- Reading blocks, by the sizes of the items after the position.
use Rattle.std.specs.Prelude.{ℕ, zero, suc, ◌+◌, ◌-◌, ◌==◌, List, [], ◌∷◌, if◌then◌else◌}
use Rattle.tape_index.specs.Index.{mark_size}
use Rattle.tape_index.specs.declared.outcome.FixedEnd.{FixedEnd}
use Rattle.tape_index.specs.declared.outcome.FixedEnd.TheVariants as end
use Rattle.tape_index.specs.declared.outcome.FixedRead.{FixedRead}

-- this many blocks, and then this
abbrev pub behind : ℕ → FixedRead → FixedRead
behind many read = record { given = many + read.given; ended = read.ended }

-- SSC-4 "READ (6) command" with FIXED
abbrev pub size_fixed : ℕ → ℕ → List ℕ → FixedRead
size_fixed zero block_length sizes = record { given = 0; ended = end.Whole }
size_fixed (suc count) block_length [] = record { given = 0; ended = end.EndOfData }
size_fixed (suc count) block_length (size ∷ sizes) =
    if size == mark_size then record { given = 0; ended = end.Filemark }
    else if size == block_length + mark_size then behind 1 (size_fixed count block_length sizes)
    else record { given = 0; ended = end.Length (size - mark_size) }

-- SSC-4, own for a record of another length: what ended them is passed, if it is an item
abbrev pub passed_last : FixedEnd → ℕ
passed_last end.Whole = 0
passed_last end.Filemark = 1
passed_last end.EndOfData = 0
passed_last (end.Length length) = 1

abbrev pub fixed_passed : FixedRead → ℕ
fixed_passed read = read.given + passed_last read.ended
