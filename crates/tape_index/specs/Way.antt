-- The way of SPACE (6) (SSC-4): how far, what ends it, and where.
use Rattle.std.specs.Prelude.{ℕ, ◌+◌, ◌-◌}
use Rattle.tape_index.specs.declared.outcome.Direction.{Direction}
use Rattle.tape_index.specs.declared.outcome.Direction.TheVariants.{Forward, Backward}
use Rattle.tape_index.specs.declared.outcome.Spaced.{Spaced}
use Rattle.tape_index.specs.declared.outcome.Spaced.TheVariants as spaced

-- the number of items passed, and what ended the spacing
pub record Way : Type 0 where
  pub passed : ℕ
  pub told : Spaced

-- no item is left: the end of data, or the beginning of the partition
abbrev pub edge : Direction → ℕ → Spaced
edge Forward left = spaced.EndOfData left
edge Backward left = spaced.Beginning left

abbrev pub spaced_to : Direction → ℕ → ℕ → ℕ
spaced_to Forward position passed = position + passed
spaced_to Backward position passed = position - passed
