-- SPACE (6) (SSC-4): from item to item, over records or over filemarks, after the position or before it.
use Rattle.std.specs.Prelude.{◌≡◌, ℕ, zero, suc, ◌+◌, ◌≤◌, ◌<◌, ◌==◌, List, [], ◌∷◌, length, if◌then◌else◌}
use Rattle.tape_index.specs.Index.{mark_size, sizes_ahead}
use Rattle.tape_index.specs.Way.{Way, edge, spaced_to}
use Rattle.tape_index.specs.declared.outcome.Over.{Over}
use Rattle.tape_index.specs.declared.outcome.Over.TheVariants.{Records, Filemarks}
use Rattle.tape_index.specs.declared.outcome.Direction.{Direction}
use Rattle.tape_index.specs.declared.outcome.Spaced.TheVariants as spaced
use Rattle.tape_index.specs.declared.space.Ended.{Ended}
use Rattle.tape_index.specs.declared.space.Within.{Within}
use Rattle.tape_index.specs.declared.space.Within.TheVariants as within

abbrev pub further : ℕ → Way → Way
further many size_way = record { passed = many + size_way.passed; told = size_way.told }

-- SSC-4: spacing over records ends after a filemark, which is not counted; spacing over filemarks passes records
abbrev pub size_way : Direction → Over → ℕ → List ℕ → Way
size_way direction over zero sizes = record { passed = 0; told = spaced.Whole }
size_way direction over (suc left) [] = record { passed = 0; told = edge direction (suc left) }
size_way direction Records (suc left) (size ∷ sizes) =
    if size == mark_size then record { passed = 1; told = spaced.Filemark (suc left) }
    else further 1 (size_way direction Records left sizes)
size_way direction Filemarks (suc left) (size ∷ sizes) =
    if size == mark_size then further 1 (size_way direction Filemarks left sizes)
    else further 1 (size_way direction Filemarks (suc left) sizes)

abbrev pub size_way_from : Direction → Over → ℕ → ℕ → List ℕ → Way
size_way_from direction over count from sizes = size_way direction over count (sizes_ahead direction from sizes)

-- own: the number of records before the first filemark
abbrev pub leading_records : List ℕ → ℕ
leading_records [] = 0
leading_records (size ∷ sizes) = if size == mark_size then 0 else suc (leading_records sizes)

-- own: the position past the records next to one
abbrev pub past_records : Direction → ℕ → List ℕ → ℕ
past_records toward at sizes = spaced_to toward at (leading_records (sizes_ahead toward at sizes))

-- own: the size_way through a run and then through these items
abbrev pub through : Within → Direction → Over → ℕ → List ℕ → Way
through (within.All left) direction over many sizes = further many (size_way direction over left sizes)
through (within.Part passed told) direction over many sizes = record { passed = passed; told = told }

-- own: something is left after a run that is passed; of one that is not, no more is passed than it has
abbrev pub IsWithin : ℕ → Within → Type 0
IsWithin many (within.All left) = 0 < left
IsWithin many (within.Part passed told) = passed ≤ many

-- own: spacing ends at this place with this outcome
pub record HasEnded (toward : Direction) (over : Over) (count from : ℕ) (sizes : List ℕ) (ended : Ended) : Type 0 where
  pub within : ended.number ≤ length sizes
  pub number : ended.number ≡ spaced_to toward from (size_way_from toward over count from sizes).passed
  pub told : ended.told ≡ (size_way_from toward over count from sizes).told
