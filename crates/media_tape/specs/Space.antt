-- SPACE (6) (SSC-4): from item to item, over records or over filemarks, after the position or before it.
use Rattle.std.specs.Prelude.{ℕ, zero, suc, List, [], ◌∷◌, length, reverse}
use Rattle.media_tape.specs.Items.{Item, Record, Filemark}
use Rattle.media_tape.specs.Tape.{TapeState, items, located_at}
use Rattle.tape_index.specs.Way.{Way, edge, spaced_to}
use Rattle.tape_index.specs.declared.outcome.Over.{Over}
use Rattle.tape_index.specs.declared.outcome.Over.TheVariants.{Records, Filemarks}
use Rattle.tape_index.specs.declared.outcome.Direction.{Direction}
use Rattle.tape_index.specs.declared.outcome.Direction.TheVariants.{Forward, Backward}
use Rattle.tape_index.specs.declared.outcome.Spaced.{Spaced}
use Rattle.tape_index.specs.declared.outcome.Spaced.TheVariants as spaced

abbrev pub one_more : Way → Way
one_more way = record { passed = suc way.passed; told = way.told }

-- SSC-4: spacing over records ends after a filemark, which is not counted; spacing over filemarks passes records
abbrev pub way : Direction → Over → ℕ → List Item → Way
way direction over zero items = record { passed = 0; told = spaced.Whole }
way direction over (suc left) [] = record { passed = 0; told = edge direction (suc left) }
way direction Records (suc left) (Record bytes ∷ items) = one_more (way direction Records left items)
way direction Records (suc left) (Filemark ∷ items) = record { passed = 1; told = spaced.Filemark (suc left) }
way direction Filemarks (suc left) (Record bytes ∷ items) = one_more (way direction Filemarks (suc left) items)
way direction Filemarks (suc left) (Filemark ∷ items) = one_more (way direction Filemarks left items)

-- the items on the way, the nearest first
abbrev pub ahead : Direction → TapeState → List Item
ahead Forward tape = tape.after
ahead Backward tape = reverse tape.before

-- SPACE (6) with the code for logical blocks, or for filemarks
abbrev pub spaced_told : Direction → Over → ℕ → TapeState → Spaced
spaced_told toward over count tape = (way toward over count (ahead toward tape)).told

abbrev pub tape_spaced : Direction → Over → ℕ → TapeState → TapeState
tape_spaced toward over count tape =
    located_at (spaced_to toward (length tape.before) (way toward over count (ahead toward tape)).passed) tape

-- SPACE (6) with the code for the end of data
abbrev pub tape_ended : TapeState → TapeState
tape_ended tape = located_at (length (items tape)) tape
