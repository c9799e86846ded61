-- Laws of what commands do to a tape.
use Rattle.std.specs.Prelude.{◌≡◌, ◌≢◌, ℕ, List, [], ◌∷◌, length}
use Rattle.media_tape.specs.Items.{Record}
use Rattle.media_tape.specs.Tape.{TapeState, located_at, write_told, tape_written}
use Rattle.media_tape.specs.Space.{spaced_told, tape_spaced}
use Rattle.media_tape.specs.declared.outcome.Written.TheVariants as written
use Rattle.tape_index.specs.declared.outcome.Over.TheVariants.{Records}
use Rattle.tape_index.specs.declared.outcome.Direction.TheVariants.{Forward, Backward}
use Rattle.tape_index.specs.declared.outcome.Spaced.TheVariants as spaced

-- a record of these bytes that is written and not refused, and the position set before it again
abbrev pub before_written : List ℕ → TapeState → TapeState
before_written bytes tape = located_at (length tape.before) (tape_written bytes tape)

-- it is all that comes after the position, whatever stood there, and what is before it is as it was
pub record IsReadBack (bytes : List ℕ) (tape : TapeState) : Type 0 where
  pub before : (before_written bytes tape).before ≡ tape.before
  pub after : (before_written bytes tape).after ≡ Record bytes ∷ []

abbrev pub WrittenIsReadBack : Type 0
WrittenIsReadBack = (bytes : List ℕ) (tape : TapeState) → bytes ≢ [] → write_told bytes tape ≢ written.Refused → IsReadBack bytes tape

-- records that were spaced over, all of them, and spaced over again the other way
abbrev pub RecordsThereAndBack : Type 0
RecordsThereAndBack = (count : ℕ) (tape : TapeState) → spaced_told Forward Records count tape ≡ spaced.Whole
    → tape_spaced Backward Records count (tape_spaced Forward Records count tape) ≡ tape
