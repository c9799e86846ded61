-- What is written to a store, and what remains of it if a write to its end failed.
use Rattle.std.specs.Prelude.{◌≡◌, ℕ, ◌*◌, ◌≤◌, ◌<◌, ◌⊎◌, min, nat_lt, Bool, true, false, List, ◌++◌, length, take, map, replicate, if◌then◌else◌}
use Rattle.tape_index.specs.Index.{mark_size, most_size}
use Rattle.media_tape.specs.Items.{size, items_of}
use Rattle.media_tape.specs.Tape.{TapeState, wrote_if_told, synced_if_told, written_synced, marked_synced}
use Rattle.media_tape.specs.declared.outcome.FixedWritten.{FixedWritten}
use Rattle.media_tape.specs.declared.outcome.FixedWritten.TheVariants as fixed_written
use Rattle.media_tape.specs.declared.outcome.Written.{Written}
use Rattle.media_tape.specs.declared.outcome.Written.TheVariants as written
use Rattle.media_tape.specs.declared.write.Objects.{Objects}
use Rattle.media_tape.specs.declared.write.Objects.TheVariants as object

-- own: the bytes before a place are as before, if it lies within them
abbrev pub KeepsBefore : ℕ → List ℕ → List ℕ → Type 0
KeepsBefore place old new = place ≤ length old → (place ≤ length new) × (take place new ≡ take place old)

-- own: zeros after a content, in parts of 4096 bytes, but no more than these
abbrev pub InParts : ℕ → List ℕ → List ℕ → Type 0
InParts size old new = (parts : ℕ) × (new ≡ old ++ replicate (min (4096 * parts) size) 0)

-- own: what a store holds between the calls of a write from a place on: what it held before, or the items before the
-- place, and after them some whole filemarks
abbrev pub StandsBetween : ℕ → List ℕ → List ℕ → Type 0
StandsBetween place old new = (new ≡ old) ⊎ ((many : ℕ) × (new ≡ take place old ++ replicate (8 * many) 0))

-- ---- own: objects that are written at once

-- their bytes
abbrev pub bytes_of : Objects → List ℕ
bytes_of (object.Records spelled count size) = spelled.items
bytes_of (object.Filemarks count) = replicate (8 * count) 0

abbrev pub count_of : Objects → ℕ
count_of (object.Records spelled count size) = count
count_of (object.Filemarks count) = count

abbrev pub each_size : Objects → ℕ
each_size (object.Records spelled count size) = size
each_size (object.Filemarks count) = mark_size

-- their bytes are this many items of this size
pub record AreWhole (objects : Objects) : Type 0 where
  pub sized : map size (items_of (bytes_of objects)) ≡ replicate (count_of objects) (each_size objects)
  pub total : length (bytes_of objects) ≡ count_of objects * each_size objects
  pub some : 0 < count_of objects
  pub least : mark_size ≤ each_size objects
  pub most : each_size objects ≤ most_size

-- filemarks are synced
abbrev pub is_synced : Objects → Bool
is_synced (object.Records spelled count size) = false
is_synced (object.Filemarks count) = true

abbrev pub put_synced : Objects → Written → Bool → Bool
put_synced (object.Records spelled count size) told before = written_synced told before
put_synced (object.Filemarks count) told before = marked_synced told before

-- the tape after them, unless they are refused
abbrev pub put_if_told : Objects → Written → TapeState → TapeState
put_if_told (object.Records spelled count size) told tape = wrote_if_told told (items_of spelled.items) tape
put_if_told (object.Filemarks count) told tape = synced_if_told told (wrote_if_told told (items_of (replicate (8 * count) 0)) tape)

-- own: the outcome of a write of `count` blocks, of which `fitting` fit and were written with this outcome
abbrev pub part_told : Written → ℕ → ℕ → FixedWritten
part_told written.Refused fitting count = fixed_written.Part 0
part_told written.Early fitting count = if nat_lt fitting count then fixed_written.Part fitting else fixed_written.Early
part_told written.Whole fitting count = if nat_lt fitting count then fixed_written.Part fitting else fixed_written.Whole
