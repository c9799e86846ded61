-- A tape as the items before its position and those after it (SSC-4 "Position within a partition"), and what commands
-- do to it.
use Rattle.std.specs.Prelude.{◌≡◌, ℕ, ◌+◌, ◌*◌, ◌≤◌, ◌==◌, nat_lt, nat_le, List, [], ◌∷◌, ◌++◌, length, take, drop, replicate}
use Rattle.std.specs.Prelude.{Result, Bool, true, false, IsTrue, All, sum, map, if◌then◌else◌}
use Rattle.media_store.specs.Failures.{counted, risen}
use Rattle.media_tape.specs.Items.{Item, Record, Filemark, IsSize, size, size_of, items_of}
use Rattle.media_tape.specs.declared.outcome.Located.{Located}
use Rattle.media_tape.specs.declared.outcome.Located.TheVariants as located
use Rattle.media_tape.specs.declared.outcome.Passed.{Passed}
use Rattle.media_tape.specs.declared.outcome.Passed.TheVariants as passed
use Rattle.media_tape.specs.declared.outcome.Written.{Written}
use Rattle.media_tape.specs.declared.outcome.Written.TheVariants as written

-- own: the abstract value of a tape
pub record TapeState : Type 0 where
  pub before : List Item
  pub after : List Item
  -- what its store holds after the last item: some bytes only if a write or a cut failed
  pub tail : List ℕ
  pub is_loaded : Bool
  -- in bytes of items
  pub capacity : ℕ
  pub early_mark : ℕ
  -- those of its store
  pub synced : Bool
  pub failures : ℕ
  pub honest : Bool
  pub steady : Bool
  pub reach : ℕ
  -- a call of it that fails changes no byte
  pub atomic : Bool

abbrev pub items : TapeState → List Item
items tape = tape.before ++ tape.after

-- own: its items are of the same sizes as those of another, and its position is the same
pub record IsSizedAs (other tape : TapeState) : Type 0 where
  pub before : map size tape.before ≡ map size other.before
  pub after : map size tape.after ≡ map size other.after

-- own: a call that reads changes no more of a tape than its position and whether its store is honest; a failure is counted
abbrev pub IsReadFrom : {T E : Type 0} → Result T E → TapeState → TapeState → Type 0
IsReadFrom done old new = new ≡ record old { before = new.before; after = new.after; honest = new.honest; failures = counted done old.failures }

-- own: a call that writes changes no more of it than its items, its position and whether it is synced; a failure is counted
abbrev pub IsWrittenTo : {T E : Type 0} → Result T E → TapeState → TapeState → Type 0
IsWrittenTo done old new = new ≡ record old {
  before = new.before;
  after = new.after;
  tail = new.tail;
  synced = new.synced;
  failures = counted done old.failures;
}

-- own: the tape with its position after this many items
abbrev pub located_at : ℕ → TapeState → TapeState
located_at number tape = record tape { before = take number (items tape); after = drop number (items tape) }

-- LOCATE (10) (SSC-4)
abbrev pub located_told : ℕ → TapeState → Located
located_told number tape = if nat_le number (length (items tape)) then located.There else located.EndOfData

-- ---- READ (6) (SSC-4)

-- what the first of these items is, if it is passed
abbrev pub first_told : List Item → Passed
first_told [] = passed.EndOfData
first_told (Record bytes ∷ items) = passed.Record (length bytes)
first_told (Filemark ∷ items) = passed.Filemark

-- by its length: a filemark has no byte
abbrev pub length_told : ℕ → Passed
length_told length = if length == 0 then passed.Filemark else passed.Record length

-- the length of a record that was passed
abbrev pub passed_length : Passed → ℕ
passed_length passed.Nothing = 0
passed_length (passed.Record length) = length
passed_length passed.Filemark = 0
passed_length passed.EndOfData = 0

-- profile: a read of no bytes passes nothing
abbrev pub read_told : ℕ → TapeState → Passed
read_told room tape = if room == 0 then passed.Nothing else first_told tape.after

-- its bytes
abbrev pub first_data : List Item → List ℕ
first_data [] = []
first_data (Record bytes ∷ items) = bytes
first_data (Filemark ∷ items) = []

-- own: a buffer with as many of these bytes at its front as there is room for
abbrev pub filled : List ℕ → List ℕ → List ℕ
filled bytes buffer = take (length buffer) bytes ++ drop (length bytes) buffer

-- the first item is passed
abbrev pub tape_read : ℕ → TapeState → TapeState
tape_read room tape =
    if room == 0 then tape
    else record tape { before = tape.before ++ take 1 tape.after; after = drop 1 tape.after }

-- ---- WRITE (6), WRITE FILEMARKS (6), ERASE (6) (SSC-4)

-- profile: items of this size are refused if they would exceed the capacity, and reported as early if they then exceed
-- the early mark
abbrev pub size_told : ℕ → TapeState → Written
size_told more tape =
    if nat_lt tape.capacity (size_of tape.before + more) then written.Refused
    else if nat_lt tape.early_mark (size_of tape.before + more) then written.Early
    else written.Whole

-- profile: items from the position on, in place of everything that stood there
abbrev pub wrote : List Item → TapeState → TapeState
wrote others tape = record tape { before = tape.before ++ others; after = []; tail = []; synced = false }

-- unless they are refused
abbrev pub wrote_if_told : Written → List Item → TapeState → TapeState
wrote_if_told written.Refused others tape = tape
wrote_if_told written.Early others tape = wrote others tape
wrote_if_told written.Whole others tape = wrote others tape

-- profile: a write of no bytes changes nothing
abbrev pub write_told : List ℕ → TapeState → Written
write_told [] tape = written.Whole
write_told (byte ∷ bytes) tape = size_told (length (byte ∷ bytes) + 8) tape

abbrev pub tape_written : List ℕ → TapeState → TapeState
tape_written [] tape = tape
tape_written (byte ∷ bytes) tape = wrote_if_told (write_told (byte ∷ bytes) tape) (Record (byte ∷ bytes) ∷ []) tape

-- profile: after that everything is synced, even if there is no filemark to write
abbrev pub marks_told : ℕ → TapeState → Written
marks_told count tape = if count == 0 then written.Whole else size_told (8 * count) tape

abbrev pub synced_if_told : Written → TapeState → TapeState
synced_if_told written.Refused tape = tape
synced_if_told written.Early tape = record tape { synced = true }
synced_if_told written.Whole tape = record tape { synced = true }

abbrev pub tape_marked : ℕ → TapeState → TapeState
tape_marked count tape =
    if count == 0 then record tape { synced = true }
    else synced_if_told (size_told (8 * count) tape) (wrote_if_told (size_told (8 * count) tape) (replicate count Filemark) tape)

-- own: whether everything is on the medium after a WRITE or WRITE FILEMARKS with this outcome, by whether it was before
abbrev pub written_synced : Written → Bool → Bool
written_synced written.Refused before = before
written_synced written.Early before = false
written_synced written.Whole before = false

abbrev pub marked_synced : Written → Bool → Bool
marked_synced written.Refused before = before
marked_synced written.Early before = true
marked_synced written.Whole before = true

-- the items from the position on are removed
abbrev pub erased : TapeState → TapeState
erased tape = wrote [] tape

-- own: the early warning mark is passed if the items before the position are longer (SSC-4 "early-warning")
abbrev pub is_early : TapeState → Bool
is_early tape = nat_lt tape.early_mark (size_of tape.before)

-- own: what remains after a write, a cut or a sync failed: the items before the position
abbrev pub lost : List ℕ → Bool → TapeState → TapeState
lost tail synced tape = record tape { after = []; tail = tail; synced = synced; failures = risen tape.failures }

-- ---- own: what a tape knows of the content of its store

-- the items in front of an end are of these sizes, and nothing else stands there. If no write or cut failed, nothing
-- stands after them either
pub record AreIn (content sizes : List ℕ) (is_torn : Bool) : Type 0 where
  pub long : sum sizes ≤ length content
  pub sized : map size (items_of (take (sum sizes) content)) ≡ sizes
  pub whole : is_torn ≡ false → length content ≡ sum sizes

-- the position is among items of these sizes, which stand in the store if it is honest
pub record IsIndexed (honest : Bool) (content sizes : List ℕ) (is_torn : Bool) (position capacity : ℕ) : Type 0 where
  pub within : position ≤ length sizes
  pub fits : sum sizes ≤ capacity
  pub sized : All IsSize sizes
  pub are_in : IsTrue honest → AreIn content sizes is_torn
