-- READ (6) and WRITE (6) with FIXED (SSC-4): several records of one length, here called blocks.
use Rattle.std.specs.Prelude.{◌≡◌, ℕ, zero, suc, ◌+◌, ◌-◌, ◌*◌, ◌/◌, ◌<◌, ◌==◌, ◌||◌, min, nat_lt, List, [], ◌∷◌, ◌++◌, length, take, drop}
use Rattle.std.specs.Prelude.{Bool, false, if◌then◌else◌}
use Rattle.media_tape.specs.Items.{Item, Record, Filemark, size_of}
use Rattle.tape_index.specs.SizeFixed.{fixed_passed}
use Rattle.media_tape.specs.Tape.{TapeState, wrote}
use Rattle.tape_index.specs.declared.outcome.FixedEnd.{FixedEnd}
use Rattle.tape_index.specs.declared.outcome.FixedEnd.TheVariants as end
use Rattle.tape_index.specs.declared.outcome.FixedRead.{FixedRead}
use Rattle.media_tape.specs.declared.outcome.FixedWritten.{FixedWritten}
use Rattle.media_tape.specs.declared.outcome.FixedWritten.TheVariants as fixed_written

-- ---- READ (6) with FIXED

-- the number of blocks returned, their bytes, and what ended them
pub record Fixed : Type 0 where
  pub given : ℕ
  pub bytes : List ℕ
  pub ended : FixedEnd

-- no block is returned
abbrev pub ending : FixedEnd → Fixed
ending ended = record { given = 0; bytes = []; ended = ended }

-- a block, and then these
abbrev pub giving : List ℕ → Fixed → Fixed
giving block rest = record { given = suc rest.given; bytes = block ++ rest.bytes; ended = rest.ended }

-- SSC-4 "READ (6) command": `count` blocks of a length from these items, as far as they are records of that length
abbrev pub fixed : ℕ → ℕ → List Item → Fixed
fixed zero block_length items = ending end.Whole
fixed (suc count) block_length [] = ending end.EndOfData
fixed (suc count) block_length (Filemark ∷ items) = ending end.Filemark
fixed (suc count) block_length (Record bytes ∷ items) =
    if length bytes == block_length then giving bytes (fixed count block_length items)
    else ending (end.Length (length bytes))

abbrev pub fixed_told : ℕ → ℕ → TapeState → FixedRead
fixed_told count block_length tape =
    let read = fixed count block_length tape.after in record { given = read.given; ended = read.ended }

abbrev pub fixed_data : ℕ → ℕ → TapeState → List ℕ
fixed_data count block_length tape = (fixed count block_length tape.after).bytes

-- own: a read of blocks can come out so: on some items it does
abbrev pub Gives : ℕ → ℕ → FixedRead → List ℕ → Type 0
Gives count block_length read bytes =
    (items : List Item) × (fixed count block_length items ≡ record { given = read.given; bytes = bytes; ended = read.ended })

-- this many items are passed
abbrev pub tape_passed : ℕ → TapeState → TapeState
tape_passed many tape = record tape { before = tape.before ++ take many tape.after; after = drop many tape.after }

abbrev pub tape_read_fixed : ℕ → ℕ → TapeState → TapeState
tape_read_fixed count block_length tape = tape_passed (fixed_passed (fixed_told count block_length tape)) tape

-- ---- WRITE (6) with FIXED

-- own: the number of blocks that fit within the capacity
abbrev pub fitting : ℕ → ℕ → TapeState → ℕ
fitting count block_length tape = min count ((tape.capacity - size_of tape.before) / (block_length + 8))

-- own: a write of no byte does nothing
abbrev pub fixed_written_told : ℕ → ℕ → TapeState → FixedWritten
fixed_written_told count block_length tape =
    if count * block_length == 0 then fixed_written.Whole
    else if nat_lt (fitting count block_length tape) count then fixed_written.Part (fitting count block_length tape)
    else if nat_lt tape.early_mark (size_of tape.before + count * (block_length + 8)) then fixed_written.Early
    else fixed_written.Whole

-- `count` blocks of a length with these bytes
abbrev pub blocks_of : ℕ → ℕ → List ℕ → List Item
blocks_of zero block_length bytes = []
blocks_of (suc count) block_length bytes = Record (take block_length bytes) ∷ blocks_of count block_length (drop block_length bytes)

-- own: those that fit are written in place of everything after the position; if none fits, nothing changes
abbrev pub tape_written_fixed : ℕ → ℕ → List ℕ → TapeState → TapeState
tape_written_fixed count block_length bytes tape =
    if (count * block_length == 0) || (fitting count block_length tape == 0) then tape
    else wrote (blocks_of (fitting count block_length tape) block_length bytes) tape

-- own: whether everything is on the medium after a write of blocks with this outcome, by whether it was before
abbrev pub fixed_synced : FixedWritten → Bool → Bool
fixed_synced fixed_written.Whole before = false
fixed_synced fixed_written.Early before = false
fixed_synced (fixed_written.Part count) before = if count == 0 then before else false

-- own: a part is less than all
abbrev pub IsPart : ℕ → FixedWritten → Type 0
IsPart count fixed_written.Whole = Unit {0}
IsPart count fixed_written.Early = Unit {0}
IsPart count (fixed_written.Part fits) = fits < count
