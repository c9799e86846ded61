-- What commands do to a tape, and what they return (SSC-4 "Command descriptions").
use Rattle.std.specs.Prelude.{ℕ, ◌+◌, ◌-◌, ◌*◌, ◌%◌, ◌^◌, ◌==◌, nat_lt, not, min, List, [], ◌∷◌, ◌++◌, length, take, replicate, Bool, false}
use Rattle.std.specs.Prelude.{Some, if◌then◌else◌}
use Rattle.std.specs.Int.{w32, to_be_bytes}
use Rattle.media_tape.specs.Tape.{TapeState, located_at, located_told, read_told, first_data, tape_read, write_told, tape_written}
use Rattle.media_tape.specs.Tape.{marks_told, tape_marked, erased, is_early}
use Rattle.media_tape.specs.Fixed.{fixed_told, fixed_data, tape_read_fixed, fixed_written_told, tape_written_fixed}
use Rattle.media_tape.specs.Space.{spaced_told, tape_spaced, tape_ended}
use Rattle.tape_index.specs.declared.outcome.FixedEnd.{FixedEnd}
use Rattle.tape_index.specs.declared.outcome.FixedEnd.TheVariants as ended
use Rattle.tape_index.specs.declared.outcome.FixedRead.{FixedRead}
use Rattle.media_tape.specs.declared.outcome.FixedWritten.{FixedWritten}
use Rattle.media_tape.specs.declared.outcome.FixedWritten.TheVariants as fixed
use Rattle.media_tape.specs.declared.outcome.Located.{Located}
use Rattle.media_tape.specs.declared.outcome.Located.TheVariants as located
use Rattle.media_tape.specs.declared.outcome.Passed.{Passed}
use Rattle.media_tape.specs.declared.outcome.Passed.TheVariants as passed
use Rattle.media_tape.specs.declared.outcome.Written.{Written}
use Rattle.media_tape.specs.declared.outcome.Written.TheVariants as written
use Rattle.tape_index.specs.declared.outcome.Spaced.{Spaced}
use Rattle.tape_index.specs.declared.outcome.Spaced.TheVariants as spaced
use Rattle.tape_index.specs.declared.outcome.Over.{Over}
use Rattle.tape_index.specs.declared.outcome.Over.TheVariants as over
use Rattle.tape_index.specs.declared.outcome.Direction.{Direction}
use Rattle.tape_index.specs.declared.outcome.Direction.TheVariants as direction
use Rattle.scsi_sense.specs.Done.{Outcome, good, good_with, good_taking, check_condition}
use Rattle.scsi_sense.specs.declared.sense.Sense.{Sense}
use Rattle.scsi_sense.specs.declared.done.Status.TheVariants.{CheckCondition}
use Rattle.scsi_cdb.specs.FixedBlocks.{Blocks, bytes_of}
use Rattle.scsi_cdb.specs.declared.tape.Distance.{Distance}
use Rattle.scsi_cdb.specs.declared.tape.IncorrectLength.{IncorrectLength}
use Rattle.scsi_cdb.specs.declared.tape.IncorrectLength.TheVariants.{Told, ToldIfLonger, Suppressed}
use Rattle.scsi_cdb.specs.declared.tape.SpaceCode.{SpaceCode}
use Rattle.scsi_cdb.specs.declared.tape.SpaceCode.TheVariants.{LogicalBlocks, Filemarks}
use Rattle.scsi_cdb.specs.declared.tape.TapeCommand.{TapeCommand}
use Rattle.scsi_cdb.specs.declared.tape.TapeCommand.TheVariants.{Rewind, ReadBlockLimits, Read, ReadFixed, Write, WriteFixed, WriteFilemarks, Space}
use Rattle.scsi_cdb.specs.declared.tape.TapeCommand.TheVariants.{SpaceToEndOfData, Erase, LoadUnload, Locate, ReadPosition}
use Rattle.scsi_tape.specs.TapeSense.{filemark, end_of_data, beginning, early_warning, overflow, incorrect_length, no_such_object}

-- ---- READ (6), READ POSITION, READ BLOCK LIMITS

-- SSC-4 "READ (6) command": the length requested less that of the record, in two's complement
abbrev pub length_difference : ℕ → ℕ → ℕ
length_difference asked actual = (asked + (2 ^ 32 - actual)) % 2 ^ 32

-- CHECK CONDITION with data (SSC-4 "READ (6) command", ILI)
abbrev pub given_with : Sense → List ℕ → Outcome
given_with sense bytes = record { status = CheckCondition; sense = Some sense; given = bytes; moved = length bytes }

-- SSC-4 "READ (6) command", SILI: whether a record whose length differs from the length requested is reported
abbrev pub is_told : IncorrectLength → ℕ → ℕ → Bool
is_told Told asked actual = not (actual == asked)
is_told ToldIfLonger asked actual = nat_lt asked actual
is_told Suppressed asked actual = false

-- a record of this length, of which these bytes are returned
abbrev pub record_outcome : ℕ → IncorrectLength → ℕ → List ℕ → Outcome
record_outcome asked incorrect actual bytes =
    if is_told incorrect asked actual then given_with (incorrect_length (length_difference asked actual)) bytes
    else good_with bytes

-- SSC-4 "READ (6) command": the outcome by what was passed, with its data
abbrev pub read_outcome : ℕ → IncorrectLength → Passed → List ℕ → Outcome
read_outcome asked incorrect passed.Nothing bytes = good
read_outcome asked incorrect (passed.Record actual) bytes = record_outcome asked incorrect actual (take asked bytes)
read_outcome asked incorrect passed.Filemark bytes = check_condition (filemark asked)
read_outcome asked incorrect passed.EndOfData bytes = check_condition (end_of_data asked)

-- SSC-4 "READ (6) command", FIXED: what ended it before its last block is reported with the number of blocks not
-- returned
abbrev pub fixed_ended : ℕ → FixedEnd → List ℕ → Outcome
fixed_ended left ended.Whole bytes = good_with bytes
fixed_ended left ended.Filemark bytes = given_with (filemark left) bytes
fixed_ended left ended.EndOfData bytes = given_with (end_of_data left) bytes
fixed_ended left (ended.Length actual) bytes = given_with (incorrect_length left) bytes

-- the outcome of a READ of `count` blocks that returned these
abbrev pub fixed_outcome : ℕ → FixedRead → List ℕ → Outcome
fixed_outcome count read bytes = fixed_ended (count - read.given) read.ended bytes

-- SSC-4 "READ BLOCK LIMITS command": a record has 1 to 1048576 bytes, whatever the granularity
abbrev pub block_limits : List ℕ
block_limits = 0x00 ∷ 0x10 ∷ 0x00 ∷ 0x00 ∷ 0x00 ∷ 0x01 ∷ []

-- SSC-4 "READ POSITION command", short form: BOP, or EOP past the early warning mark (profile)
abbrev pub position_flags : ℕ → Bool → ℕ
position_flags position early = if position == 0 then 0x80 else if early then 0x40 else 0x00

-- FIRST and LAST LOGICAL OBJECT LOCATION, FFFFFFFFh if the position is above that
abbrev pub location : ℕ → List ℕ
location position = to_be_bytes w32 (min position (2 ^ 32 - 1))

-- SSC-4 "READ POSITION command", short form: partition 0, no object is in a buffer
abbrev pub position_data : ℕ → Bool → List ℕ
position_data position early =
    (position_flags position early ∷ replicate 3 0) ++ location position ++ location position ++ replicate 8 0

-- ---- WRITE (6), WRITE FILEMARKS (6)

-- SSC-4 "WRITE (6) command": the outcome of a WRITE of `count` bytes; those past the early warning mark were written
-- too
abbrev pub write_outcome : ℕ → Written → Outcome
write_outcome count written.Whole = good_taking count
write_outcome count written.Early = record (check_condition early_warning) { moved = count }
write_outcome count written.Refused = check_condition (overflow count)

-- SSC-4 "WRITE (6) command", FIXED: if not all fit, with the number of those not written
abbrev pub fixed_write_outcome : Blocks → FixedWritten → Outcome
fixed_write_outcome blocks fixed.Whole = good_taking (bytes_of blocks)
fixed_write_outcome blocks fixed.Early = record (check_condition early_warning) { moved = bytes_of blocks }
fixed_write_outcome blocks (fixed.Part some) =
    record (check_condition (overflow (blocks.count - some))) { moved = some * blocks.block_length }

-- SSC-4 "WRITE FILEMARKS (6) command"
abbrev pub marks_outcome : ℕ → Written → Outcome
marks_outcome count written.Whole = good
marks_outcome count written.Early = check_condition early_warning
marks_outcome count written.Refused = check_condition (overflow count)

-- ---- SPACE (6), LOCATE (10)

abbrev pub over_of : SpaceCode → Over
over_of LogicalBlocks = over.Records
over_of Filemarks = over.Filemarks

abbrev pub toward : Distance → Direction
toward distance = if distance.is_backward then direction.Backward else direction.Forward

-- SSC-4 "SPACE (6) command": the information is what was left of the count
abbrev pub space_outcome : Spaced → Outcome
space_outcome spaced.Whole = good
space_outcome (spaced.Filemark left) = check_condition (filemark left)
space_outcome (spaced.EndOfData left) = check_condition (end_of_data left)
space_outcome (spaced.Beginning left) = check_condition (beginning left)

-- SSC-4 "LOCATE (10) command"
abbrev pub locate_outcome : Located → Outcome
locate_outcome located.There = good
locate_outcome located.EndOfData = check_condition no_such_object

-- ---- all

-- SSC-4, each command in "Command descriptions": what a command with this data returns
abbrev pub tape_outcome : TapeCommand → List ℕ → TapeState → Outcome
tape_outcome Rewind bytes tape = good
tape_outcome ReadBlockLimits bytes tape = good_with block_limits
tape_outcome (Read asked incorrect) bytes tape = read_outcome asked incorrect (read_told asked tape) (first_data tape.after)
tape_outcome (ReadFixed blocks) bytes tape =
    fixed_outcome blocks.count (fixed_told blocks.count blocks.block_length tape) (fixed_data blocks.count blocks.block_length tape)
tape_outcome (Write count) bytes tape = write_outcome count (write_told (take count bytes) tape)
tape_outcome (WriteFixed blocks) bytes tape =
    fixed_write_outcome blocks (fixed_written_told blocks.count blocks.block_length tape)
tape_outcome (WriteFilemarks count) bytes tape = marks_outcome count (marks_told count tape)
tape_outcome (Space code distance) bytes tape = space_outcome (spaced_told (toward distance) (over_of code) distance.count tape)
tape_outcome SpaceToEndOfData bytes tape = good
tape_outcome Erase bytes tape = good
tape_outcome (LoadUnload load) bytes tape = good
tape_outcome (Locate number) bytes tape = locate_outcome (located_told number tape)
tape_outcome ReadPosition bytes tape = good_with (position_data (length tape.before) (is_early tape))

-- SSC-4, each command in "Command descriptions": the tape as a command with this data leaves it
abbrev pub tape_left : TapeCommand → List ℕ → TapeState → TapeState
tape_left Rewind bytes tape = located_at 0 tape
tape_left ReadBlockLimits bytes tape = tape
tape_left (Read asked incorrect) bytes tape = tape_read asked tape
tape_left (ReadFixed blocks) bytes tape = tape_read_fixed blocks.count blocks.block_length tape
tape_left (Write count) bytes tape = tape_written (take count bytes) tape
tape_left (WriteFixed blocks) bytes tape =
    tape_written_fixed blocks.count blocks.block_length (take (bytes_of blocks) bytes) tape
tape_left (WriteFilemarks count) bytes tape = tape_marked count tape
tape_left (Space code distance) bytes tape = tape_spaced (toward distance) (over_of code) distance.count tape
tape_left SpaceToEndOfData bytes tape = tape_ended tape
tape_left Erase bytes tape = erased tape
tape_left (LoadUnload load) bytes tape = record (located_at 0 tape) { is_loaded = load }
tape_left (Locate number) bytes tape = located_at number tape
tape_left ReadPosition bytes tape = tape

-- ---- what a command needs

-- the number of bytes of data; of a longer payload the first are used (profile)
abbrev pub bytes_needed : TapeCommand → ℕ
bytes_needed Rewind = 0
bytes_needed ReadBlockLimits = 0
bytes_needed (Read asked incorrect) = 0
bytes_needed (ReadFixed blocks) = 0
bytes_needed (Write count) = count
bytes_needed (WriteFixed blocks) = bytes_of blocks
bytes_needed (WriteFilemarks count) = 0
bytes_needed (Space code distance) = 0
bytes_needed SpaceToEndOfData = 0
bytes_needed Erase = 0
bytes_needed (LoadUnload load) = 0
bytes_needed (Locate number) = 0
bytes_needed ReadPosition = 0
