-- The calls of the system on an open file, and how they are noted.
use Rattle.std.specs.Prelude.{ℕ, Bool, true, false, ◌==◌, if◌then◌else◌, List, map, length, take, slice_index, slice_index_or, Result, Ok, Err}
use Rattle.std.specs.IoError.{error_kind}
use Rattle.std.specs.declared.io.Error.{Error}
use Rattle.std.specs.declared.io.ErrorKind.{ErrorKind}
use Rattle.std.specs.declared.io.ErrorKind.TheVariants as kinds
use Rattle.call_record.specs.Noted.{Noted}
use Rattle.media_store.specs.declared.system_file.TheConstants.{END, READ, WRITE, RESIZE, SYNC, OPEN, LOCK, REFUSE_SYNC}

-- own: a call with its answer; offsets, lengths and counts are in bytes. One that failed says whether a signal
-- interrupted it
pub data FileCall : Type 0 where
  -- the file at this path was opened, or was not
  Opened : (path : List ℕ) → FileCall
  NotOpened : (path : List ℕ) → FileCall
  -- the file was locked (flock(2)), or was not
  Locked : FileCall
  NotLocked : FileCall
  -- where the end is, or that it was not told
  Measured : (len : ℕ) → FileCall
  NotMeasured : (interrupted : Bool) → FileCall
  -- these bytes, of the number asked for, came from an offset on, or a read of that number failed
  Read : (at : ℕ) (bytes : List ℕ) (count : ℕ) → FileCall
  NotRead : (at count : ℕ) (interrupted : Bool) → FileCall
  -- these bytes, of the number offered, were taken at an offset, or a write of that number failed
  Wrote : (at : ℕ) (bytes : List ℕ) (count : ℕ) → FileCall
  NotWritten : (at count : ℕ) (interrupted : Bool) → FileCall
  -- the file has this length, or may have it
  Resized : (len : ℕ) → FileCall
  NotResized : (len : ℕ) (interrupted : Bool) → FileCall
  -- what was written is on the medium, or may be
  Synced : FileCall
  NotSynced : (interrupted : Bool) → FileCall
  -- no further call was made
  GaveUp : FileCall
  -- no sync was made, since one had failed before
  SyncRefused : FileCall

-- signal(7): an error says that a signal interrupted the call
abbrev pub is_interruption : ErrorKind → Bool
is_interruption kinds.Interrupted = true
is_interruption _ = false

abbrev pub was_interrupted : Error → Bool
was_interrupted error = is_interruption (error_kind error)

-- own: the call of each method with its answer
abbrev pub measuring : Result ℕ Error → FileCall
measuring (Ok len) = Measured len
measuring (Err error) = NotMeasured (was_interrupted error)

abbrev pub reading : ℕ → List ℕ → Result ℕ Error → FileCall
reading at buffer (Ok count) = Read at (take count buffer) (length buffer)
reading at buffer (Err error) = NotRead at (length buffer) (was_interrupted error)

abbrev pub writing : ℕ → List ℕ → Result ℕ Error → FileCall
writing at bytes (Ok count) = Wrote at (take count bytes) (length bytes)
writing at bytes (Err error) = NotWritten at (length bytes) (was_interrupted error)

abbrev pub resizing : {T : Type 0} → ℕ → Result T Error → FileCall
resizing len (Ok done) = Resized len
resizing len (Err error) = NotResized len (was_interrupted error)

abbrev pub syncing : {T : Type 0} → Result T Error → FileCall
syncing (Ok done) = Synced
syncing (Err error) = NotSynced (was_interrupted error)

-- own: how a note is read. Its first number is the kind of call, the second an offset or a length, the third a count;
-- its first flag says whether the call succeeded, the second whether a signal interrupted it
abbrev pub succeeded : ℕ → ℕ → ℕ → List ℕ → FileCall
succeeded kind number count bytes =
    if kind == END then Measured number
    else if kind == READ then Read number bytes count
    else if kind == WRITE then Wrote number bytes count
    else if kind == RESIZE then Resized number
    else if kind == SYNC then Synced
    else if kind == OPEN then Opened bytes
    else if kind == LOCK then Locked
    else GaveUp

abbrev pub failed : ℕ → ℕ → ℕ → List ℕ → Bool → FileCall
failed kind number count bytes interrupted =
    if kind == END then NotMeasured interrupted
    else if kind == READ then NotRead number count interrupted
    else if kind == WRITE then NotWritten number count interrupted
    else if kind == RESIZE then NotResized number interrupted
    else if kind == SYNC then NotSynced interrupted
    else if kind == OPEN then NotOpened bytes
    else if kind == LOCK then NotLocked
    else if kind == REFUSE_SYNC then SyncRefused
    else GaveUp

abbrev pub call_of : Noted → FileCall
call_of noted =
    let kind = slice_index noted.numbers 0 in
    let number = slice_index noted.numbers 1 in
    let count = slice_index noted.numbers 2 in
    if slice_index_or noted.flags 0 false then succeeded kind number count noted.bytes
    else failed kind number count noted.bytes (slice_index_or noted.flags 1 false)

-- own: the calls of a record, the newest first
abbrev pub calls_of : List Noted → List FileCall
calls_of noted = map call_of noted
