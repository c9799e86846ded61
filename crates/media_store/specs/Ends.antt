-- At which call of the system a call of a store ends, and how many calls of the store failed.
use Rattle.std.specs.Prelude.{◌≡◌, ℕ, ◌+◌, ◌-◌, ◌^◌, nat_lt, nat_le, ◌==◌, Bool, true, false, not, ◌&&◌, ◌||◌, IsTrue, List, [], ◌∷◌, ◌++◌, length, if◌then◌else◌}
use Rattle.media_store.specs.Calls.{FileCall, NotOpened, NotLocked, NotMeasured, Read, NotRead, Wrote, NotWritten, NotResized, NotSynced, GaveUp, SyncRefused}
use Rattle.media_store.specs.Failures.{risen}

-- own: whether a call of the system fails the opening or the call of the store. One that a signal interrupted is made again. A read or
-- write of a part goes on, but not one of no byte: there are no more, or each further write might take none
abbrev pub has_failed : FileCall → Bool
has_failed (NotOpened path) = true
has_failed NotLocked = true
has_failed (NotMeasured interrupted) = not interrupted
has_failed (Read at bytes count) = length bytes == 0 && nat_lt 0 count
has_failed (NotRead at count interrupted) = not interrupted
has_failed (Wrote at bytes count) = length bytes == 0 && nat_lt 0 count
has_failed (NotWritten at count interrupted) = not interrupted
has_failed (NotResized len interrupted) = not interrupted
has_failed (NotSynced interrupted) = not interrupted
has_failed GaveUp = true
has_failed SyncRefused = true
has_failed call = false

-- own: how many calls of a store failed: each ends where one of the system fails it. It stays at the greatest u64
abbrev pub failed_calls : List FileCall → ℕ
failed_calls [] = 0
failed_calls (call ∷ earlier) = if has_failed call then risen (failed_calls earlier) else failed_calls earlier

abbrev pub none_failed : List FileCall → Bool
none_failed [] = true
none_failed (call ∷ earlier) = not (has_failed call) && none_failed earlier

abbrev pub is_given_up : FileCall → Bool
is_given_up GaveUp = true
is_given_up call = false

-- own: whether the calls of one read or write, the newest first, end as its result says: none failed, or the last alone.
-- It may be given up after 2^64 - 1 calls, or where its range goes past all offsets
abbrev pub ends : Bool → Bool → List FileCall → Bool
ends true far calls = none_failed calls
ends false far [] = false
ends false far (last ∷ earlier) =
    has_failed last && (none_failed earlier && (if is_given_up last then far || length earlier == 2 ^ 64 - 1 else true))

-- own: whether a range goes past all offsets, which are u64s
abbrev pub is_far : ℕ → ℕ → Bool
is_far at count = nat_le (2 ^ 64) (at + count)

-- own: how many bytes a call moved, and calls of one read or write
abbrev pub moved : FileCall → ℕ
moved (Read at bytes count) = length bytes
moved (Wrote at bytes count) = length bytes
moved call = 0

abbrev pub all_moved : List FileCall → ℕ
all_moved [] = 0
all_moved (call ∷ earlier) = moved call + all_moved earlier

-- own: whether a call is of just this range
abbrev pub asks_for : ℕ → ℕ → FileCall → Bool
asks_for at count (Read from bytes asked) = from == at && asked == count
asks_for at count (NotRead from asked interrupted) = from == at && asked == count
asks_for at count (Wrote from bytes asked) = from == at && asked == count
asks_for at count (NotWritten from asked interrupted) = from == at && asked == count
asks_for at count GaveUp = true
asks_for at count call = false

-- own: whether each of the calls of one read or write, the newest first, is of what those before it left of its range
abbrev pub ask_for_the_rest : ℕ → ℕ → List FileCall → Bool
ask_for_the_rest at count [] = true
ask_for_the_rest at count (call ∷ earlier) =
    asks_for (at + all_moved earlier) (count - all_moved earlier) call && ask_for_the_rest at count earlier

-- own: one read or write of a range made these calls
pub record HasEnded (ok : Bool) (at count : ℕ) (old new : List FileCall) : Type 0 where
  pub made : List FileCall
  pub calls : new ≡ made ++ old
  pub asked : IsTrue (ask_for_the_rest at count made)
  pub ended : IsTrue (ends ok (is_far at count) made)
