-- What a file holds after its calls, whether it answered as a file does that holds this, and whether it is synced.
use Rattle.std.specs.Prelude.{ℕ, ◌+◌, ◌==◌, min, max, Bool, true, false, not, ◌&&◌, ◌||◌, List, [], ◌∷◌, length, take, slice_range, bytes_eq}
use Rattle.media_store.specs.Calls.{FileCall, Opened, Measured, Read, Wrote, NotWritten, Resized, NotResized, Synced, NotSynced}
use Rattle.media_store.specs.Content.{written, resized}

-- own: what the files held when they were opened, by their paths, and what a failed call left of what it should have
-- written, by the path and by how many calls came before it
pub record Origin : Type 0 where
  pub held : List ℕ → List ℕ
  pub torn : List ℕ → ℕ → List ℕ

abbrev pub origin_by : (List ℕ → List ℕ) → (List ℕ → ℕ → List ℕ) → Origin
origin_by held torn = record { held = held; torn = torn }

-- own: the path at which the file was opened
abbrev pub path_of : List FileCall → List ℕ
path_of [] = []
path_of (Opened path ∷ earlier) = path
path_of (call ∷ earlier) = path_of earlier

-- own: the length that a failed change of the length left: any between the old one and the new one
abbrev pub torn_length : ℕ → ℕ → List ℕ → ℕ
torn_length old new torn = max (min old new) (min (length torn) (max old new))

-- own: the content after a call; a failed write may have put any bytes into its range
abbrev pub after_call : (List ℕ → List ℕ) → List ℕ → FileCall → List ℕ → List ℕ
after_call held torn (Opened path) content = held path
after_call held torn (Wrote at bytes count) content = written at bytes content
after_call held torn (NotWritten at count interrupted) content = written at (take count torn) content
after_call held torn (Resized len) content = resized len content
after_call held torn (NotResized len interrupted) content = resized (torn_length (length content) len torn) content
after_call held torn call content = content

-- own: the content after calls, the newest first
abbrev pub content_of : Origin → List FileCall → List ℕ
content_of origin [] = []
content_of origin (call ∷ earlier) =
    after_call origin.held (origin.torn (path_of earlier) (length earlier)) call (content_of origin earlier)

-- own: these bytes stand in the content at an offset
abbrev pub agrees_at : ℕ → List ℕ → List ℕ → Bool
agrees_at at bytes content = bytes_eq bytes (slice_range content at (at + length bytes))

-- own: an answer agrees with the content: the length is its length, and the bytes stand in it
abbrev pub agrees : FileCall → List ℕ → Bool
agrees (Measured len) content = len == length content
agrees (Read at bytes count) content = agrees_at at bytes content
agrees call content = true

-- own: every answer agreed with the content at its time
abbrev pub is_honest : Origin → List FileCall → Bool
is_honest origin [] = true
is_honest origin (call ∷ earlier) = is_honest origin earlier && agrees call (content_of origin earlier)

-- fsync(2): whether a sync has failed. The system reports once that it could not write something back, so a sync that
-- succeeds after it says nothing
abbrev pub is_failed_sync : FileCall → Bool
is_failed_sync (NotSynced interrupted) = not interrupted
is_failed_sync call = false

abbrev pub sync_has_failed : List FileCall → Bool
sync_has_failed [] = false
sync_has_failed (call ∷ earlier) = is_failed_sync call || sync_has_failed earlier

-- own: whether all is on the medium after a call: a sync that succeeds puts it there, unless one had failed before. A
-- change, and a sync that failed, end that
abbrev pub synced_after : FileCall → Bool → Bool → Bool
synced_after Synced failed synced = not failed
synced_after (NotSynced interrupted) failed synced = false
synced_after (Wrote at bytes count) failed synced = false
synced_after (NotWritten at count interrupted) failed synced = false
synced_after (Resized len) failed synced = false
synced_after (NotResized len interrupted) failed synced = false
synced_after call failed synced = synced

-- own: of a file of which nothing is known, until a sync of it succeeds
abbrev pub is_synced : List FileCall → Bool
is_synced [] = false
is_synced (call ∷ earlier) = synced_after call (sync_has_failed earlier) (is_synced earlier)
