-- Contents of a store after calls, computed.
use Rattle.std.specs.Prelude.{◌≡◌, ◌-◌, ◌^◌, ◌==◌, true, false, List, [], ◌∷◌, slice_index, if◌then◌else◌, refl}
use Rattle.media_store.specs.Content.{resized, written}
use Rattle.media_store.specs.Failures.{risen}
use Rattle.media_store.specs.Calls.{FileCall, Opened, Locked, Measured, Read, Wrote, NotWritten, NotResized, Synced, NotSynced, GaveUp, SyncRefused, NotOpened, NotLocked, call_of}
use Rattle.media_store.specs.Replay.{Origin, content_of, is_honest, is_synced}

-- within the content, over its end, and after it
written_within : written 1 (8 ∷ 9 ∷ []) (1 ∷ 2 ∷ 3 ∷ 4 ∷ []) ≡ 1 ∷ 8 ∷ 9 ∷ 4 ∷ []
written_within = refl

written_over_the_end : written 3 (8 ∷ 9 ∷ []) (1 ∷ 2 ∷ 3 ∷ 4 ∷ []) ≡ 1 ∷ 2 ∷ 3 ∷ 8 ∷ 9 ∷ []
written_over_the_end = refl

written_after_the_end : written 3 (8 ∷ 9 ∷ []) (1 ∷ []) ≡ 1 ∷ 0 ∷ 0 ∷ 8 ∷ 9 ∷ []
written_after_the_end = refl

-- no byte changes nothing, after the end too
written_nothing : written 3 [] (1 ∷ []) ≡ 1 ∷ []
written_nothing = refl

cut : resized 2 (1 ∷ 2 ∷ 3 ∷ []) ≡ 1 ∷ 2 ∷ []
cut = refl

filled_up : resized 4 (1 ∷ 2 ∷ []) ≡ 1 ∷ 2 ∷ 0 ∷ 0 ∷ []
filled_up = refl

-- a count rises by one, and stays at its greatest value
counts : (risen 7 ≡ 8) × (risen (2 ^ 64 - 1) ≡ 2 ^ 64 - 1)
counts = (refl, refl)

-- ---- a file that held 1, 2, 3 and was opened at the path 47, where a failed call leaves 8, 9, 7
abbrev pub origin : Origin
origin = record { held = λ path. if slice_index path 0 == 47 then 1 ∷ 2 ∷ 3 ∷ [] else []; torn = λ _ _. 8 ∷ 9 ∷ 7 ∷ [] }

abbrev pub opened : List FileCall
opened = Locked ∷ Opened (47 ∷ []) ∷ []

-- the newest call stands first
written_and_read : is_honest origin (Read 1 (5 ∷ 3 ∷ []) 2 ∷ Wrote 1 (5 ∷ []) 1 ∷ Read 0 (1 ∷ 2 ∷ []) 2 ∷ Measured 3 ∷ opened) ≡ true
written_and_read = refl

-- the old byte is read, one byte is read after the end, the length is wrong
lies : (is_honest origin (Read 1 (2 ∷ 3 ∷ []) 2 ∷ Wrote 1 (5 ∷ []) 1 ∷ opened) ≡ false)
    × (is_honest origin (Read 2 (3 ∷ 0 ∷ []) 2 ∷ opened) ≡ false) × (is_honest origin (Measured 4 ∷ opened) ≡ false)
lies = (refl, refl, refl)

-- an honest answer does not mend what was told before
never_again : is_honest origin (Measured 3 ∷ Measured 4 ∷ opened) ≡ false
never_again = refl

-- a front of the range was torn; the end lies between
torn : (content_of origin (NotWritten 1 2 false ∷ opened) ≡ 1 ∷ 8 ∷ 9 ∷ []) × (content_of origin (NotResized 5 false ∷ opened) ≡ 1 ∷ 2 ∷ 3 ∷ [])
    × (content_of origin (NotResized 1 false ∷ opened) ≡ 1 ∷ 2 ∷ 3 ∷ [])
torn = (refl, refl, refl)

-- a sync that succeeds comes after the write, or after a signal; it failed; a write was tried after it
synced : (is_synced (Synced ∷ Wrote 1 (5 ∷ []) 1 ∷ opened) ≡ true) × (is_synced (Synced ∷ NotSynced true ∷ opened) ≡ true)
    × (is_synced (NotSynced false ∷ Wrote 1 (5 ∷ []) 1 ∷ opened) ≡ false) × (is_synced (NotWritten 1 2 false ∷ Synced ∷ opened) ≡ false)
synced = (refl, refl, refl, refl)

-- a sync fails: nothing is synced any more, whatever succeeds after it
lost : (is_synced (NotSynced false ∷ Synced ∷ opened) ≡ false) × (is_synced (SyncRefused ∷ NotSynced false ∷ Synced ∷ opened) ≡ false)
    × (is_synced (Synced ∷ NotSynced false ∷ Wrote 1 (5 ∷ []) 1 ∷ opened) ≡ false)
lost = (refl, refl, refl)

-- notes, read as calls
notes : (call_of (record { numbers = 1 ∷ 7 ∷ 4 ∷ []; bytes = 5 ∷ 6 ∷ []; flags = true ∷ [] }) ≡ Read 7 (5 ∷ 6 ∷ []) 4)
    × (call_of (record { numbers = 2 ∷ 7 ∷ 4 ∷ []; bytes = 5 ∷ []; flags = true ∷ [] }) ≡ Wrote 7 (5 ∷ []) 4)
    × (call_of (record { numbers = 2 ∷ 7 ∷ 4 ∷ []; bytes = []; flags = false ∷ false ∷ [] }) ≡ NotWritten 7 4 false)
    × (call_of (record { numbers = 4 ∷ []; bytes = []; flags = false ∷ true ∷ [] }) ≡ NotSynced true)
    × (call_of (record { numbers = 5 ∷ []; bytes = 47 ∷ []; flags = true ∷ [] }) ≡ Opened (47 ∷ []))
    × (call_of (record { numbers = 7 ∷ []; bytes = []; flags = true ∷ [] }) ≡ Locked)
    × (call_of (record { numbers = 6 ∷ []; bytes = []; flags = false ∷ [] }) ≡ GaveUp)
    × (call_of (record { numbers = 5 ∷ []; bytes = 47 ∷ []; flags = false ∷ [] }) ≡ NotOpened (47 ∷ []))
    × (call_of (record { numbers = 7 ∷ []; bytes = []; flags = false ∷ [] }) ≡ NotLocked)
    × (call_of (record { numbers = 8 ∷ []; bytes = []; flags = false ∷ [] }) ≡ SyncRefused)
notes = (refl, refl, refl, refl, refl, refl, refl, refl, refl, refl)
