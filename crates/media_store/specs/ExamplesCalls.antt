-- How calls of a store end, computed.
use Rattle.std.specs.Prelude.{◌≡◌, true, false, if◌then◌else◌, [], ◌∷◌, refl}
use Rattle.std.proofs.Common.{ap}
use Rattle.std.proofs.lemmas.Bool.{leb-true}
use Rattle.media_store.specs.Again.{HasTried, HasFailed, Refused}
use Rattle.media_store.specs.Calls.{NotResized, Read, NotRead, Wrote, NotWritten, Synced, NotSynced, GaveUp}
use Rattle.media_store.specs.Ends.{has_failed, failed_calls, ends, ask_for_the_rest}
use Rattle.media_store.specs.Whole.{HasRead, HasWritten}
use Rattle.media_store.specs.Examples.{origin, opened}

-- a sync that failed, a read of no byte, and a write that takes none of four
failing : (has_failed (NotSynced false) ≡ true) × (has_failed (Read 2 [] 1) ≡ true) × (has_failed (Wrote 2 [] 4) ≡ true)
failing = (refl, refl, refl)

-- a sync that was interrupted, a read of a part, and a write of nothing
going_on : (has_failed (NotSynced true) ≡ false) × (has_failed (Read 2 (3 ∷ []) 4) ≡ false) × (has_failed (Wrote 2 [] 0) ≡ false)
going_on = (refl, refl, refl)

-- a read after the end, a write, and a sync that was interrupted and then failed
two_failed : failed_calls (NotSynced false ∷ NotSynced true ∷ Wrote 1 (5 ∷ []) 1 ∷ Read 3 [] 1 ∷ opened) ≡ 2
two_failed = refl

-- two parts with a signal between; the end; no call fails at a signal, and none goes on after a failure
reads : (ends true false (Read 2 (3 ∷ []) 1 ∷ NotRead 2 1 true ∷ Read 0 (1 ∷ 2 ∷ []) 3 ∷ []) ≡ true)
    × (ends false false (Read 3 [] 1 ∷ Read 1 (2 ∷ 3 ∷ []) 3 ∷ []) ≡ true)
    × (ends false false (NotRead 2 1 true ∷ []) ≡ false)
    × (ends true false (Read 0 (1 ∷ 2 ∷ []) 2 ∷ NotRead 0 2 false ∷ []) ≡ false)
reads = (refl, refl, refl, refl)

-- the rest of 0 to 3; a read that asks again for what came, and one of no byte at the end
rests : (ask_for_the_rest 0 3 (Read 2 (3 ∷ []) 1 ∷ NotRead 2 1 true ∷ Read 0 (1 ∷ 2 ∷ []) 3 ∷ []) ≡ true)
    × (ask_for_the_rest 0 3 (Read 0 (1 ∷ []) 3 ∷ Read 0 (1 ∷ 2 ∷ []) 3 ∷ []) ≡ false)
    × (ask_for_the_rest 0 3 (Read 0 [] 0 ∷ []) ≡ false)
rests = (refl, refl, refl)

-- with no call, only where the range goes past all offsets
given_up : (ends false true (GaveUp ∷ []) ≡ true) × (ends false false (GaveUp ∷ []) ≡ false) × (ends false true [] ≡ false)
given_up = (refl, refl, refl)

-- two signals, then success; a signal, then a failure
tried : HasTried (NotSynced true) Synced opened (Synced ∷ NotSynced true ∷ NotSynced true ∷ opened)
tried = record { times = 2; calls = refl }

cut_failed : HasFailed (NotResized 2) opened (NotResized 2 false ∷ NotResized 2 true ∷ opened)
cut_failed = Refused (record { times = 1; calls = refl })

-- two parts with a signal between; the end of the file in the second
read_whole : HasRead origin 0 (1 ∷ 2 ∷ 3 ∷ []) true opened (Read 2 (3 ∷ []) 1 ∷ NotRead 2 1 true ∷ Read 0 (1 ∷ 2 ∷ []) 3 ∷ opened)
read_whole = record {
  count = 3;
  within = leb-true 3 3 refl;
  whole = λ _. refl;
  content = refl;
  honest = refl;
  synced = refl;
  ended = record { made = Read 2 (3 ∷ []) 1 ∷ NotRead 2 1 true ∷ Read 0 (1 ∷ 2 ∷ []) 3 ∷ []; calls = refl; asked = refl; ended = refl };
}

read_after_the_end : HasRead origin 2 (3 ∷ 9 ∷ []) false opened (Read 3 [] 1 ∷ Read 2 (3 ∷ []) 2 ∷ opened)
read_after_the_end = record {
  count = 1;
  within = leb-true 1 2 refl;
  whole = λ ok. ap (λ b. if b then 2 else 1) ok;
  content = refl;
  honest = refl;
  synced = refl;
  ended = record { made = Read 3 [] 1 ∷ Read 2 (3 ∷ []) 2 ∷ []; calls = refl; asked = refl; ended = refl };
}

-- two parts; the second takes none; the first failed, and left what the origin says
written_whole : HasWritten origin 1 (8 ∷ 5 ∷ []) true opened (Wrote 2 (5 ∷ []) 1 ∷ Wrote 1 (8 ∷ []) 2 ∷ opened)
written_whole = record {
  put = 8 ∷ 5 ∷ [];
  within = leb-true 2 2 refl;
  whole = λ _. refl;
  content = refl;
  honest = refl;
  synced = refl;
  ended = record { made = Wrote 2 (5 ∷ []) 1 ∷ Wrote 1 (8 ∷ []) 2 ∷ []; calls = refl; asked = refl; ended = refl };
}

written_in_part : HasWritten origin 1 (8 ∷ 5 ∷ []) false opened (Wrote 2 [] 1 ∷ Wrote 1 (8 ∷ []) 2 ∷ opened)
written_in_part = record {
  put = 8 ∷ [];
  within = leb-true 1 2 refl;
  whole = λ ok. ap (λ b. if b then 8 ∷ 5 ∷ [] else 8 ∷ []) ok;
  content = refl;
  honest = refl;
  synced = refl;
  ended = record { made = Wrote 2 [] 1 ∷ Wrote 1 (8 ∷ []) 2 ∷ []; calls = refl; asked = refl; ended = refl };
}

torn_write : HasWritten origin 1 (4 ∷ 5 ∷ []) false opened (NotWritten 1 2 false ∷ opened)
torn_write = record {
  put = 8 ∷ 9 ∷ [];
  within = leb-true 2 2 refl;
  whole = λ ok. ap (λ b. if b then 4 ∷ 5 ∷ [] else 8 ∷ 9 ∷ []) ok;
  content = refl;
  honest = refl;
  synced = refl;
  ended = record { made = NotWritten 1 2 false ∷ []; calls = refl; asked = refl; ended = refl };
}
