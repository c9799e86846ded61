-- Files that are not opened, computed.
use Rattle.std.specs.Prelude.{◌≡◌, true, false, [], ◌∷◌, refl}
use Rattle.std.proofs.Common.{inl, inr}
use Rattle.media_store.specs.Calls.{Opened, NotOpened, NotLocked, calls_of}
use Rattle.media_store.specs.Ends.{failed_calls}
use Rattle.media_store.specs.Opening.{IsRefused}

-- the file at the path 47 is not opened; it is, and then not locked
not_opened : IsRefused (47 ∷ []) (calls_of (record { numbers = 5 ∷ []; bytes = 47 ∷ []; flags = false ∷ [] } ∷ []))
not_opened = inl refl

not_locked : IsRefused (47 ∷ []) (calls_of (record { numbers = 7 ∷ []; bytes = []; flags = false ∷ [] }
    ∷ record { numbers = 5 ∷ []; bytes = 47 ∷ []; flags = true ∷ [] } ∷ []))
not_locked = inr refl

-- one call failed of each
one_failed : (failed_calls (NotOpened (47 ∷ []) ∷ []) ≡ 1) × (failed_calls (NotLocked ∷ Opened (47 ∷ []) ∷ []) ≡ 1)
one_failed = (refl, refl)
