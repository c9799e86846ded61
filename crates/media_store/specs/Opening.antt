-- Why a file is not opened.
use Rattle.std.specs.Prelude.{◌≡◌, ◌⊎◌, ℕ, List, [], ◌∷◌}
use Rattle.media_store.specs.Calls.{FileCall, Opened, NotOpened, NotLocked}

-- own: the calls for the file at a path, the newest first, if it is not opened, or it is and then not locked (flock(2))
abbrev pub IsRefused : List ℕ → List FileCall → Type 0
IsRefused path calls = (calls ≡ NotOpened path ∷ []) ⊎ (calls ≡ NotLocked ∷ Opened path ∷ [])
