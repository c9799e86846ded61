-- How the log that is configured is opened, before anything is served.
use Rattle.std.specs.Prelude.{◌≡◌, ◌⊎◌, ℕ, Bool, true, false, List, [], ◌∷◌, Option, Some, None}
use Rattle.std.specs.Io.KnownBytes.{Keeps}
use Rattle.call_record.specs.Noted.{Noted}
use Rattle.iscsi_ports.specs.Log.{Entry}

-- own: the notes of an opening of the log at a path: it was asked for, and was opened or not
abbrev pub log_notes : List ℕ → Bool → List Noted → List Noted
log_notes path opened earlier =
    record { numbers = 1 ∷ []; bytes = []; flags = opened ∷ [] } ∷ record { numbers = 0 ∷ []; bytes = path; flags = [] } ∷ earlier

-- own: the log at a path, if there is one, was opened
abbrev pub HasOpenedLog : Option (List ℕ) → (old new : List Noted) → Type 0
HasOpenedLog None old new = new ≡ old
HasOpenedLog (Some path) old new = new ≡ log_notes path true old

-- own: the log at a path was not opened, or it was and then an allocation failed
abbrev pub HasNoLog : Option (List ℕ) → (old new : List Noted) → Type 0
HasNoLog None old new = ⊥
HasNoLog (Some path) old new = (new ≡ log_notes path true old) ⊎ (new ≡ log_notes path false old)

-- own: the log that is configured was opened. If it was not, nothing was printed or served
abbrev pub OpensLog : Option (List ℕ) → (old new : List Noted) → (log log_then : List Entry) → (printed printed_then : Option (List ℕ)) → Type 0
OpensLog None old new log log_then printed printed_then = new ≡ old
OpensLog (Some path) old new log log_then printed printed_then =
    (new ≡ log_notes path true old) ⊎ ((new ≡ log_notes path false old) × (log_then ≡ log) × Keeps printed printed_then)
