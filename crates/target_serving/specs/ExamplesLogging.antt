-- Logs that are opened and that are not, computed.
use Rattle.std.specs.Prelude.{[], ◌∷◌, Some, None, true, false, refl}
use Rattle.std.proofs.Common.{inr}
use Rattle.target_serving.specs.Logging.{log_notes, HasOpenedLog, HasNoLog}

-- no log is configured; the one at the path 47 is opened; it is not
no_log : HasOpenedLog None [] []
no_log = refl

log_opened : HasOpenedLog (Some (47 ∷ [])) [] (log_notes (47 ∷ []) true [])
log_opened = refl

log_refused : HasNoLog (Some (47 ∷ [])) [] (log_notes (47 ∷ []) false [])
log_refused = inr refl
