-- That the log that is configured was opened, by the notes of its opening.
use Rattle.std.proofs.Common.{ℕ, List, Option, None, Some, inl, inr, refl}
use Rattle.std.proofs.KnownBytes.{Keeps-refl}
use Rattle.call_record.specs.Noted.{Noted}
use Rattle.iscsi_ports.specs.Log.{Entry}
use Rattle.target_serving.specs.Logging.{HasOpenedLog, HasNoLog, OpensLog}

pub log_opened : (path : Option (List ℕ)) (old new : List Noted) (log log_then : List Entry) (w w_then : Option (List ℕ))
    → HasOpenedLog path old new → OpensLog path old new log log_then w w_then
log_opened None old new log log_then w w_then opened = opened
log_opened (Some path) old new log log_then w w_then opened = inl opened

-- nothing was printed or served
pub log_unopened : (path : Option (List ℕ)) (old new : List Noted) (log : List Entry) (w : Option (List ℕ)) → HasNoLog path old new
    → OpensLog path old new log log w w
log_unopened None old new log w none = absurd none
log_unopened (Some path) old new log w (inl opened) = inl opened
log_unopened (Some path) old new log w (inr unopened) = inr (unopened, refl, Keeps-refl w)
