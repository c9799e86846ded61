-- Refused files, computed.
use Rattle.std.specs.Prelude.{true, [], ◌∷◌, refl}
use Rattle.std.proofs.Common.{inl}
use Rattle.std.specs.declared.io.Error.{Error}
use Rattle.std.specs.IoError.{raw_os_error}
use Rattle.media_store.specs.Calls.{NotOpened}
use Rattle.target_config.specs.Configuration.{FileDisk}
use Rattle.target_units.specs.Opened.{Held}
use Rattle.target_units.specs.Refusal.{ByCall}
use Rattle.target_units.specs.Unopened.{IsUnfit, IsMediumRefused}
use Rattle.target_units.specs.declared.cause.DeviceCause.TheVariants as causes

-- a disk of three bytes; a disk on whose file a call failed
length_breaks_a_rule : IsUnfit (FileDisk (47 ∷ [])) (1 ∷ 2 ∷ 3 ∷ []) 0 true causes.Length
length_breaks_a_rule = (refl, λ _. refl)

call_failed : IsUnfit (FileDisk (47 ∷ [])) (1 ∷ 2 ∷ 3 ∷ []) 1 true causes.Unread
call_failed = refl

-- a file that the system does not open, with its error
not_opened : (held : Held) (error : Error)
    → IsMediumRefused held (FileDisk (47 ∷ [])) (ByCall error (NotOpened (47 ∷ []) ∷ [])) (causes.Unopened (raw_os_error error))
not_opened held error = (47 ∷ [], refl, (inl refl, refl))
