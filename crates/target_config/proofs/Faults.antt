-- What a configuration without a fault keeps.
use Rattle.std.proofs.Common.{◌≡◌, Bool, true, false, None, refl}
use Rattle.target_config.specs.Configuration.{Document}
use Rattle.target_config.specs.Limits.{keeps_limits}
use Rattle.target_config.specs.Config.{fault_in}

kept_if : (document : Document) (test : Bool) → keeps_limits document ≡ test → fault_in document ≡ None → keeps_limits document ≡ true
unfolding fault_in
kept_if document true e none = e
kept_if document false e none = absurd (cc (rw e at none))

pub limits_first : (document : Document) → fault_in document ≡ None → keeps_limits document ≡ true
limits_first document none = kept_if document (keeps_limits document) refl none
