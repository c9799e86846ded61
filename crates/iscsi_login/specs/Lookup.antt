-- What else a login is judged by, beside its requests.
use Rattle.std.specs.Prelude.{Option}
use Rattle.iscsi_login.specs.Directory.{KnownTargets}
use Rattle.iscsi_login.specs.declared.session_params.SessionParams.{SessionParams}

pub record Lookup : Type 0 where
  pub directory : KnownTargets
  -- the session in full feature phase whose TSIH the request bears
  pub named : Option SessionParams

-- with these targets and this session
abbrev pub lookup_in : KnownTargets → Option SessionParams → Lookup
lookup_in directory named = record { directory = directory; named = named }
