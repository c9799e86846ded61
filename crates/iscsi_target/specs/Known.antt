-- The targets and the portal of a configuration.
use Rattle.std.specs.Prelude.{map, string_bytes}
use Rattle.iscsi_login.specs.Directory.{KnownTargets}
use Rattle.iscsi_target.specs.declared.config.Config.{Config}

abbrev pub known_in : Config → KnownTargets
known_in config = record { names = map string_bytes config.targets.items; portal = string_bytes config.listen }
