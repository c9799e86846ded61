use Rattle.std.proofs.Common.{◌≡◌, drop, map}
use Rattle.toml.specs.View.{items_view}
use Rattle.target_config.specs.Document.{each, target_of}
use Rattle.target_config.specs.Configuration.{target_view}
use Rattle.target_config.proofs.Entries.{behind}
use Rattle.target_config.proofs.fields.targets.Given as goal

-- those that were read, and then the rest, are all
abbrev pub invariant-loop-value : goal.invariant-loop-value
invariant-loop-value l = behind (map target_view l.targets.items) (each target_of (items_view (drop l.value-index l.values)))
    ≡ each target_of (items_view l.values)
