use Rattle.std.proofs.Common.{◌∙◌}
use Rattle.toml.proofs.Views.{table_get}
use Rattle.target_config.proofs.Entries.{is_some-member}
use Rattle.target_config.proofs.fields.has.Goals as goal

pub returns : goal.returns
returns c = c.is_some.ensures ∙ is_some-member c.get.result _ (table_get c.get.result c.args.key.now c.args.table.now.entries c.get.ensures.value)
