use Rattle.toml.proofs.Views.{table_get}
use Rattle.target_config.proofs.Entries.{gives_member}
use Rattle.target_config.proofs.fields.member.Goals as goal

pub returns : goal.returns
returns c = rw c.ok_or.ensures.value (gives_member c.get.result _ (table_get c.get.result c.args.key.now c.args.table.now.entries c.get.ensures.value))
