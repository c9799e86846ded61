use Rattle.std.proofs.Common.{rules}
use Rattle.iscsi_login.proofs.earlier.Earlier.tree_with.Goals as goal

pub extend-requires : goal.extend-requires
extend-requires c = search rules
