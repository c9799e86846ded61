use Rattle.std.proofs.Common.{arith}
use Rattle.std.proofs.lemmas.List.{drop_min}
use Rattle.iscsi_login.proofs.login.Login.go_on.Goals as goal

pub returns : goal.returns
returns c = grind (arith, drop_min 8192 c.self.inside.due.items)
