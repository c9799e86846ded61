use Rattle.std.proofs.Common.{rules}
use Rattle.iscsi_login.proofs.answer.put.Goals as goal

pub returns : goal.returns
returns c = search rules
