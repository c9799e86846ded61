use Rattle.std.proofs.Common.{rules}
use Rattle.iscsi_login.proofs.earlier.Earlier.append.Goals as goal

pub returns-in_err-tree-clause-empty : goal.returns-in_err-tree-clause-empty
returns-in_err-tree-clause-empty c = search rules

pub returns-then-is_err-clause-empty : goal.returns-then-is_err-clause-empty
returns-then-is_err-clause-empty c = search rules
