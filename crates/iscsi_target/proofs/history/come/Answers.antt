use Rattle.std.proofs.Common.{arith}
use Rattle.iscsi_world.proofs.Tables.{gone_table}
use Rattle.iscsi_target.proofs.history.come.Goals as goal

pub returns-else-not-table-c-clause-after : goal.returns-else-not-table-c-clause-after
returns-else-not-table-c-clause-after c = λ e before h. rw c.in-Gone.is (gone_table c.args.table.now before c.in-Gone.c h (omega arith))
