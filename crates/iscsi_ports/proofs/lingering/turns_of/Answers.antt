use Rattle.std.proofs.Common.{rules}
use Rattle.iscsi_ports.proofs.lingering.turns_of.Goals as goal

pub returns-else-eq-clause-value : goal.returns-else-eq-clause-value
returns-else-eq-clause-value c = search rules
