use Rattle.std.proofs.Common.{rules}
use Rattle.iscsi_ports.proofs.lingering.bytes_after.Goals as goal

pub returns-in-Err-WouldWait : goal.returns-in-Err-WouldWait
returns-in-Err-WouldWait c = search rules
