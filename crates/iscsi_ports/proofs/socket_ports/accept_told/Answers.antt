use Rattle.std.proofs.Common.{rules}
use Rattle.iscsi_ports.proofs.socket_ports.accept_told.Goals as goal

pub returns-in-Err-Interrupted : goal.returns-in-Err-Interrupted
returns-in-Err-Interrupted c = search rules
