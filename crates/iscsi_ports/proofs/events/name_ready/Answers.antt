use Rattle.std.proofs.Common.{sym}
use Rattle.iscsi_ports.proofs.events.name_ready.Goals as goal

pub returns : goal.returns
returns c = rw (sym c.see_all.ensures) c.name.ensures
