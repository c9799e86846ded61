use Rattle.std.proofs.Common.{length}
use Rattle.scsi_unit.proofs.units.+join_each.Given as goal

abbrev pub decreases-join_each : goal.decreases-join_each
decreases-join_each g l = length l.units.now
