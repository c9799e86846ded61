use Rattle.std.proofs.Common.{length}
use Rattle.scsi_unit.proofs.joined.+raise_due.Given as goal

abbrev pub decreases-raise_due : goal.decreases-raise_due
decreases-raise_due l = length l.due.now
