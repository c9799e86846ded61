use Rattle.std.proofs.Common.{arith}
use Rattle.std.proofs.lemmas.Grind.{common_steps}
use Rattle.scsi_disk.proofs.disk_commands.read_piece.Goals as goal

pub returns : goal.returns
returns = grind (arith, common_steps)
