use Rattle.std.proofs.Common.{rules}
use Rattle.scsi_unit.proofs.tape_commands.likely_room.Goals as goal

pub returns : goal.returns
returns c = search rules
