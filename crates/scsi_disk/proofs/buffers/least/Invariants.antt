use Rattle.std.proofs.Common.{◌<◌, length}
use Rattle.scsi_disk.specs.Buffers.{rooms}
use Rattle.scsi_disk.proofs.Rooms.{IsLeastBelow}
use Rattle.scsi_disk.proofs.buffers.least.Given as goal

-- of those so far it is the smallest that has the room
abbrev pub invariant-loop-at : goal.invariant-loop-at
invariant-loop-at l = (l.found < length l.kept) × IsLeastBelow l.room (rooms l.kept) l.at l.found
