use Rattle.scsi_disk.proofs.Pieces.{IsReadTo}
use Rattle.std.proofs.Common.{◌≡◌, ◌+◌, IsTrue, length}
use Rattle.scsi_disk.proofs.disk_commands.read_into.Given as goal

abbrev pub invariant-loop-number : goal.invariant-loop-number
invariant-loop-number g l = record {
  begun : IsReadTo l.piece l.range.count l.number l.initial.disk.blocks l.range.first l.disk.honest l.buffer.items;
  spare : l.buffer.spare + length l.buffer.items ≡ l.initial.buffer.spare;
  back : IsTrue l.disk.honest → IsTrue l.initial.disk.honest;
  disk : l.disk ≡ record l.initial.disk { honest = l.disk.honest };
  steady : IsTrue l.initial.disk.steady → IsTrue l.initial.disk.honest → l.disk ≡ l.initial.disk;
}
