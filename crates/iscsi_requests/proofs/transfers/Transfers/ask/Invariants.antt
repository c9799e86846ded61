use Rattle.std.proofs.Common.{◌≡◌, ◌<◌, length}
use Rattle.iscsi_transfer.specs.WriteData.{first, due_asks}
use Rattle.iscsi_requests.specs.State.{transfer_at, r2ts_at}
use Rattle.iscsi_requests.proofs.Sending.{IsSent}
use Rattle.iscsi_requests.proofs.transfers.Transfers.ask.Given as goal

-- those so far are sent, and the next is known
abbrev pub invariant-loop-due : goal.invariant-loop-due
invariant-loop-due l = record {
  sent : IsSent l.place l.stamp l.initial.self l.self l.initial.out.items l.out.items l.out.spare;
  next : l.due ≡ first (due_asks (transfer_at l.self.list l.place).task);
  tag : l.self.next_tag < 0xFFFFFFFF;
}

-- each that is sent is due no more
abbrev pub decreases-loop-due : goal.decreases-loop-due
decreases-loop-due l = length (r2ts_at l.self l.stamp l.place)
