use Rattle.std.proofs.Common.{◌≡◌, ◌≤◌, ◌-◌, ◌++◌, length, take, drop, not}
use Rattle.std.specs.Prelude.{filter}
use Rattle.iscsi_requests.specs.Functions.{reaches}
use Rattle.iscsi_requests.specs.State.{transfers_without}
use Rattle.iscsi_requests.proofs.transfers.Transfers.remove.Given as goal

-- those so far stay, and those after them are to be looked at
abbrev pub invariant-loop-place : goal.invariant-loop-place
invariant-loop-place l = record {
  kept : take l.place l.self-inside.list.items ++ filter (λ transfer. not (reaches l.reach transfer.header)) (drop l.place l.self-inside.list.items)
      ≡ transfers_without l.reach l.initial.self-inside.list.items;
  within : l.place ≤ length l.self-inside.list.items;
  tag : l.self-inside.next_tag ≡ l.initial.self-inside.next_tag;
  drains : l.self-inside.drains.items ≡ l.initial.self-inside.drains.items;
}

abbrev pub decreases-loop-place : goal.decreases-loop-place
decreases-loop-place l = length l.self-inside.list.items - l.place
