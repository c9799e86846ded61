use Rattle.std.proofs.Common.{◌≡◌, ◌≤◌, ◌+◌, ◌-◌, ◌++◌, length, take, drop, not}
use Rattle.std.specs.Prelude.{filter, vec_capacity}
use Rattle.iscsi_requests.specs.Functions.{reaches}
use Rattle.iscsi_requests.specs.State.{transfers_without}
use Rattle.iscsi_requests.specs.Draining.{awaited_in}
use Rattle.iscsi_requests.proofs.transfers.Transfers.drain.Given as goal

-- those so far stay, and those after them are to be looked at
abbrev pub invariant-loop-place : goal.invariant-loop-place
invariant-loop-place l = record {
  kept : take l.place l.self-inside.list.items ++ filter (λ transfer. not (reaches l.reach transfer.header)) (drop l.place l.self-inside.list.items)
      ≡ transfers_without l.reach l.initial.self-inside.list.items;
  moved : l.self-inside.drains.items ++ awaited_in l.reach (drop l.place l.self-inside.list.items)
      ≡ l.initial.self-inside.drains.items ++ awaited_in l.reach l.initial.self-inside.list.items;
  within : l.place ≤ length l.self-inside.list.items;
  room : length l.self-inside.drains.items + (length l.self-inside.list.items - l.place) ≤ vec_capacity l.self-inside.drains;
  tag : l.self-inside.next_tag ≡ l.initial.self-inside.next_tag;
}

abbrev pub decreases-loop-place : goal.decreases-loop-place
decreases-loop-place l = length l.self-inside.list.items - l.place
