use Rattle.std.proofs.Common.{◌≡◌, ◌≤◌, ◌-◌, ◌==◌, ◌++◌, length, take, drop, not}
use Rattle.std.specs.Prelude.{filter}
use Rattle.iscsi_requests.specs.Draining.{function_tag, drains_without}
use Rattle.iscsi_requests.proofs.transfers.Transfers.forget.Given as goal

-- those so far stay, and those after them are to be looked at
abbrev pub invariant-loop-place : goal.invariant-loop-place
invariant-loop-place l = record {
  kept : take l.place l.self-inside.drains.items ++ filter (λ drained. not (function_tag drained == l.tag)) (drop l.place l.self-inside.drains.items)
      ≡ drains_without l.tag l.initial.self-inside.drains.items;
  within : l.place ≤ length l.self-inside.drains.items;
  tag : l.self-inside.next_tag ≡ l.initial.self-inside.next_tag;
  list : l.self-inside.list.items ≡ l.initial.self-inside.list.items;
}

abbrev pub decreases-loop-place : goal.decreases-loop-place
decreases-loop-place l = length l.self-inside.drains.items - l.place
