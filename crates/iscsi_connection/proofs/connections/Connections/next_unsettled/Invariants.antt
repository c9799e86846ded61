use Rattle.std.proofs.Common.{◌≡◌, ℕ, ◌-◌, ◌<◌, ◌≤◌, length, get_or, true}
use Rattle.iscsi_world.specs.Machine.{LinkState, free_link, is_settled, is_silent}
use Rattle.iscsi_connection.specs.Connections.{IsTrueOfOthers, IsKnownOfOthers, has_to_send, is_full}
use Rattle.iscsi_connection.proofs.connections.Connections.next_unsettled.Given as goal

-- those that were passed over are settled
abbrev pub invariant-loop-c : goal.invariant-loop-c
invariant-loop-c l =
    let links = l.self-inside.items.items in
    record {
      same : links ≡ l.initial.self-inside.items.items;
      count : length links ≡ 64;
      others : IsTrueOfOthers (λ (link : LinkState). is_settled link.phase) l.self-inside.unsettled links;
      silent : IsTrueOfOthers is_silent l.self-inside.busy links;
      stalled : IsTrueOfOthers has_to_send l.self-inside.unstalled links;
      counted : IsKnownOfOthers is_full l.self-inside.uncounted l.self-inside.full links;
      reached : l.from ≤ l.at;
      passed : (d : ℕ) → l.from ≤ d → d < l.at → is_settled (get_or links d free_link).phase ≡ true;
    }

abbrev pub decreases-loop-c : goal.decreases-loop-c
decreases-loop-c l = 64 - l.at
