-- As commands are done, connections are passed over of whose sessions none can be done.
use Rattle.std.proofs.Common.{◌≡◌, ℕ, zero, suc, ◌+◌, ◌-◌, ◌<◌, ◌≤◌, length, true, Option, None, subst, arith}
use Rattle.iscsi_world.specs.History.{connection_limit}
use Rattle.iscsi_world.specs.Machine.{Machine, link_at, is_settled}
use Rattle.iscsi_world.specs.Serving.{first_of}
use Rattle.iscsi_world.proofs.Frames.{SettledBelow, settled_next}
use Rattle.iscsi_world.proofs.SessionCalls.{settled_at}

first_of-none : (a : Option ℕ) → first_of a None ≡ a
first_of-none a = grind arith

-- one is passed over
one_skipped : (target c : ℕ) (starved : Option ℕ) (given after : Machine) → c < connection_limit → length after.links ≡ connection_limit
    → is_settled (link_at after c).phase ≡ true → SettledBelow target c starved given after → SettledBelow target (c + 1) starved given after
one_skipped target c starved given after lt count is so_far =
    subst (λ (o : Option ℕ). SettledBelow target (c + 1) o given after) (first_of-none starved)
    (settled_next target c starved None given after after (λ t sound. sound) so_far (settled_at after c target lt count is))

-- so many are
skipped_by : (k target c end : ℕ) (starved : Option ℕ) (given after : Machine) → c + k ≡ end → end ≤ connection_limit
    → length after.links ≡ connection_limit → ((d : ℕ) → c ≤ d → d < end → is_settled (link_at after d).phase ≡ true)
    → SettledBelow target c starved given after → SettledBelow target end starved given after
skipped_by zero target c end starved given after is le count all so_far = grind arith
skipped_by (suc k) target c end starved given after is le count all so_far =
    skipped_by k target (c + 1) end starved given after (omega (arith, is)) le count
    (λ d from below. all d (omega (arith, from)) below)
    (one_skipped target c starved given after (omega (arith, is, le)) count (all c (omega arith) (omega (arith, is))) so_far)

pub settled_skipped : (target c end : ℕ) (starved : Option ℕ) (given after : Machine) → c ≤ end → end ≤ connection_limit
    → length after.links ≡ connection_limit → ((d : ℕ) → c ≤ d → d < end → is_settled (link_at after d).phase ≡ true)
    → SettledBelow target c starved given after → SettledBelow target end starved given after
settled_skipped target c end starved given after from le count all so_far =
    skipped_by (end - c) target c end starved given after (omega (arith, from)) le count all so_far
