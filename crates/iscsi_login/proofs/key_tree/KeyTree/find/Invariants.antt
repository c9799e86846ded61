use Rattle.std.proofs.Common.{ℕ, List, ◌+◌, ◌-◌, ◌*◌, ◌<◌, ◌≤◌, ◌++◌, length}
use Rattle.iscsi_login.specs.KeyTree.{Leads, EndsAt, KeepsChildren}
use Rattle.iscsi_login.proofs.key_tree.KeyTree.find.Given as goal

abbrev pub invariant-loop-key : goal.invariant-loop-key
invariant-loop-key l = record {
  within : 2 * l.node + 1 < length l.self;
  deep : l.depth ≤ l.node;
  comes : (new : List ℕ) (steps place : ℕ) → KeepsChildren l.self new → Leads new (l.pairs ++ l.more) l.key steps l.depth l.node place
      → EndsAt new (l.pairs ++ l.more) l.key place;
}

abbrev pub decreases-loop-key : goal.decreases-loop-key
decreases-loop-key l = length l.self - l.node
