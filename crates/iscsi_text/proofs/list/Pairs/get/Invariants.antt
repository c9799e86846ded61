use Rattle.std.proofs.Common.{◌≡◌, drop}
use Rattle.iscsi_text.specs.Pairs.{value_of}
use Rattle.iscsi_text.proofs.list.Pairs.get.Given as goal

-- the pairs that are left decide
abbrev pub invariant-loop-at : goal.invariant-loop-at
invariant-loop-at l = value_of l.key (drop l.at l.self) ≡ value_of l.key l.self
