use Rattle.std.proofs.Common.{◌≡◌, ◌+◌, ◌*◌, ◌++◌, length, drop}
use Rattle.std.specs.List.{list_any}
use Rattle.iscsi_login.specs.KeyTree.{TellsPlaces}
use Rattle.iscsi_login.specs.Rules.{is_again}
use Rattle.iscsi_login.proofs.key_tree.KeyTree.extend.Given as goal

abbrev pub invariant-loop-at : goal.invariant-loop-at
invariant-loop-at l = record {
  size : length l.self ≡ 2 * (length l.pairs + l.at);
  before : TellsPlaces l.self (l.pairs ++ l.more) (length l.pairs);
  tells : TellsPlaces l.self (l.pairs ++ l.more) (length l.pairs + l.at);
  new : list_any (is_again l.pairs) l.more ≡ list_any (is_again l.pairs) (drop l.at l.more);
}
