use Rattle.std.proofs.Common.{◌≡◌, List, ℕ, length, Bor}
use Rattle.iscsi_text.proofs.Pieces.{IsReadUpTo}
use Rattle.iscsi_text.proofs.Keys.{holds_key, has_key_among}
use Rattle.iscsi_text.proofs.reading.pairs.Given as goal

abbrev pub invariant-loop-rest : goal.invariant-loop-rest
invariant-loop-rest l = record {
  read : IsReadUpTo l.text l.pairs l.rest;
  keys : (key : Bor (List ℕ)) → holds_key l.keys key ≡ has_key_among l.pairs key.now;
}

abbrev pub decreases-loop-rest : goal.decreases-loop-rest
decreases-loop-rest l = length l.rest
