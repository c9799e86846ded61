use Rattle.std.proofs.Common.{◌≡◌, ◌++◌, take, drop}
use Rattle.std.specs.List.{filter_map}
use Rattle.iscsi_text.specs.Pairs.{text_of}
use Rattle.iscsi_login.specs.Login.{answered_pair}
use Rattle.iscsi_login.specs.Values.{with_pairs}
use Rattle.iscsi_login.proofs.answer.put_results.Given as goal

-- what is left is still to be answered, and to come into force
abbrev pub invariant-loop-at : goal.invariant-loop-at
invariant-loop-at l = record {
  answered : l.text.items ≡ l.initial.text.items ++ text_of (filter_map answered_pair (take l.at l.offers));
  in_force : with_pairs l.fn.before l.offers ≡ with_pairs l.values (drop l.at l.offers);
}
