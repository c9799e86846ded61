use Rattle.std.proofs.Common.{◌≡◌, ◌++◌, take, Some}
use Rattle.iscsi_text.specs.Pairs.{text_of}
use Rattle.iscsi_exchange.specs.SendTargets.{asked_pairs}
use Rattle.iscsi_exchange.proofs.send_targets.put_named.Given as goal

abbrev pub invariant-loop-at : goal.invariant-loop-at
invariant-loop-at l = l.answer.items ≡ l.initial.answer.items ++ text_of (asked_pairs l.directory.portal (Some l.asked) (take l.at l.directory.names))
