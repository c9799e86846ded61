use Rattle.std.proofs.Common.{◌≡◌, take}
use Rattle.iscsi_text.specs.Pairs.{text_of}
use Rattle.iscsi_exchange.specs.SendTargets.{pairs_answer}
use Rattle.iscsi_exchange.proofs.send_targets.answer_text.Given as goal

abbrev pub invariant-loop-at : goal.invariant-loop-at
invariant-loop-at l = l.answer.items ≡ text_of (pairs_answer l.params (take l.at l.said))
