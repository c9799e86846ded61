use Rattle.std.proofs.Common.{◌≡◌, take}
use Rattle.iscsi_text.specs.Pairs.{text_of}
use Rattle.iscsi_text.proofs.writing.text.Given as goal

abbrev pub invariant-loop-at : goal.invariant-loop-at
invariant-loop-at l = l.bytes.items ≡ text_of (take l.at l.pairs)
