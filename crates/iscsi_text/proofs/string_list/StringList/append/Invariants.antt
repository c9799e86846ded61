use Rattle.std.proofs.Common.{◌≡◌, ◌++◌, take}
use Rattle.iscsi_text.proofs.string_list.StringList.append.Given as goal

abbrev pub invariant-loop-at : goal.invariant-loop-at
invariant-loop-at l = l.self ≡ l.initial.self ++ take l.at l.more
