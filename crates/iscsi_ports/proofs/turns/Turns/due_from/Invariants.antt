use Rattle.std.proofs.Common.{◌≡◌}
use Rattle.iscsi_ports.specs.Turns.{due_from}
use Rattle.iscsi_ports.proofs.turns.Turns.due_from.Given as goal

-- none was found so far
abbrev pub invariant-loop-c : goal.invariant-loop-c
invariant-loop-c l = due_from l.ready l.self l.fn.from ≡ due_from l.ready l.self l.c
